-- `reached` meets its contract: so many hops lead to the place that is reached.
use Rattle.std.proofs.Common.{◌≡◌, ◌+◌, ◌*◌, ◌≤◌}
use Rattle.format.specs.Table.{limit}
use Rattle.build.specs.Write.{hops}
use Rattle.build.proofs.reached.Given as goal

abbrev pub invariant-loop : goal.invariant-loop
invariant-loop l = (l.place ≤ limit + 255 * l.counter) × (hops l.out l.counter 36 ≡ l.place)
