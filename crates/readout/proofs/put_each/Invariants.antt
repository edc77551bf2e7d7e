-- `put_each` meets its contract. The invariant: what the numbers so far give is laid.
use Rattle.readout.specs.Laid.{Laid, up_to}
use Rattle.readout.proofs.put_each.Given as goal

abbrev pub invariant-loop-i : goal.invariant-loop-i
invariant-loop-i g l = Laid l.initial.out l.out l.at (up_to g.calls.of l.i) l.p
