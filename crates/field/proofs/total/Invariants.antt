-- `total` meets its contract. The invariant: the widths so far and those still to come are all of them, as far as a usize reaches.
use Rattle.std.proofs.Common.{◌≡◌, ◌+◌, ◌-◌, ◌^◌, ◌<◌, ◌≤◌, min, length, drop}
use Rattle.format.specs.Bytes.{sum}
use Rattle.field.proofs.total.Given as goal

abbrev pub invariant-loop-w : goal.invariant-loop-w
invariant-loop-w l = (l.n < 2 ^ 64) × (l.w-index ≤ length l.ws) × (min (l.n + sum (drop l.w-index l.ws)) (2 ^ 64 - 1) ≡ min (sum l.ws) (2 ^ 64 - 1))
