-- `put` meets its contract. The invariant: the bytes still to come, laid over what there is, give the answer.
use Rattle.std.proofs.Common.{◌≡◌, ◌+◌, ◌-◌, ◌≤◌, length}
use Rattle.format.specs.Bytes.{le, over}
use Rattle.field.proofs.put_low.Given as goal

abbrev pub invariant-loop-i : goal.invariant-loop-i
invariant-loop-i l =
    (l.i ≤ l.n) × (length l.out ≡ length l.initial.out) × (over l.out (l.at + l.i) (le (l.w - l.i) l.rest) ≡ over l.initial.out l.at (le l.w l.v))

abbrev pub decreases-loop-i : goal.decreases-loop-i
decreases-loop-i l = l.n - l.i
