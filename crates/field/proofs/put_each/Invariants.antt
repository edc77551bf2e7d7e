-- `put_each` meets its contract. The invariant: the numbers still to come, laid over what there is, give the answer.
use Rattle.std.proofs.Common.{◌≡◌, ◌^◌, ◌<◌, length}
use Rattle.format.specs.Bytes.{join, over}
use Rattle.field.proofs.put_each.Given as goal

abbrev pub invariant-loop-w : goal.invariant-loop-w
invariant-loop-w l =
    (l.p < 2 ^ 64) × (length l.out ≡ length l.initial.out) × (over l.out l.p (join l.w-iterator.a.rest.now l.w-iterator.b.rest.now) ≡ over l.initial.out l.at (join l.ws l.vs))
