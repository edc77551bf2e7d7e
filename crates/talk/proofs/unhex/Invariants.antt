-- `talk::unhex` meets its contract. The invariant: the bytes still to come, laid over what there is, give the answer.
use Rattle.std.proofs.Common.{◌≡◌, ◌*◌, drop}
use Rattle.format.specs.Bytes.{over}
use Rattle.talk.specs.Hex.{pairs}
use Rattle.talk.proofs.unhex.Given as goal

abbrev pub invariant-loop-i : goal.invariant-loop-i
invariant-loop-i l = over l.out l.i (pairs (drop (2 * l.i) l.text)) ≡ over l.initial.out 0 (pairs l.text)
