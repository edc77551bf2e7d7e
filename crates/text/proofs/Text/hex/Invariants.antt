-- `Text::hex` meets its contract. The invariant: the digits still to come, behind those that have come, give the answer.
use Rattle.std.proofs.Common.{◌≡◌, drop}
use Rattle.text.specs.Text.{pairs, with}
use Rattle.text.proofs.Text.hex.Given as goal

abbrev pub invariant-loop-b : goal.invariant-loop-b
invariant-loop-b l = with l.self (pairs (drop l.b-index l.s)) ≡ with l.initial.self (pairs l.s)
