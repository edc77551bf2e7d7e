-- `talk::decimal` meets its contract. The invariant: the number so far and the digits that the loop has not passed yet give the answer.
use Rattle.std.proofs.Common.{◌≡◌, drop}
use Rattle.talk.specs.Numbers.{number_from, number_in}
use Rattle.talk.proofs.decimal.Given as goal

abbrev pub invariant-loop-b : goal.invariant-loop-b
invariant-loop-b l = number_in l.most l.text ≡ number_from l.most l.v (drop l.b-index l.text)
