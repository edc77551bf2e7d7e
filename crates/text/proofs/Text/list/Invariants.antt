-- `Text::list` meets its contract. The invariant: the numbers still to come, behind those that have come, give the answer.
use Rattle.std.proofs.Common.{◌≡◌, drop}
use Rattle.text.specs.Text.{others, with}
use Rattle.text.proofs.Text.list.Given as goal

abbrev pub invariant-loop-v : goal.invariant-loop-v
invariant-loop-v l = with l.self (others (drop l.v-index l.others)) ≡ with l.initial.self (others l.others)
