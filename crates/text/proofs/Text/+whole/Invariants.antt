-- The measure of `Text::whole`: the high part of the number.
use Rattle.text.proofs.Text.+whole.Given as goal

abbrev pub decreases-whole : goal.decreases-whole
decreases-whole l = l.v.high
