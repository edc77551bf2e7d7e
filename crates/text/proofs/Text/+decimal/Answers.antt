-- `Text::decimal` meets its contract: a tenth of the number stands first, and its last digit behind that.
use mathlib.Core.Path.{◌∙◌}
use native.Mathlib.Omega.{arith}
use borrow.Author.Rules.{rules}
use Rattle.text.proofs.Texts.{next}
use Rattle.text.proofs.Digits.{digits-one, digits_more}
use Rattle.text.proofs.Text.+decimal.Goals as goal

pub returns-then-v-lt10 : goal.returns-then-v-lt10
returns-then-v-lt10 t c = c.byte.ensures ∙ rw (digits-one c.args.v (omega arith))

pub returns : goal.returns
returns t c = rw (digits_more 18 c.args.v (omega arith) (omega arith)) (search (rules, next))
