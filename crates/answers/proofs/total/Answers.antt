-- `total` meets its contract: the words of the sum, and the line's end behind them; a sum's parts make the sum.
use mathlib.Core.Path.{◌∙◌}
use Rattle.text.proofs.Texts.{next}
use Rattle.field.proofs.Parts.{whole-number}
use Rattle.answers.specs.Lines.{total}
use Rattle.answers.proofs.total.Goals as goal

pub returns : goal.returns
unfolding total
returns c =
    next _ _ _ c.summed.ensures c.byte.ensures ∙ rw (c.u8sum.ensures, whole-number)
