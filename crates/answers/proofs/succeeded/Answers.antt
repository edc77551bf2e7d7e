-- `succeeded` meets its contract: its words one behind the other.
use Rattle.answers.proofs.Laws.{succeeds}
use Rattle.text.proofs.Texts.{next}
use Rattle.text.specs.Text.{with}
use mathlib.Core.Path.{ap, ◌∙◌}
use Rattle.answers.proofs.succeeded.Goals as goal

pub returns : goal.returns
returns c =
    let a = c.args in
    next _ _ _ c.bytes.ensures (next _ _ _ c.spaced.ensures (next _ _ _ c.byte.ensures (next _ _ _ c.hex.ensures c.last_word.ensures)))
    ∙ ap (with a.text.now) (succeeds a.len a.out.now _ _ _ c.first.ensures c.rest.ensures c.all_are-kept.ensures)
