-- `lists::listing` meets its contract: of an accepted table its first line and those of its records, of another the refusal.
use mathlib.Core.Path.{ap, sym, ◌∙◌}
use Rattle.text.specs.Text.{with}
use Rattle.text.proofs.Texts.{next}
use Rattle.read.specs.Answers.{accepted_as}
use Rattle.lists.proofs.Turns.{lines-given, lines-refused}
use Rattle.lists.proofs.listing.Goals as goal

pub returns-in-Ok : goal.returns-in-Ok
returns-in-Ok c =
    let a = c.args in
    next _ _ _ c.first_line.ensures c.record_lines.ensures ∙ ap (with a.text.now) (lines-given a.table.now _ (sym (ap accepted_as c.in-Ok.is) ∙ c.accept.ensures))

pub returns-in-Err : goal.returns-in-Err
returns-in-Err c =
    let a = c.args in
    next _ _ _ c.refused.ensures c.byte.ensures
    ∙ rw (c.place.ensures, c.number.ensures)
    (ap (with a.text.now) (lines-refused a.table.now _ _ (sym (ap accepted_as c.in-Err.is) ∙ c.accept.ensures)))
