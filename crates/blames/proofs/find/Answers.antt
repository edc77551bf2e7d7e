-- `find` meets its contract: each way through its tests is a case of the words.
use mathlib.Core.Path.{sym, ap, ◌∙◌}
use Rattle.header.specs.Header.{coded_as}
use Rattle.text.proofs.Texts.{end}
use Rattle.blames.proofs.Heads.{no-head, past_end, inside, behind, no_table}
use Rattle.blames.proofs.find.Goals as goal

pub returns-then-get-ne-KIND : goal.returns-then-get-ne-KIND
returns-then-get-ne-KIND c =
    let a = c.args in
    sym (end a.text.now (no-head a.recipe.now a.place (λ e. c.if-get-ne-KIND.true (c.get.ensures ∙ e))))

pub returns-then-recipe-place : goal.returns-then-recipe-place
returns-then-recipe-place c =
    let a = c.args in
    sym (end a.text.now (past_end a.recipe.now a.place (sym c.get.ensures ∙ c.if-get-ne-KIND.false) c.if-recipe-place.true))

pub returns-then-place-lt-HEAD_LEN : goal.returns-then-place-lt-HEAD_LEN
returns-then-place-lt-HEAD_LEN c =
    let a = c.args in
    c.in_head.ensures ∙ rw (inside a.recipe.now a.place (sym c.get.ensures ∙ c.if-get-ne-KIND.false) c.if-recipe-place.false c.if-place-lt-HEAD_LEN.true)

pub returns-in-Some : goal.returns-in-Some
returns-in-Some c =
    let a = c.args in
    let z = rw c.get-2.ensures at (sym c.of_code.ensures ∙ ap coded_as c.in-Some.is) in
    rw (behind a.recipe.now a.place (sym c.get.ensures ∙ c.if-get-ne-KIND.false) c.if-recipe-place.false c.if-place-lt-HEAD_LEN.false _ z) c.behind_head.ensures

pub returns-in-None : goal.returns-in-None
returns-in-None c =
    let a = c.args in
    let z = rw c.get-2.ensures at (sym c.of_code.ensures ∙ ap coded_as c.in-None.is) in
    sym (end a.text.now (no_table a.recipe.now a.place (sym c.get.ensures ∙ c.if-get-ne-KIND.false) c.if-recipe-place.false c.if-place-lt-HEAD_LEN.false z))
