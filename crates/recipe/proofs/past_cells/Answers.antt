-- The answers that the search does not find.
use mathlib.Core.Path.{◌≡◌, sym, ◌∙◌}
use Prim.Native.Nat.{◌+◌}
use native.Mathlib.Omega.{arith}
use borrow.Author.Rules.{rules}
use Rattle.format.specs.Kind.{Cell}
use denote.Enum.Bare.{differs_false}
use Rattle.header.specs.contracts.Table.{the_type}
use Rattle.hmat.specs.Widths.{meant_width}
use Rattle.recipe.proofs.Numbers.{body-short}
use Rattle.recipe.proofs.Walks.{cell-fits, cell-passed}
use Rattle.recipe.proofs.past_cells.Goals as goal

pub returns-then-ne : goal.returns-then-ne
returns-then-ne c = (search rules, λ h q ws w. w)

pub returns-in_default : goal.returns-in_default
returns-in_default c = (search rules, λ h q ws w. w)

pub overflow_add-len : goal.overflow_add-len
overflow_add-len c = omega (arith, c.body_len-len.ensures, body-short (Cell (meant_width c.in-Matrix.width)))

pub loop-width-init : goal.loop-width-init
loop-width-init c = (search rules, λ h q s ws o n w. w)

pub overflow_add-at : goal.overflow_add-at
overflow_add-at c =
    let x = meant_width c.in-Matrix.width in
    let f = cell-fits x c.args.recipe.now c.loop-width.at _ _ (sym c.stands.ensures ∙ c.loop-width-test.true) in
    omega (arith, c.body_len-len.ensures, f)

pub loop-width-smaller : goal.loop-width-smaller
loop-width-smaller c =
    let x = meant_width c.in-Matrix.width in
    let f = cell-fits x c.args.recipe.now c.loop-width.at _ _ (sym c.stands.ensures ∙ c.loop-width-test.true) in
    omega (arith, c.body_len-len.ensures, f)

pub loop-width-preserved : goal.loop-width-preserved
loop-width-preserved c =
    let e : c.loop-width.at + (1 + c.body_len-len.result) ≡ c.loop-width.at + 1 + c.body_len-len.result = omega arith in (
      omega (arith, c.loop-width.invariant.0),
      λ h q s ws o n w. rw (e, c.body_len-len.ensures) (cell-passed _ h q c.loop-width.at s ws (c.loop-width.invariant.1 h q s ws o n w) _ _ _ o n (sym c.stands.ensures ∙ c.loop-width-test.true)),
    )

pub returns : goal.returns
returns c =
    (c.loop-width.invariant.0, λ h q ws w. c.loop-width.invariant.1 h q c.args.st ws (differs_false the_type (search rules) _ _ (sym c.ne.ensures ∙ c.if-ne.false)) c.in-Matrix.is w)
