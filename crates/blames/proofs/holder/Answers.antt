-- The answers that the search does not find.
use mathlib.Core.Path.{refl, sym, ap, ◌∙◌}
use native.Mathlib.Omega.{arith}
use borrow.Author.Tests.{lt-ltb, le-ltb}
use Rattle.recipe.specs.Kinds.{meant_kind, named}
use Rattle.recipe.proofs.Numbers.{no_kind_lem, body-short}
use Rattle.blames.proofs.Records.{holder-end, holder-unknown, holder-next}
use Rattle.blames.proofs.holder.Goals as goal

pub loop-at-init : goal.loop-at-init
loop-at-init c = refl

pub returns-in_default : goal.returns-in_default
returns-in_default c =
    let e = sym c.kind_of.ensures.result_value ∙ no_kind_lem c.kind_of.result c.in_default.not-Ok in
    sym (holder-unknown _ _ _ _ c.loop-at-test.true e) ∙ c.loop-at.invariant

pub overflow_add-end-in-loop-at : goal.overflow_add-end-in-loop-at
overflow_add-end-in-loop-at c = omega (arith, body-short (meant_kind c.in-Ok.kind))

pub returns-then-place-end : goal.returns-then-place-end
returns-then-place-end c =
    let e = sym c.kind_of.ensures.result_value ∙ ap named c.in-Ok.is in
    sym (holder-next _ _ _ _ c.loop-at-test.true _ e ∙ rw (lt-ltb _ _ (rw c.body_len.ensures at c.if-place-end.true))) ∙ c.loop-at.invariant

pub loop-at-smaller : goal.loop-at-smaller
loop-at-smaller c =
    omega (arith, c.loop-at-test.true)

pub loop-at-preserved : goal.loop-at-preserved
loop-at-preserved c =
    let e = sym c.kind_of.ensures.result_value ∙ ap named c.in-Ok.is in
    let q = c.body_len.ensures in
    rw q (sym (holder-next _ _ _ _ c.loop-at-test.true _ e ∙ rw (le-ltb _ _ (rw q at c.if-place-end.false))) ∙ c.loop-at.invariant)

pub returns : goal.returns
returns c = sym (holder-end _ _ _ _ c.loop-at-test.false) ∙ c.loop-at.invariant
