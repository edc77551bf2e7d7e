-- `target` meets its contract: behind a matrix whose counts are as wide, an index below T.
use mathlib.Core.Path.{refl, sym, ap, ◌∙◌}
use mathlib.Core.List.{[], ◌∷◌}
use lib.Dec.{ltb}
use Rattle.std.proofs.lemmas.Result.{err_from_is_err_and}
use Rattle.format.specs.Bytes.{at}
use Rattle.format.specs.Layout.{refs_good}
use Rattle.format.specs.Kind.{Target, body}
use Rattle.format.specs.Recipe.{step}
use Rattle.format.specs.Field.{bad_in}
use Rattle.field.specs.Place.{place_or_none}
use Rattle.field.proofs.Places.{none-place, some-place, some-above}
use Rattle.hmat.specs.Widths.{meant_width}
use Rattle.recipe.specs.Machine.{counts}
use Rattle.recipe.proofs.Steps.{set-counted}
use Rattle.recipe.proofs.target.Goals as goal

pub returns-in_err-targets : goal.returns-in_err-targets
unfolding body step refs_good
returns-in_err-targets c t u ns p e =
    let a = c.args in
    let w = meant_width a.width in
    let r = err_from_is_err_and c.from_residual.result c.from_residual.ensures.1 in
    rw (r.1, r.2) (sym (set-counted t u (counts a.st) p a.bytes.now w (Target w) refl _ _ _ a.st.short (λ ms. refl) (λ ok vs. refl) a.width refl ns e ∙ rw (sym c.counted.ensures ∙ c.in_err-targets.was)))

pub returns-in-Some : goal.returns-in-Some
unfolding body step refs_good
returns-in-Some c t u ns p e =
    let a = c.args in
    let w = meant_width a.width in
    let h = sym c.in-Some.is ∙ c.bad_field.ensures w ∙ ap (λ vs. place_or_none (bad_in (Target w) (ltb (at vs 0) c.in_ok-targets.targets ∷ []))) c.from_body.ensures in
    sym (set-counted t u (counts a.st) p a.bytes.now w (Target w) refl _ _ _ a.st.short (λ ms. refl) (λ ok vs. refl) a.width refl ns e
    ∙ rw (sym c.counted.ensures ∙ c.in_ok-targets.was, some-above _ h, some-place _ h))

pub returns : goal.returns
unfolding body step refs_good
returns c t u ns p e =
    let a = c.args in
    let w = meant_width a.width in
    let h = sym c.in_default.is ∙ c.bad_field.ensures w ∙ ap (λ vs. place_or_none (bad_in (Target w) (ltb (at vs 0) c.in_ok-targets.targets ∷ []))) c.from_body.ensures in
    sym (set-counted t u (counts a.st) p a.bytes.now w (Target w) refl _ _ _ a.st.short (λ ms. refl) (λ ok vs. refl) a.width refl ns e
    ∙ rw (sym c.counted.ensures ∙ c.in_ok-targets.was, none-place _ h))
