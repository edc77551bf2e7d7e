-- A place that may be missing, and the number that stands for it.
use Rattle.std.proofs.Common.{◌≡◌, ℕ, zero, suc, refl, sym, ◌∙◌, ap, Bool, true, false, eqb}
use Rattle.std.specs.Prelude.{Option, Some, None, is_some, not}
use borrow.Author.Tests.{ne_eqb}
use Rattle.field.specs.Place.{place_or_none}

pub none-place : (n : ℕ) → None ≡ place_or_none n → n ≡ 0
none-place zero e = refl
none-place (suc n) e = cc

pub some-place : (n : ℕ) {p : ℕ} → Some p ≡ place_or_none n → n ≡ p
some-place zero e = cc
some-place (suc n) e = cc

pub some-above : (n : ℕ) {p : ℕ} → Some p ≡ place_or_none n → eqb n 0 ≡ false
some-above zero e = cc
some-above (suc n) e = ne_eqb (suc n) 0 (λ z. cc)

-- there is none just where the number is 0
pub eqb-place : {o : Option ℕ} (n : ℕ) → o ≡ place_or_none n → eqb n 0 ≡ not (is_some o)
eqb-place {o} n e = by n ∙ ap (λ (o : Option ℕ). not (is_some o)) (sym e)
  where
    by : (n : ℕ) → eqb n 0 ≡ not (is_some (place_or_none n))
    by zero = refl
    by (suc n) = ne_eqb (suc n) 0 (λ z. cc)

-- a test that there is none, as code makes it
pub is_none-place : {o : Option ℕ} (n : ℕ) {b : Bool} → o ≡ place_or_none n → is_some o ≡ not b → b ≡ eqb n 0
is_none-place n {b} e h = sym (rw h at (eqb-place n e) ∙ twice b)
  where
    twice : (b : Bool) → not (not b) ≡ b
    twice true = refl
    twice false = refl
