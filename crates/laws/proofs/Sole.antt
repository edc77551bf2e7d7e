-- Two outcomes that meet one contract are equal: a contract equates the outcome with one thing, or what the answer stands for, from which the answer is read back.
use mathlib.Core.Path.{◌≡◌, sym, ap, ◌∙◌}

-- an equation on the outcome itself
pub sole {ℓ} : {A : Type ℓ} {a b c : A} → a ≡ c → b ≡ c → a ≡ b
sole e f = e ∙ sym f

-- an equation on what the answer stands for
pub sole-meant : {A B : Type 0} (meant : A → B) (back : B → A) → ((a : A) → back (meant a) ≡ a) → (a b : A) (c : B) → meant a ≡ c → meant b ≡ c → a ≡ b
sole-meant meant back inverse a b c e f = sym (inverse a) ∙ ap back (sole e f) ∙ inverse b

-- two outcomes, each an answer and a buffer
pub sole-pair : {A B : Type 0} {a b : A} {x y : B} → a ≡ b → x ≡ y → ◌≡◌ {A = A × B} (a, x) (b, y)
sole-pair e f = rw (e, f)
