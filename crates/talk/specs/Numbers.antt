-- Decimal numbers as text.
use Rattle.std.specs.Prelude.{ℕ, ◌+◌, ◌*◌, ◌-◌, List, [], ◌∷◌, ltb, leb, Option, Some, None}
use Rattle.format.specs.Bytes.{pick}

-- v with the digit b, 48 to 57, behind it, where that is at most most
unfoldable pub step_to : ℕ → ℕ → ℕ → Option ℕ
step_to most v b =
    pick (ltb b 48) None
    (pick (ltb 57 b) None
    (pick (leb (v * 10 + (b - 48)) most) (Some (v * 10 + (b - 48))) None))

-- f of a number; where there is none, none
abbrev pub onto : Option ℕ → (ℕ → Option ℕ) → Option ℕ
onto None f = None
onto (Some v) f = f v

-- a number and the digits that follow it
unfoldable pub number_from : ℕ → ℕ → List ℕ → Option ℕ
number_from most v [] = Some v
number_from most v (b ∷ bs) = onto (step_to most v b) (λ (w : ℕ). number_from most w bs)

-- the number of a word, which has a digit at least
unfoldable pub number_in : ℕ → List ℕ → Option ℕ
number_in most [] = None
number_in most (b ∷ bs) = number_from most 0 (b ∷ bs)
