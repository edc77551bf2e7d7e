-- What the check answers is what the call answers, and build answers the same where there is room: by cases on what a recipe means.
use mathlib.Core.Path.{◌≡◌, refl, ap, ◌∙◌}
use Prim.Native.Nat.{ℕ}
use mathlib.Core.List.{List}
use Rattle.format.specs.Bytes.{Answer, refused, given, and_then}
use Rattle.format.specs.Table.{Table}
use Rattle.format.specs.Build.{length_of, fitting, build}
use Rattle.format.specs.Recipe.{Meaning, meaning}
use Rattle.recipe.specs.Answers.{outlined}
use Rattle.acpi.specs.Calls.{checked}

-- the length alone of what the check gives
abbrev pub length_in : Answer (Table × ℕ) → Answer ℕ
length_in a = and_then a (λ x. given x.1)

pub is-checked : (r : List ℕ) {a : Answer (Table × ℕ)} → a ≡ outlined (meaning r) → length_in a ≡ checked r
unfolding checked
is-checked r e = ap length_in e ∙ by (meaning r)
  where
    by : (m : Answer Meaning) → length_in (outlined m) ≡ and_then m (λ m. given (length_of m))
    by (refused n p) = refl
    by (given m) = refl

-- a recipe builds as it is checked, where there is room
pub builds-checked : (r : List ℕ) (room : ℕ) → build r room ≡ and_then (checked r) (fitting 9 room)
unfolding build checked
builds-checked r room = by (meaning r)
  where
    by : (m : Answer Meaning) → and_then m (λ m. fitting 9 room (length_of m)) ≡ and_then (and_then m (λ m. given (length_of m))) (fitting 9 room)
    by (refused n p) = refl
    by (given m) = refl
