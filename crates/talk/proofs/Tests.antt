-- What the tests of bytes and words say of the definitions.
use mathlib.Core.Path.{◌≡◌, refl}
use Prim.Native.Nat.{ℕ, suc, ◌+◌, ◌≤◌, ◌<◌}
use mathlib.Core.List.{List, [], ◌∷◌}
use mathlib.Core.Bool.{Bool, true, false, ◌&&◌}
use native.Mathlib.Omega.{arith}
use borrow.Author.Tests.{eq-eqb, ne_eqb}
use lib.Dec.{eqb}
use lib.ListN.{length}
use lib.Pointwise.{pointwise}
use Rattle.std.specs.Prelude.{is_some, unwrap_or}
use Rattle.std.specs.List.{list_all}
use Rattle.std.proofs.lemmas.Grind.{common_steps}
use Rattle.format.specs.Bytes.{pick, both, same}
use Rattle.talk.specs.Words.{space_in}
use Rattle.talk.specs.Hex.{value_of, all_hex, all_are}

-- ---- bytes

pub both-and : (x y : Bool) → both x y ≡ (x && y)
both-and true y = refl
both-and false y = refl

pub same_pointwise : (xs ys : List ℕ) → same xs ys ≡ pointwise eqb xs ys
unfolding same
same_pointwise [] [] = refl
same_pointwise [] (y ∷ ys) = refl
same_pointwise (x ∷ xs) [] = refl
same_pointwise (x ∷ xs) (y ∷ ys) = rw (same_pointwise xs ys) (both-and (eqb x y) (pointwise eqb xs ys))

pub all_are-all : (v : ℕ) (s : List ℕ) → all_are v s ≡ list_all (λ b. eqb b v) s
unfolding all_are
all_are-all v [] = refl
all_are-all v (b ∷ bs) = rw (all_are-all v bs) (both-and (eqb b v) (list_all (λ b. eqb b v) bs))

pub all_hex-all : (s : List ℕ) → all_hex s ≡ list_all (λ b. is_some (value_of b)) s
unfolding all_hex
all_hex-all [] = refl
all_hex-all (b ∷ bs) = rw (all_hex-all bs) (both-and (is_some (value_of b)) (list_all (λ b. is_some (value_of b)) bs))

-- ---- the first space

pub space_none : space_in [] ≡ 0
unfolding space_in
space_none = refl

module _ (b : ℕ) (bs : List ℕ) where
  pub space_here : b ≡ 32 → space_in (b ∷ bs) ≡ 0
  unfolding space_in
  space_here h = rw (eq-eqb b 32 h)

  pub space_behind : (b ≡ 32 → ⊥) → space_in (b ∷ bs) ≡ space_in bs + 1
  unfolding space_in
  space_behind h = rw (ne_eqb b 32 h) (omega arith)

pub space-most : (s : List ℕ) → space_in s ≤ length s
unfolding space_in
space-most [] = omega arith
space-most (b ∷ bs) = by (eqb b 32) (space-most bs)
  where
    by : (x : Bool) → space_in bs ≤ length bs → pick x 0 (suc (space_in bs)) ≤ suc (length bs)
    by true h = omega arith
    by false h = omega arith

-- ---- digits

pub value_few : (b : ℕ) → unwrap_or (value_of b) 0 < 16
unfolding value_of
value_few b = grind (arith, common_steps)
