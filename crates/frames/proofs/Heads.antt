-- The header: two byte strings compared, and the tests of a header in the order in which the code makes them.
use mathlib.Core.Path.{◌≡◌, refl, sym, ◌∙◌}
use Prim.Native.Nat.{ℕ, ◌≤◌, ◌<◌}
use mathlib.Core.List.{List, [], ◌∷◌}
use mathlib.Core.Logic.{◌⊎◌, inl, inr}
use mathlib.Core.Bool.{Bool, true, false, not, ◌&&◌}
use lib.ListN.{length, drop}
use lib.Dec.{eqb, leb}
use borrow.Author.Tests.{eq-eqb, ne_eqb, eqb-true, le-leb, lt-leb}
use Rattle.std.specs.Cmp.Lexicographic.{pointwise}
use Rattle.format.specs.Bytes.{pick, both, all, first_of, same}
use Rattle.format.specs.Layout.{fixed_ok}
use Rattle.format.specs.Table.{Table, tail, front, limit}
use Rattle.format.specs.Read.{length_in, right, head_fault}

-- what `==` says of two byte strings
pub eq-same : (a b : List ℕ) → pointwise eqb a b ≡ same a b
unfolding same
eq-same [] [] = refl
eq-same [] (y ∷ ys) = refl
eq-same (x ∷ xs) [] = refl
eq-same (x ∷ xs) (y ∷ ys) = rw (eq-same xs ys) (by (eqb x y))
  where
    by : (e : Bool) → (e && same xs ys) ≡ both e (same xs ys)
    by true = refl
    by false = refl

eqb-turn : (x y : ℕ) → eqb x y ≡ eqb y x
eqb-turn x y = by (eqb y x) refl
  where
    by : (e : Bool) → eqb y x ≡ e → eqb x y ≡ e
    by true e = eq-eqb x y (sym (eqb-true y x e))
    by false e = ne_eqb x y (λ z. let n : true ≡ false = sym (eq-eqb y x (sym z)) ∙ e in cc)

-- what `starts_with` says of them
pub starts-same : (a b : List ℕ) → pointwise eqb a b ≡ same b a
unfolding same
starts-same [] [] = refl
starts-same [] (y ∷ ys) = refl
starts-same (x ∷ xs) [] = refl
starts-same (x ∷ xs) (y ∷ ys) = rw (starts-same xs ys, eqb-turn x y) (by (eqb y x))
  where
    by : (e : Bool) → (e && same ys xs) ≡ both e (same ys xs)
    by true = refl
    by false = refl

-- 22, 23, 24, one test after the other
tests : (a b c d e : Bool) → first_of ((not (all (a ∷ b ∷ c ∷ [])), 22) ∷ (not d, 23) ∷ (not e, 24) ∷ []) ≡ pick a (pick b (pick c (pick d (pick e 0 24) 23) 22) 22) 22
tests false b c d e = refl
tests true false c d e = refl
tests true true false d e = refl
tests true true true false e = refl
tests true true true true false = refl
tests true true true true true = refl

module _ (t : Table) (b : List ℕ) where
  pub head-fault : head_fault t b
      ≡ pick (leb (front t) (length_in b)) (pick (leb (length_in b) (length b)) (pick (leb (length_in b) limit) (pick (right b) (pick (fixed_ok (tail t) (drop 36 b)) 0 24) 23) 22) 22) 22
  unfolding head_fault
  head-fault = tests (leb (front t) (length_in b)) (leb (length_in b) (length b)) (leb (length_in b) limit) (right b) (fixed_ok (tail t) (drop 36 b))

  -- where the length n is good, sum and front are left to test
  pub head-long : (n f : ℕ) → n ≡ length_in b → f ≡ front t → f ≤ n → n ≤ length b → n ≤ limit → head_fault t b ≡ pick (right b) (pick (fixed_ok (tail t) (drop 36 b)) 0 24) 23
  head-long n f i j k l m =
      let x : front t ≤ length_in b = rw (← i, ← j) k in
      let y : length_in b ≤ length b = rw (← i) l in
      let z : length_in b ≤ limit = rw (← i) m in
      head-fault ∙ rw (le-leb _ _ x, le-leb _ _ y, le-leb _ _ z)

  -- where it is below the front, past what is lent or past the limit, nothing else is tested
  pub head-short : (n f : ℕ) → n ≡ length_in b → f ≡ front t → (n < f) ⊎ ((f ≤ n) × (length b < n)) ⊎ ((f ≤ n) × (n ≤ length b) × (limit < n)) → head_fault t b ≡ 22
  head-short n f i j (inl k) = head-fault ∙ rw (← i, ← j, lt-leb f n k)
  head-short n f i j (inr (inl (k, l))) = head-fault ∙ rw (← i, ← j, le-leb f n k, lt-leb n (length b) l)
  head-short n f i j (inr (inr (k, l, m))) = head-fault ∙ rw (← i, ← j, le-leb f n k, le-leb n (length b) l, lt-leb n limit m)
