-- A field's name goes by its distance from the first one, by induction over the body; before that there is none.
use mathlib.Core.Path.{◌≡◌, refl, ap}
use Prim.Native.Nat.{ℕ, ◌+◌, ◌-◌, ◌≤◌, ◌<◌}
use mathlib.Core.List.{List, [], ◌∷◌, ◌++◌}
use mathlib.Core.Bool.{Bool, true, false}
use native.Mathlib.Omega.{arith}
use native.Mathlib.Nat.{add_assoc}
use borrow.Author.Tests.{eq-eqb, ne_eqb, eqb-true, eqb-false}
use lib.Dec.{eqb}
use Rattle.std.specs.Bool.{◌==◌}
use lib.ListN.{length}
use Rattle.format.specs.Layout.{Item, wide}
use Rattle.format.specs.Kind.{Kind, body}
use Rattle.format.specs.Listing.{spaced}
use Rattle.text.specs.Text.{text}
use Rattle.blames.specs.Words.{record_name, field_names, name_at, of_the, field_of, words}

-- ---- names

eqb-add : (q a b : ℕ) → eqb (q + a) (q + b) ≡ eqb a b
eqb-add q a b = by (eqb a b) refl
  where
    by : (x : Bool) → eqb a b ≡ x → eqb (q + a) (q + b) ≡ x
    by true e = let h = eqb-true a b e in eq-eqb (q + a) (q + b) (omega arith)
    by false e = ne_eqb (q + a) (q + b) (λ h. eqb-false a b e (omega arith))

name-moved : (q p : ℕ) (is : List Item) (ns : List (List ℕ)) (place : ℕ) → name_at (q + p) is ns (q + place) ≡ name_at p is ns place
unfolding name_at
name-moved q p [] ns place = refl
name-moved q p (i ∷ is) [] place = refl
name-moved q p (i ∷ is) (n ∷ ns) place = rw (eqb-add q place p, add_assoc q p (wide i), name-moved q (p + wide i) is ns place)

name-before : (p : ℕ) (is : List Item) (ns : List (List ℕ)) (place : ℕ) → place < p → name_at p is ns place ≡ []
unfolding name_at
name-before p [] ns place h = refl
name-before p (i ∷ is) [] place h = refl
name-before p (i ∷ is) (n ∷ ns) place h = rw (ne_eqb place p (λ e. omega arith), name-before (p + wide i) is ns place (omega arith))

-- behind a kind byte at p
pub field-behind : (k : Kind) (p place : ℕ) → p < place → field_of k (p + 1) place ≡ field_of k 0 (place - p - 1)
unfolding field_of
field-behind k p place h =
    let e : p + 1 + (place - p - 1) ≡ place = omega arith in
    let z : p + 1 + 0 ≡ p + 1 = omega arith in
    ap (λ s. of_the s (record_name k)) (rw (e, z) at (name-moved (p + 1) 0 (body k) (field_names k) (place - p - 1)))

-- not behind it
pub field-before : (k : Kind) (p place : ℕ) → place ≤ p → field_of k (p + 1) place ≡ []
unfolding field_of of_the
field-before k p place h = rw (name-before (p + 1) (body k) (field_names k) place (omega arith))

-- ---- words

-- behind a field stands its record's place
pub words-there : (s : List ℕ) (p : ℕ) → (length s == 0) ≡ false → words s p ≡ s ++ (text " at" ++ spaced p)
unfolding words
words-there (c ∷ cs) p h = refl
words-there [] p h = absurd (eqb-false 0 0 h refl)

pub words-none : (s : List ℕ) (p : ℕ) → (length s == 0) ≡ true → words s p ≡ []
unfolding words
words-none [] p h = refl
words-none (c ∷ cs) p h = absurd (omega (arith, eqb-true (length (c ∷ cs)) 0 h))
