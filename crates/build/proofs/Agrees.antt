-- The references that a walk finds are those of the format, so a record is the same: item by item, and form by form.
use mathlib.Core.Path.{◌≡◌, refl}
use Prim.Native.Nat.{ℕ, ◌+◌, ◌≤◌}
use mathlib.Core.List.{List, [], ◌∷◌, ◌++◌}
use mathlib.Core.Bool.{Bool, true, false}
use native.Mathlib.Omega.{arith}
use lib.ListN.{length, drop}
use lib.Dec.{eqb}
use borrow.Author.Tests.{eqb-true}
use Rattle.format.specs.Bytes.{pick, at, over}
use Rattle.format.specs.Layout.{Item, fix, fld, two, to, or_none, arity, number, number_with, is_good, lay_with, refs_good}
use Rattle.format.specs.Table.{pptt, limit}
use Rattle.format.specs.Node.{Node, sizes, starts, at_ordinal, place_of}
use Rattle.format.specs.Build.{records}
use Rattle.laws.proofs.Lays.{both_true}
use Rattle.laws.proofs.Links.{named-within, length-starts}
use Rattle.laws.proofs.Good.{Good}
use Rattle.build.specs.Write.{place_in}
use Rattle.build.proofs.Walks.{place-among}

-- ---- two ways to write references that agree on the good ones

module _ (f g : ℕ → ℕ) (ok : ℕ → ℕ → Bool) (none : f 0 ≡ g 0) (same : (v t : ℕ) → ok v t ≡ true → f v ≡ g v) where
  or-none : (v t : ℕ) (x : Bool) → eqb v 0 ≡ x → pick x true (ok v t) ≡ true → f v ≡ g v
  or-none v t true e h = rw (eqb-true v 0 e) none
  or-none v t false e h = same v t h

  number-agrees : (i : Item) (vs : List ℕ) → is_good ok i (number i vs) ≡ true → number_with f i vs ≡ number_with g i vs
  number-agrees (fix w v) vs h = refl
  number-agrees (fld w) vs h = refl
  number-agrees (two w k) vs h = refl
  number-agrees (to t) vs h = same (at vs 0) t h
  number-agrees (or_none t) vs h = or-none (at vs 0) t (eqb (at vs 0) 0) refl h

  pub lay-agrees : (is : List Item) (vs : List ℕ) → refs_good ok is vs ≡ true → lay_with f is vs ≡ lay_with g is vs
  unfolding lay_with refs_good
  lay-agrees [] vs h = refl
  lay-agrees (i ∷ is) vs h =
      let (a, b) = both_true (is_good ok i (number i vs)) (refs_good ok is (drop (arity i) vs)) h in
      rw (number-agrees i vs a, lay-agrees is (drop (arity i) vs) b)

-- ---- among records

module _ (xs fs ys : List ℕ) (ns : List Node) (l : length fs ≡ 36) (room : length (fs ++ (records pptt ns ++ ys)) ≤ length xs) (good : Good pptt ns) (short : 36 + sizes ns ≤ limit) where
  pub named-place : (v t : ℕ) → at_ordinal (starts pptt ns) v t ≡ true → place_in (over xs 0 (fs ++ (records pptt ns ++ ys))) v ≡ place_of (starts pptt ns) v
  named-place v t h = place-among xs fs ys ns l room good short v (rw (length-starts pptt ns) at (named-within (starts pptt ns) v t h).1)

  pub pptt-agrees : (is : List Item) (vs : List ℕ) → refs_good (at_ordinal (starts pptt ns)) is vs ≡ true
      → lay_with (place_in (over xs 0 (fs ++ (records pptt ns ++ ys)))) is vs ≡ lay_with (place_of (starts pptt ns)) is vs
  pptt-agrees is vs h =
      lay-agrees (place_in (over xs 0 (fs ++ (records pptt ns ++ ys)))) (place_of (starts pptt ns)) (at_ordinal (starts pptt ns)) (place-among xs fs ys ns l room good short 0 (omega arith)) named-place is vs h
