-- A layout's bytes are its numbers at their widths, and joined layouts lie one behind the other, by induction over the items.
use mathlib.Core.Path.{◌≡◌, refl}
use Prim.Native.Nat.{ℕ, zero, suc, ◌≤◌}
use mathlib.Core.List.{List, [], ◌∷◌, ◌++◌, append_assoc, append-nil, map}
use native.Mathlib.Omega.{arith}
use lib.ListN.{length, drop, replicate, length-append}
use Rattle.format.specs.Bytes.{le, join, sum}
use Rattle.format.specs.Layout.{Item, wide, arity, arities, lay_with}
use Rattle.laws.specs.Numbers.{numbers}
use Rattle.laws.proofs.Bytes.{length-le}
use Rattle.laws.proofs.Lays.{rest-length, item-append}

module _ (g : ℕ → ℕ) where
  pub lay-join : (is : List Item) (vs : List ℕ) → lay_with g is vs ≡ join (map wide is) (numbers g is vs)
  unfolding lay_with join
  lay-join [] vs = refl
  lay-join (i ∷ is) vs = rw (lay-join is (drop (arity i) vs))

  pub lay-append : (is js : List Item) (vs us : List ℕ) → length vs ≡ arities is → lay_with g (is ++ js) (vs ++ us) ≡ lay_with g is vs ++ lay_with g js us
  unfolding lay_with
  lay-append [] js [] us l = refl
  lay-append [] js (v ∷ vs) us l = absurd (omega arith)
  lay-append (i ∷ is) js vs us l =
      let a = item-append g i vs us (omega arith) in
      rw (a.0, a.1, lay-append is js (drop (arity i) vs) us (rest-length i is vs l), append_assoc)

-- one number alone
pub join_one : (w v : ℕ) → join (w ∷ []) (v ∷ []) ≡ le w v
unfolding join
join_one w v = append-nil (le w v)

-- one number more behind others of its width
pub join_more : (n w : ℕ) (vs : List ℕ) (v : ℕ) → length vs ≡ n → join (replicate (suc n) w) (vs ++ (v ∷ [])) ≡ join (replicate n w) vs ++ le w v
unfolding join
join_more zero w [] v l = join_one w v
join_more zero w (x ∷ vs) v l = absurd (omega arith)
join_more (suc n) w [] v l = absurd (omega arith)
join_more (suc n) w (x ∷ vs) v l = rw (join_more n w vs v (omega arith), append_assoc)

-- numbers take no more bytes than their widths are
pub join-short : (ws vs : List ℕ) → length (join ws vs) ≤ sum ws
unfolding join sum
join-short [] vs = omega arith
join-short (w ∷ ws) [] = omega arith
join-short (w ∷ ws) (v ∷ vs) = rw (length-append, length-le) (omega (arith, join-short ws vs))
