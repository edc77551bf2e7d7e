-- Changes in a layout: the number in one item or of one field is changed or read at the width of what stands before it. By induction over the items.
use mathlib.Core.Path.{◌≡◌, refl, sym, ap, ◌∙◌}
use Prim.Native.Nat.{ℕ, zero, suc, ◌+◌, ◌-◌, ◌*◌, ◌%◌, ◌^◌, ◌≤◌, ◌<◌}
use mathlib.Core.List.{List, [], ◌∷◌, ◌++◌, append_assoc}
use native.Mathlib.Omega.{arith}
use native.Mathlib.Nat.{add-zero, add_comm, add_assoc, mul_comm, mul-zero, mul-suc}
use lib.ListN.{length, drop, set, replicate, length-drop, replicate-append-replicate}
use lib.Seq.{drop-set-add, get_or-set_other, get_or-append-add}
use Rattle.format.specs.Bytes.{at, le, value, part, over}
use Rattle.format.specs.Layout.{Item, fix, fld, two, to, or_none, wide, arity, arities, number_with, taken_with, width, lay_with}
use Rattle.laws.specs.Offsets.{fields_at}
use Rattle.laws.proofs.Bytes.{length-le, le-mod}
use Rattle.laws.proofs.Lays.{length-lay}
use Rattle.laws.proofs.Over.{over-right, over_first, over-within}
use Rattle.laws.proofs.Nodes.{width-append, width-replicate}

-- numbers that are cut to the same
pub le_same : (w a b : ℕ) → a % 256 ^ w ≡ b % 256 ^ w → le w a ≡ le w b
le_same w a b e = sym (le-mod w a) ∙ rw e (le-mod w b)

-- ---- how many fields and bytes

arities-append : (is js : List Item) → arities (is ++ js) ≡ arities is + arities js
arities-append [] js = omega arith
arities-append (i ∷ is) js = rw (arities-append is js) (omega arith)

pub arities-same : (n w : ℕ) → arities (replicate n (fld w)) ≡ n
arities-same zero w = refl
arities-same (suc n) w = rw (arities-same n w) (omega arith)

width-item : (is js : List Item) (w : ℕ) → width (is ++ (fld w ∷ js)) ≡ width is + (w + width js)
unfolding width
width-item is js w = width-append is (fld w ∷ js)

-- ---- one of n like fields behind others

split-same : (n k w : ℕ) → k < n → replicate n (fld w) ≡ replicate k (fld w) ++ (fld w ∷ replicate (n - suc k) (fld w))
split-same zero k w h = absurd (omega arith)
split-same (suc n) zero w h = let e : suc n - 1 ≡ n = omega arith in rw e
split-same (suc n) (suc k) w h = let e : suc n - suc (suc k) ≡ n - suc k = omega arith in rw (split-same n k w (omega arith), e)

module _ (is : List Item) (w k : ℕ) where
  pub arities-behind : arities (is ++ replicate k (fld w)) ≡ arities is + k
  arities-behind = rw (arities-append, arities-same)

  pub width-behind : width (is ++ replicate k (fld w)) ≡ width is + w * k
  width-behind = rw (width-append, width-replicate, mul_comm)

  items-behind : (n : ℕ) (js : List Item) → k < n → is ++ (replicate n (fld w) ++ js) ≡ (is ++ replicate k (fld w)) ++ (fld w ∷ (replicate (n - suc k) (fld w) ++ js))
  items-behind n js h = rw (split-same n k w h) (simp append_assoc)

-- ---- fields that hold one number

pub lay-same : (g : ℕ → ℕ) (n w v b : ℕ) → le w v ≡ replicate w b → lay_with g (replicate n (fld w)) (replicate n v) ≡ replicate (w * n) b
unfolding lay_with
lay-same g zero w v b e = rw mul-zero
lay-same g (suc n) w v b e = rw (e, lay-same g n w v b e, replicate-append-replicate, mul-suc, add_comm w (w * n))

-- ---- another number

behind-item : (i : Item) (x : ℕ) (bs : List ℕ) (k : ℕ) (cs : List ℕ) → over (le (wide i) x ++ bs) (wide i + k) cs ≡ le (wide i) x ++ over bs k cs
behind-item i x bs k cs = rw (length-le (wide i) x) at (over-right (le (wide i) x) bs cs k)

module _ (g : ℕ → ℕ) where
  -- in a fixed item
  pub refix : (is js : List Item) (w a b : ℕ) (vs : List ℕ) → lay_with g (is ++ (fix w b ∷ js)) vs ≡ over (lay_with g (is ++ (fix w a ∷ js)) vs) (width is) (le w b)
  unfolding lay_with width
  refix [] js w a b vs = rw (over_first (le w a) (lay_with g js vs) (le w b) (simp length-le))
  refix (i ∷ is) js w a b vs =
      let us = drop (arity i) vs in
      rw (refix is js w a b us, behind-item i (number_with g i vs) (lay_with g (is ++ (fix w a ∷ js)) us) (width is) (le w b))

  number-set : (i : Item) (vs : List ℕ) (k v : ℕ) → number_with g i (set vs (arity i + k) v) ≡ number_with g i vs
  number-set (fix w x) vs k v = refl
  number-set (fld w) vs k v = get_or-set_other vs (1 + k) 0 v 0 (λ e. omega arith)
  number-set (two w m) vs k v = rw (get_or-set_other vs (2 + k) 0 v 0 (λ e. omega arith), get_or-set_other vs (2 + k) 1 v 0 (λ e. omega arith))
  number-set (to t) vs k v = ap g (get_or-set_other vs (1 + k) 0 v 0 (λ e. omega arith))
  number-set (or_none t) vs k v = ap g (get_or-set_other vs (1 + k) 0 v 0 (λ e. omega arith))

  -- in a field
  lay-set : (is js : List Item) (w : ℕ) (vs : List ℕ) (v : ℕ) → arities is < length vs
      → lay_with g (is ++ (fld w ∷ js)) (set vs (arities is) v) ≡ over (lay_with g (is ++ (fld w ∷ js)) vs) (width is) (le w v)
  unfolding lay_with width
  lay-set [] js w [] v h = absurd (omega arith)
  lay-set [] js w (x ∷ vs) v h = rw (over_first (le w x) (lay_with g js vs) (le w v) (simp length-le))
  lay-set (i ∷ is) js w vs v h =
      let us = drop (arity i) vs in
      let l : arities is < length us = simp length-drop (omega arith) in
      rw (number-set i vs (arities is) v, drop-set-add (arity i) vs (arities is) v, lay-set is js w us v l, behind-item i (number_with g i vs) (lay_with g (is ++ (fld w ∷ js)) us) (width is) (le w v))

  -- in one of n like fields, in a buffer
  pub set_same : (bs : List ℕ) (p : ℕ) (is js : List Item) (n w k : ℕ) (vs : List ℕ) (v : ℕ) → k < n → arities is + k < length vs
      → over (over bs p (lay_with g (is ++ (replicate n (fld w) ++ js)) vs)) (p + (width is + w * k)) (le w v)
      ≡ over bs p (lay_with g (is ++ (replicate n (fld w) ++ js)) (set vs (arities is + k) v))
  set_same bs p is js n w k vs v h l =
      let hs = is ++ replicate k (fld w) in
      let ks = replicate (n - suc k) (fld w) ++ js in
      let a = arities-behind is w k in
      let r : width hs + length (le w v) ≤ length (lay_with g (hs ++ (fld w ∷ ks)) vs) = rw (length-le, length-lay, width-item) (omega arith) in
      rw (items-behind is w k n js h, ← width-behind is w k, over-within bs (lay_with g (hs ++ (fld w ∷ ks)) vs) (le w v) p (width hs) r, ← a, lay-set hs ks w vs v (rw a l))

  -- ---- reading one field

  taken-length : (i : Item) (x : ℕ) → length (taken_with g i x) ≡ arity i
  taken-length (fix w v) x = refl
  taken-length (fld w) x = refl
  taken-length (two w k) x = refl
  taken-length (to t) x = refl
  taken-length (or_none t) x = refl

  field_at : (is js : List Item) (w : ℕ) (bs : List ℕ) (p : ℕ) → at (fields_at g (is ++ (fld w ∷ js)) bs p) (arities is) ≡ value (part bs (p + width is) w)
  unfolding width
  field_at [] js w bs p = rw add-zero
  field_at (i ∷ is) js w bs p =
      let x = value (part bs p (wide i)) in
      rw (← taken-length i x, get_or-append-add, field_at is js w bs (p + wide i), add_assoc)

  -- one of n like fields
  pub same_at : (is js : List Item) (n w k : ℕ) (bs : List ℕ) (p : ℕ) → k < n
      → at (fields_at g (is ++ (replicate n (fld w) ++ js)) bs p) (arities is + k) ≡ value (part bs (p + (width is + w * k)) w)
  same_at is js n w k bs p h =
      rw (items-behind is w k n js h, ← arities-behind is w k, ← width-behind is w k)
      (field_at (is ++ replicate k (fld w)) (replicate (n - suc k) (fld w) ++ js) w bs p)
