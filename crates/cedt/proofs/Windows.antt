-- The record of a window: no target set, one target more set behind the others, a target read.
use mathlib.Core.Path.{◌≡◌, refl}
use Prim.Native.Nat.{ℕ, zero, suc, ◌+◌, ◌*◌, ◌<◌}
use mathlib.Core.List.{List, [], ◌∷◌, ◌++◌, append_assoc, append-nil}
use native.Mathlib.Omega.{arith}
use native.Mathlib.Nat.{add_comm, mul-suc}
use lib.ListN.{length, take, drop, set, replicate, length-append, replicate-append-replicate}
use lib.Seq.{set-append_seam}
use Rattle.format.specs.Bytes.{at, le, value, part, over}
use Rattle.format.specs.Layout.{Item, fix, fld, two, to, or_none, as_is, width, lay_with}
use Rattle.format.specs.Form.{window, layout, ways}
use Rattle.format.specs.Node.{node, bytes, node_at}
use Rattle.laws.proofs.Lays.{length-lay}
use Rattle.laws.proofs.Offsets.{fields-at}
use Rattle.laws.proofs.Changes.{set_same, same_at}
use Rattle.cedt.specs.declared.CxlFixedMemory.{CxlFixedMemory}
use Rattle.cedt.specs.Cedt.{window_form, window_fields, window_node, window_front}

-- ---- no target set

pub length_front : (w : CxlFixedMemory) → length (window_front w) ≡ 36
unfolding window_front layout width
length_front w = length-lay as_is (take 12 (layout (window_form w))) (window_fields w)

module _ (g : ℕ → ℕ) where
  -- fields of four bytes that are not there
  none-set : (n : ℕ) → lay_with g (replicate n (fld 4)) [] ≡ replicate (4 * n) 0
  unfolding lay_with le
  none-set zero = refl
  none-set (suc n) = rw (none-set n, mul-suc, add_comm (4 * n) 4, ← replicate-append-replicate {A = ℕ} 4 (4 * n) 0)

  pub fresh : (w : CxlFixedMemory) → bytes g (window_node w) ≡ window_front w ++ replicate (4 * ways w.interleave_ways) 0
  unfolding bytes layout window_front lay_with
  fresh w = rw (none-set (ways w.interleave_ways)) (simp append_assoc)

  -- ---- one target

  -- a field that is not there is 0
  lay-zero : (is : List Item) (vs : List ℕ) → lay_with g is (vs ++ (0 ∷ [])) ≡ lay_with g is vs
  unfolding lay_with
  lay-zero [] vs = refl
  lay-zero (fix w v ∷ is) vs = rw (lay-zero is vs)
  lay-zero (fld w ∷ is) [] = refl
  lay-zero (fld w ∷ is) (v ∷ vs) = rw (lay-zero is vs)
  lay-zero (two w k ∷ is) [] = refl
  lay-zero (two w k ∷ is) (v ∷ []) = refl
  lay-zero (two w k ∷ is) (v ∷ u ∷ vs) = rw (lay-zero is vs)
  lay-zero (to t ∷ is) [] = refl
  lay-zero (to t ∷ is) (v ∷ vs) = rw (lay-zero is vs)
  lay-zero (or_none t ∷ is) [] = refl
  lay-zero (or_none t ∷ is) (v ∷ vs) = rw (lay-zero is vs)

  module _ (bs : List ℕ) (p n : ℕ) where
    set-field : (us : List ℕ) (k v : ℕ) → 7 + k < length us → k < n
        → over (over bs p (bytes g (node (window n) us))) (p + (36 + 4 * k)) (le 4 v) ≡ over bs p (bytes g (node (window n) (set us (7 + k) v)))
    unfolding bytes layout width
    set-field us k v l h = rw (append-nil (replicate n (fld 4))) at (set_same g bs p (take 12 (layout (window n))) [] n 4 k us v h l)

    -- of a window that stands at p the first target that is not set is set
    pub set-target : (us : List ℕ) (k v : ℕ) → length us ≡ 7 + k → k < n
        → over (over bs p (bytes g (node (window n) us))) (p + 36 + 4 * k) (le 4 v) ≡ over bs p (bytes g (node (window n) (us ++ (v ∷ []))))
    unfolding bytes
    set-target us k v l h =
        let z = set-field (us ++ (0 ∷ [])) k v (simp length-append (omega arith)) h in
        let e : p + 36 + 4 * k ≡ p + (36 + 4 * k) = omega arith in
        rw (e, ← lay-zero (layout (window n)) us, z, ← l, set-append_seam us 0 [] v)

    pub read-target : (i : ℕ) → i < n → at (node_at g (window n) (drop p bs)).values (7 + i) ≡ value (part bs (p + 36 + 4 * i) 4)
    unfolding node_at layout width
    read-target i h =
        let z = same_at g (take 12 (layout (window n))) [] n 4 i bs p h in
        let e : p + 36 + 4 * i ≡ p + (36 + 4 * i) = omega arith in
        rw (e, fields-at) (rw (append-nil (replicate n (fld 4))) at z)
