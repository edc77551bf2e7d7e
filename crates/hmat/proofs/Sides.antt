-- The record of a side cache: its handles behind the first 32 bytes, one handle set or read, and one handle more.
use mathlib.Core.Path.{◌≡◌, refl, sym, ap, ◌∙◌}
use Prim.Native.Nat.{ℕ, zero, suc, ◌+◌, ◌*◌, ◌<◌}
use mathlib.Core.List.{List, [], ◌∷◌, ◌++◌, append_assoc, append-nil}
use native.Mathlib.Omega.{arith}
use native.Mathlib.Numerals.{add-one}
use lib.ListN.{length, take, drop, set, replicate}
use Rattle.format.specs.Bytes.{at, le, value, part, over}
use Rattle.format.specs.Layout.{Item, fix, fld, arities, width, lay_with}
use Rattle.format.specs.Form.{side, size, layout}
use Rattle.format.specs.Node.{node, bytes, node_at}
use Rattle.laws.proofs.Bytes.{length-le, length_over, over-over}
use Rattle.laws.proofs.Fits.{replicate-snoc}
use Rattle.laws.proofs.Joins.{lay-append}
use Rattle.laws.proofs.Nodes.{length-bytes}
use Rattle.laws.proofs.Offsets.{fields-at}
use Rattle.hmat.specs.declared.MemorySideCache.{MemorySideCache}
use Rattle.hmat.specs.Hmat.{side_form, side_fields, side_head, side_front, handles, grown}
use Rattle.laws.proofs.Over.{over-within}
use Rattle.laws.proofs.Changes.{arities-behind, refix, set_same, same_at}

pub fields-all : (n : ℕ) → arities (layout (side n)) ≡ 3 + n
unfolding layout
fields-all n = arities-behind (take 9 (layout (side n))) 2 n

-- the items of a side cache of a length and a count
abbrev items : ℕ → ℕ → List Item → List Item
items l n is = fix 2 2 ∷ fix 2 0 ∷ fix 4 l ∷ fld 4 ∷ fix 4 0 ∷ fld 8 ∷ fld 4 ∷ fix 2 0 ∷ fix 2 n ∷ is

module _ (g : ℕ → ℕ) where
  lay-handles : (n : ℕ) (hs : List ℕ) → length hs ≡ n → lay_with g (replicate n (fld 2)) hs ≡ handles hs
  unfolding lay_with handles
  lay-handles zero [] e = refl
  lay-handles zero (h ∷ hs) e = absurd (omega arith)
  lay-handles (suc n) [] e = absurd (omega arith)
  lay-handles (suc n) (h ∷ hs) e = rw (lay-handles n hs (omega arith))

  -- the whole record: what `put` writes, and then each handle in two bytes
  pub whole : (s : MemorySideCache) (hs : List ℕ) → length hs ≡ s.smbios_handles → bytes g (node (side_form s) (side_fields s ++ hs)) ≡ side_front s ++ handles hs
  unfolding bytes layout side_front lay_with
  whole s hs e = rw (lay-handles s.smbios_handles hs e) (simp append_assoc)

  -- without handles `put` writes all of it
  pub bare : (s : MemorySideCache) → s.smbios_handles ≡ 0 → bytes g (side_head s) ≡ side_front s
  unfolding handles
  bare s e = whole s [] (sym e) ∙ append-nil (side_front s)

  module _ (bs : List ℕ) (p n : ℕ) where
    -- a handle of a side cache that stands at p is set
    pub set-handle : (us : List ℕ) (i h : ℕ) → length us ≡ arities (layout (side n)) → i < n
        → over (over bs p (bytes g (node (side n) us))) (p + 32 + 2 * i) (le 2 h) ≡ over bs p (bytes g (node (side n) (set us (3 + i) h)))
    unfolding bytes layout width
    set-handle us i h l b =
        let z = set_same g bs p (take 9 (layout (side n))) [] n 2 i us h b (omega (arith, fields-all n)) in
        let e : p + 32 + 2 * i ≡ p + (32 + 2 * i) = omega arith in
        rw e (rw (append-nil (replicate n (fld 2))) at z)

    pub read-handle : (i : ℕ) → i < n → at (node_at g (side n) (drop p bs)).values (3 + i) ≡ value (part bs (p + 32 + 2 * i) 2)
    unfolding node_at layout width
    read-handle i b =
        let z = same_at g (take 9 (layout (side n))) [] n 2 i bs p b in
        let e : p + 32 + 2 * i ≡ p + (32 + 2 * i) = omega arith in
        rw (e, fields-at) (rw (append-nil (replicate n (fld 2))) at z)

  more : (n : ℕ) (us : List ℕ) (h : ℕ) → length us ≡ arities (layout (side n))
      → bytes g (node (side (suc n)) (us ++ (h ∷ []))) ≡ over (over (bytes g (node (side n) us)) 4 (le 4 (size (side (suc n))))) 30 (le 2 (suc n)) ++ le 2 h
  unfolding bytes layout width lay_with
  more n us h l =
      let k = size (side (suc n)) in
      let is = replicate n (fld 2) in
      ap (λ (js : List Item). lay_with g (items k (suc n) js) (us ++ (h ∷ []))) (sym (replicate-snoc n (fld 2)))
      ∙ lay-append g (items k (suc n) is) (fld 2 ∷ []) us (h ∷ []) l
      ∙ rw (append-nil (le 2 h), ← refix g (fix 2 2 ∷ fix 2 0 ∷ []) (drop 3 (items k n is)) 4 (size (side n)) k us, ← refix g (take 8 (items k n is)) is 2 n (suc n) us)

  -- a side cache that stands at p has one handle more
  pub grown-whole : (bs : List ℕ) (p n : ℕ) (us : List ℕ) (h : ℕ) → length us ≡ arities (layout (side n))
      → grown (over bs p (bytes g (node (side n) us))) p n h ≡ over bs p (bytes g (node (side (suc n)) (us ++ (h ∷ []))))
  unfolding grown
  grown-whole bs p n us h l =
      let old = bytes g (node (side n) us) in
      let x = le 4 (size (side (n + 1))) in
      let y = le 2 (n + 1) in
      let z = over (over old 4 x) 30 y in
      let e : p + 32 + 2 * n ≡ p + length z = rw (length_over, length_over, length-bytes) (omega arith) in
      rw (over-within bs old x p 4 (rw (length-le, length-bytes) (omega arith)), over-within bs (over old 4 x) y p 30 (rw (length-le, length_over, length-bytes) (omega arith)), e, over-over bs p z (le 2 h), more n us h l, add-one n)
