-- The record of maps: its maps behind the first 8 bytes, one map read, and one map more.
use mathlib.Core.Path.{◌≡◌, refl, sym, ap, ◌∙◌}
use Prim.Native.Nat.{ℕ, zero, suc, ◌+◌, ◌*◌, ◌<◌}
use mathlib.Core.List.{List, [], ◌∷◌, ◌++◌, append_assoc, append-nil}
use native.Mathlib.Omega.{arith}
use native.Mathlib.Numerals.{add-one}
use lib.ListN.{length, take, drop, replicate}
use Rattle.format.specs.Bytes.{at, le, value, part, over}
use Rattle.format.specs.Layout.{Item, fix, fld, arities, width, lay_with}
use Rattle.format.specs.Form.{xor, size, layout}
use Rattle.format.specs.Node.{node, bytes, node_at}
use Rattle.laws.proofs.Bytes.{length-le, length_over, over-over}
use Rattle.laws.proofs.Fits.{replicate-snoc}
use Rattle.laws.proofs.Joins.{lay-append}
use Rattle.laws.proofs.Nodes.{length-bytes}
use Rattle.laws.proofs.Offsets.{fields-at}
use Rattle.laws.proofs.Over.{over-within}
use Rattle.laws.proofs.Changes.{arities-behind, refix, same_at}
use Rattle.cedt.specs.declared.XorInterleaveMath.{XorInterleaveMath}
use Rattle.cedt.specs.Cedt.{maths_form, maths_fields, maths_head, maths_front, maps, grown}

pub fields-all : (n : ℕ) → arities (layout (xor n)) ≡ 1 + n
unfolding layout
fields-all n = arities-behind (take 6 (layout (xor n))) 8 n

-- the items of a record of a length and a count
abbrev items : ℕ → ℕ → List Item → List Item
items l n is = fix 1 2 ∷ fix 1 0 ∷ fix 2 l ∷ fix 2 0 ∷ fld 1 ∷ fix 1 n ∷ is

module _ (g : ℕ → ℕ) where
  lay-maps : (n : ℕ) (ms : List ℕ) → length ms ≡ n → lay_with g (replicate n (fld 8)) ms ≡ maps ms
  unfolding lay_with maps
  lay-maps zero [] e = refl
  lay-maps zero (m ∷ ms) e = absurd (omega arith)
  lay-maps (suc n) [] e = absurd (omega arith)
  lay-maps (suc n) (m ∷ ms) e = rw (lay-maps n ms (omega arith))

  -- the whole record: what `put` writes, and then each map in eight bytes
  pub whole : (m : XorInterleaveMath) (ms : List ℕ) → length ms ≡ m.xormaps → bytes g (node (maths_form m) (maths_fields m ++ ms)) ≡ maths_front m ++ maps ms
  unfolding bytes layout maths_front lay_with
  whole m ms e = rw (lay-maps m.xormaps ms e) (simp append_assoc)

  -- without maps `put` writes all of it
  pub bare : (m : XorInterleaveMath) → m.xormaps ≡ 0 → bytes g (maths_head m) ≡ maths_front m
  unfolding maps
  bare m e = whole m [] (sym e) ∙ append-nil (maths_front m)

  pub read-map : (bs : List ℕ) (p n i : ℕ) → i < n → at (node_at g (xor n) (drop p bs)).values (1 + i) ≡ value (part bs (p + 8 + 8 * i) 8)
  unfolding node_at layout width
  read-map bs p n i b =
      let z = same_at g (take 6 (layout (xor n))) [] n 8 i bs p b in
      let e : p + 8 + 8 * i ≡ p + (8 + 8 * i) = omega arith in
      rw (e, fields-at) (rw (append-nil (replicate n (fld 8))) at z)

  more : (n : ℕ) (us : List ℕ) (m : ℕ) → length us ≡ arities (layout (xor n))
      → bytes g (node (xor (suc n)) (us ++ (m ∷ []))) ≡ over (over (bytes g (node (xor n) us)) 2 (le 2 (size (xor (suc n))))) 7 (le 1 (suc n)) ++ le 8 m
  unfolding bytes layout width lay_with
  more n us m l =
      let k = size (xor (suc n)) in
      let is = replicate n (fld 8) in
      ap (λ (js : List Item). lay_with g (items k (suc n) js) (us ++ (m ∷ []))) (sym (replicate-snoc n (fld 8)))
      ∙ lay-append g (items k (suc n) is) (fld 8 ∷ []) us (m ∷ []) l
      ∙ rw (append-nil (le 8 m), ← refix g (fix 1 2 ∷ fix 1 0 ∷ []) (drop 3 (items k n is)) 2 (size (xor n)) k us, ← refix g (take 5 (items k n is)) is 1 n (suc n) us)

  -- a record that stands at p has one map more
  pub grown-whole : (bs : List ℕ) (p n : ℕ) (us : List ℕ) (m : ℕ) → length us ≡ arities (layout (xor n))
      → grown (over bs p (bytes g (node (xor n) us))) p n m ≡ over bs p (bytes g (node (xor (suc n)) (us ++ (m ∷ []))))
  unfolding grown
  grown-whole bs p n us m l =
      let old = bytes g (node (xor n) us) in
      let x = le 2 (size (xor (n + 1))) in
      let y = le 1 (n + 1) in
      let z = over (over old 2 x) 7 y in
      let e : p + 8 + 8 * n ≡ p + length z = rw (length_over, length_over, length-bytes) (omega arith) in
      rw (over-within bs old x p 2 (rw (length-le, length-bytes) (omega arith)), over-within bs (over old 2 x) y p 7 (rw (length-le, length_over, length-bytes) (omega arith)), e, over-over bs p z (le 8 m), more n us m l, add-one n)
