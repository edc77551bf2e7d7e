-- The record of a matrix: nothing set, a setting in place, a value or cell read. Each is a law of layouts at the eleven items before the values.
use mathlib.Core.Path.{◌≡◌, refl, ◌∙◌}
use Prim.Native.Nat.{ℕ, suc, ◌+◌, ◌*◌, ◌≤◌, ◌<◌}
use mathlib.Core.List.{List, [], ◌++◌, append_assoc, append-nil}
use native.Mathlib.Omega.{arith}
use native.Mathlib.Nat.{suc-mul, mul-le-mul}
use lib.ListN.{length, take, drop, set, replicate, length-replicate}
use Rattle.format.specs.Bytes.{at, le, value, part, over}
use Rattle.format.specs.Layout.{Item, fld, arities, as_is, width, lay_with}
use Rattle.format.specs.Form.{matrix, layout}
use Rattle.format.specs.Node.{node, bytes, node_at}
use Rattle.format.specs.Recipe.{unset}
use Rattle.laws.specs.Settings.{Setting, initiator, target, cell, spot, set_to}
use Rattle.laws.proofs.Lays.{length-lay}
use Rattle.laws.proofs.Joins.{lay-append}
use Rattle.laws.proofs.Offsets.{fields-at}
use Rattle.hmat.specs.declared.SystemLocality.{SystemLocality}
use Rattle.hmat.specs.Hmat.{matrix_form, matrix_fields, matrix_node, matrix_front, matrix_unset}
use Rattle.hmat.specs.Settings.{Inside, place_in, wide_in}
use Rattle.laws.proofs.Changes.{arities-same, arities-behind, width-behind, lay-same, set_same, same_at}

-- ---- nothing set

pub length_front : (m : SystemLocality) → length (matrix_front m) ≡ 32
unfolding matrix_front layout width
length_front m = length-lay as_is (take 11 (layout (matrix_form m))) (matrix_fields m)

zeros : le 4 0 ≡ replicate 4 0
unfolding le
zeros = refl

ones : le 2 65535 ≡ replicate 2 255
unfolding le
ones = refl

module _ (g : ℕ → ℕ) where
  none-set : (a b : ℕ) → lay_with g (replicate a (fld 4) ++ replicate b (fld 2)) (replicate a 0 ++ replicate b 65535) ≡ replicate (4 * a) 0 ++ replicate (2 * b) 255
  none-set a b =
      lay-append g (replicate a (fld 4)) (replicate b (fld 2)) (replicate a 0) (replicate b 65535) (rw (length-replicate, arities-same))
      ∙ rw (lay-same g a 4 0 0 zeros, lay-same g b 2 65535 255 ones)

  pub fresh : (m : SystemLocality) → bytes g (matrix_node m) ≡ matrix_front m ++ matrix_unset m
  unfolding bytes unset layout matrix_front lay_with
  fresh m = rw (none-set (m.initiators + m.targets) (m.initiators * m.targets)) (simp append_assoc)

-- ---- one value or cell

pub entry-below : (a b i t : ℕ) → a < i → b < t → a * t + b < i * t
entry-below a b i t h k =
    let m : suc a * t ≤ i * t = mul-le-mul h (omega arith) in
    omega (arith, rw suc-mul at m)

module _ (g : ℕ → ℕ) (i t : ℕ) where
  -- the items before the cells
  abbrev valued : List Item
  valued = take 11 (layout (matrix i t)) ++ replicate (i + t) (fld 4)

  fields-before : arities valued ≡ 4 + (i + t)
  unfolding layout
  fields-before = arities-behind (take 11 (layout (matrix i t))) 4 (i + t)

  fields-all : arities (layout (matrix i t)) ≡ 4 + (i + t) + i * t
  unfolding layout
  fields-all = arities-behind valued 2 (i * t) ∙ rw fields-before

  bytes-before : width valued ≡ 32 + 4 * (i + t)
  unfolding layout width
  bytes-before = width-behind (take 11 (layout (matrix i t))) 4 (i + t)

  -- what holds of each of the values and of each of the cells, by field, place and width, holds of each setting
  by-entry : (p : ℕ) (P : ℕ → ℕ → ℕ → Type 0) → ((k : ℕ) → k < i + t → P (4 + k) (p + (32 + 4 * k)) 4) → ((k : ℕ) → k < i * t → P (4 + (i + t) + k) (p + (32 + 4 * (i + t) + 2 * k)) 2)
      → (s : Setting) → Inside i t s → P (spot i t s) (place_in p i t s) (wide_in s)
  by-entry p P values cells (initiator j v) h =
      let e : p + 32 + 4 * j ≡ p + (32 + 4 * j) = omega arith in
      rw e (values j (omega arith))
  by-entry p P values cells (target j v) h =
      let e : p + 32 + 4 * i + 4 * j ≡ p + (32 + 4 * (i + j)) = omega arith in
      let f : 4 + i + j ≡ 4 + (i + j) = omega arith in
      rw (e, f) (values (i + j) (omega arith))
  by-entry p P values cells (cell j k v) (h, m) =
      let e : p + 32 + 4 * i + 4 * t + 2 * (j * t + k) ≡ p + (32 + 4 * (i + t) + 2 * (j * t + k)) = omega arith in
      let f : 4 + i + t + j * t + k ≡ 4 + (i + t) + (j * t + k) = omega arith in
      rw (e, f) (cells (j * t + k) (entry-below j k i t h m))

  module _ (bs : List ℕ) (p : ℕ) where
    set_value : (us : List ℕ) (k v : ℕ) → 4 + k < length us → k < i + t
        → over (over bs p (bytes g (node (matrix i t) us))) (p + (32 + 4 * k)) (le 4 v) ≡ over bs p (bytes g (node (matrix i t) (set us (4 + k) v)))
    unfolding bytes layout width
    set_value us k v l h = set_same g bs p (take 11 (layout (matrix i t))) (replicate (i * t) (fld 2)) (i + t) 4 k us v h l

    set-cell : (us : List ℕ) (k v : ℕ) → 4 + (i + t) + k < length us → k < i * t
        → over (over bs p (bytes g (node (matrix i t) us))) (p + (32 + 4 * (i + t) + 2 * k)) (le 2 v) ≡ over bs p (bytes g (node (matrix i t) (set us (4 + (i + t) + k) v)))
    unfolding bytes layout
    set-cell us k v l h =
        let z = set_same g bs p valued [] (i * t) 2 k us v h (rw fields-before l) in
        rw (append-nil (replicate (i * t) (fld 2)), fields-before, bytes-before) at z

    -- a setting inside a matrix that stands at p sets its field
    pub set-in-place : (us : List ℕ) (s : Setting) → length us ≡ arities (layout (matrix i t)) → Inside i t s
        → over (over bs p (bytes g (node (matrix i t) us))) (place_in p i t s) (le (wide_in s) (set_to s)) ≡ over bs p (bytes g (node (matrix i t) (set us (spot i t s) (set_to s))))
    set-in-place us s l h =
        by-entry p (λ k q w. over (over bs p (bytes g (node (matrix i t) us))) q (le w (set_to s)) ≡ over bs p (bytes g (node (matrix i t) (set us k (set_to s)))))
        (λ k b. set_value us k (set_to s) (omega (arith, fields-all)) b) (λ k b. set-cell us k (set_to s) (omega (arith, fields-all)) b) s h

    read-value : (k : ℕ) → k < i + t → at (node_at g (matrix i t) (drop p bs)).values (4 + k) ≡ value (part bs (p + (32 + 4 * k)) 4)
    unfolding node_at layout width
    read-value k h = rw fields-at (same_at g (take 11 (layout (matrix i t))) (replicate (i * t) (fld 2)) (i + t) 4 k bs p h)

    read_cell : (k : ℕ) → k < i * t → at (node_at g (matrix i t) (drop p bs)).values (4 + (i + t) + k) ≡ value (part bs (p + (32 + 4 * (i + t) + 2 * k)) 2)
    unfolding node_at layout
    read_cell k h =
        let z = same_at g valued [] (i * t) 2 k bs p h in
        rw fields-at (rw (append-nil (replicate (i * t) (fld 2)), fields-before, bytes-before) at z)

    -- the field that a setting sets is read at the setting's place
    pub read-in-place : (s : Setting) → Inside i t s → at (node_at g (matrix i t) (drop p bs)).values (spot i t s) ≡ value (part bs (place_in p i t s) (wide_in s))
    read-in-place s h = by-entry p (λ k q w. at (node_at g (matrix i t) (drop p bs)).values k ≡ value (part bs q w)) read-value read_cell s h
