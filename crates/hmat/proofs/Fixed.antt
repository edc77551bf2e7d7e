-- The tests of a record: zeros, fixed values and length of a matrix and of a side cache as a list of tests, and the ranges of their first fields.
use mathlib.Core.Path.{◌≡◌, refl}
use Prim.Native.Nat.{ℕ, ◌<◌, min}
use mathlib.Core.List.{List, [], ◌∷◌}
use mathlib.Core.Bool.{true, false}
use native.Mathlib.Omega.{arith}
use lib.Dec.{eqb}
use borrow.Author.Tests.{eq-eqb, ne_eqb}
use Rattle.format.specs.Bytes.{all, value, part}
use Rattle.format.specs.Layout.{fld, as_is, fixed_ok}
use Rattle.format.specs.Form.{Width, layout, size, ranges}
use Rattle.format.specs.Node.{node_at}
use Rattle.format.specs.Row.{matrices, sides, form_in}
use Rattle.format.specs.Field.{bad_field}
use Rattle.laws.specs.Offsets.{trimmed}
use Rattle.laws.proofs.Tests.{both_right}
use Rattle.laws.proofs.Offsets.{fixed-list, fixed-append, node_at_lem}
use Rattle.laws.proofs.Fields.{fixed-now}

-- ---- what a test of code says of the test that it stands for

-- a length that is cut at a number m, of a number below m
pub differs-cut : {x y n : ℕ} (s m : ℕ) → x ≡ y → n ≡ min s m → x < m → (x ≡ n → ⊥) → eqb y s ≡ false
differs-cut {x} {y} {n} s m e f l h = rw e at (ne_eqb x s (λ k. h (omega arith)))

pub equals-cut : {x y n : ℕ} (s m : ℕ) → x ≡ y → n ≡ min s m → x < m → x ≡ n → eqb y s ≡ true
equals-cut {x} {y} {n} s m e f l h = rw e at (eq-eqb x s (omega arith))

-- ---- zeros, fixed values and length

pub matrix-fixed : (w : Width) (bs : List ℕ)
    → fixed_ok (layout (form_in (matrices w) bs)) bs
    ≡ all (eqb (value (part bs 0 2)) 1 ∷ eqb (value (part bs 2 2)) 0 ∷ eqb (value (part bs 4 4)) (size (form_in (matrices w) bs)) ∷ eqb (value (part bs 11 1)) 0 ∷ eqb (value (part bs 20 4)) 0 ∷ [])
unfolding form_in layout
matrix-fixed w bs =
    rw (fixed-now, eq-eqb (value (part bs 12 4)) _ refl, eq-eqb (value (part bs 16 4)) _ refl, fixed-append, fixed-list (fld 4) (λ x. refl), fixed-list (fld 2) (λ x. refl), both_right)

pub side-fixed : (bs : List ℕ)
    → fixed_ok (layout (form_in sides bs)) bs
    ≡ all (eqb (value (part bs 0 2)) 2 ∷ eqb (value (part bs 2 2)) 0 ∷ eqb (value (part bs 4 4)) (size (form_in sides bs)) ∷ eqb (value (part bs 12 4)) 0 ∷ eqb (value (part bs 28 2)) 0 ∷ [])
unfolding form_in layout
side-fixed bs = rw (fixed-now, eq-eqb (value (part bs 30 2)) _ refl, fixed-list (fld 2) (λ x. refl), both_right)

-- ---- ranges: no field behind the first ones has one

pub matrix-bad : (w : Width) (bs : List ℕ) → bad_field (node_at as_is (form_in (matrices w) bs) bs) ≡ bad_field (trimmed 4 (node_at as_is (form_in (matrices w) bs) bs))
unfolding bad_field ranges layout form_in
matrix-bad w bs = rw node_at_lem

pub side-bad : (bs : List ℕ) → bad_field (node_at as_is (form_in sides bs) bs) ≡ bad_field (trimmed 3 (node_at as_is (form_in sides bs) bs))
unfolding bad_field ranges layout form_in
side-bad bs = rw node_at_lem
