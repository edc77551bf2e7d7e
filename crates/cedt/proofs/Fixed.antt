-- The tests of a record: zeros, fixed values and length of a bridge, a window and a record of maps as a list of tests, and the ranges of their first fields.
use mathlib.Core.Path.{◌≡◌, refl, ap, ◌∙◌}
use mathlib.Core.List.{List, [], ◌∷◌}
use Prim.Native.Nat.{ℕ}
use lib.Dec.{eqb}
use borrow.Author.Tests.{eq-eqb}
use Rattle.format.specs.Bytes.{all, at, value, part}
use Rattle.format.specs.Layout.{fld, as_is, fixed_ok}
use Rattle.format.specs.Form.{layout, size, registers, ranges}
use Rattle.format.specs.Node.{Node, node_at}
use Rattle.format.specs.Row.{bridges, windows, xors, form_in}
use Rattle.format.specs.Field.{bad_field}
use Rattle.laws.specs.Offsets.{trimmed}
use Rattle.laws.proofs.Tests.{both_right}
use Rattle.laws.proofs.Offsets.{fixed-list, node_at_lem}
use Rattle.laws.proofs.Fields.{fixed-now}
use Rattle.cedt.specs.declared.CxlHostBridge.{CxlHostBridge}
use Rattle.cedt.specs.Cedt.{bridge_node}

-- ---- zeros, fixed values and length

pub bridge-fixed : (bs : List ℕ)
    → fixed_ok (layout (form_in bridges bs)) bs
    ≡ all (eqb (value (part bs 0 1)) 0 ∷ eqb (value (part bs 1 1)) 0 ∷ eqb (value (part bs 2 2)) 32 ∷ eqb (value (part bs 12 4)) 0 ∷ eqb (value (part bs 24 8)) (registers (value (part bs 8 4))) ∷ [])
unfolding form_in layout
bridge-fixed bs = rw (fixed-now, both_right)

pub window-fixed : (bs : List ℕ)
    → fixed_ok (layout (form_in windows bs)) bs
    ≡ all (eqb (value (part bs 0 1)) 1 ∷ eqb (value (part bs 1 1)) 0 ∷ eqb (value (part bs 2 2)) (size (form_in windows bs)) ∷ eqb (value (part bs 4 4)) 0 ∷ eqb (value (part bs 26 2)) 0 ∷ [])
unfolding form_in layout
window-fixed bs = rw (fixed-now, fixed-list (fld 4) (λ x. refl), both_right)

pub maths-fixed : (bs : List ℕ)
    → fixed_ok (layout (form_in xors bs)) bs
    ≡ all (eqb (value (part bs 0 1)) 2 ∷ eqb (value (part bs 1 1)) 0 ∷ eqb (value (part bs 2 2)) (size (form_in xors bs)) ∷ eqb (value (part bs 4 2)) 0 ∷ [])
unfolding form_in layout
maths-fixed bs = rw (fixed-now, eq-eqb (value (part bs 7 1)) _ refl, fixed-list (fld 8) (λ x. refl), both_right)

-- the version of a bridge that was read
pub version-known : (b : CxlHostBridge) (bs : List ℕ) → bridge_node b ≡ node_at as_is (form_in bridges bs) bs → b.cxl_version ≡ value (part bs 8 4)
unfolding layout form_in
version-known b bs e = ap (λ (z : Node). at z.values 1) (e ∙ node_at_lem as_is (form_in bridges bs) bs)

-- ---- ranges: no target and no map has one

pub window-bad : (bs : List ℕ) → bad_field (node_at as_is (form_in windows bs) bs) ≡ bad_field (trimmed 7 (node_at as_is (form_in windows bs) bs))
unfolding bad_field ranges layout form_in
window-bad bs = rw node_at_lem

pub maths-bad : (bs : List ℕ) → bad_field (node_at as_is (form_in xors bs) bs) ≡ bad_field (trimmed 1 (node_at as_is (form_in xors bs) bs))
unfolding bad_field ranges layout form_in
maths-bad bs = rw node_at_lem
