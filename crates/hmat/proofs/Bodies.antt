-- Bodies of a recipe, in either width: fields at their places, records as numbers at their widths, and the indices of a cell in a window.
use mathlib.Core.Path.{◌≡◌, ap, ◌∙◌}
use Prim.Native.Nat.{ℕ, ◌+◌, ◌≤◌, ◌<◌}
use mathlib.Core.List.{List, [], ◌∷◌}
use native.Mathlib.Omega.{arith}
use native.Mathlib.Nat.{mod-eq_of_lt}
use lib.ListN.{take}
use lib.Dec.{eqb, ltb}
use Rattle.format.specs.Bytes.{at, le, value, join, part}
use Rattle.format.specs.Layout.{as_is, width, fields_with}
use Rattle.format.specs.Form.{Width, byte, pair, octets}
use Rattle.format.specs.Kind.{Matrix, Initiator, Cell, kind_number, body}
use Rattle.format.specs.Normal.{call}
use Rattle.format.specs.Field.{bad_in}
use Rattle.laws.proofs.Bytes.{part-take}
use Rattle.laws.proofs.Joins.{lay-join}
use Rattle.laws.proofs.Fields.{all-bad, fields-now, call-join}
use Rattle.hmat.specs.declared.SystemLocality.{SystemLocality}
use Rattle.hmat.specs.declared.Value.{Value}
use Rattle.hmat.specs.declared.Cell as declared
use Rattle.hmat.specs.Hmat.{matrix_call}
use Rattle.hmat.specs.Settings.{value_fields, value_call, cell_fields, in_counts}

pub octets-small : (w : Width) → octets w ≤ 2
octets-small byte = omega arith
octets-small pair = omega arith

pub cell-small : (w : Width) → width (body (Cell w)) ≤ 6
unfolding width body
cell-small byte = omega arith
cell-small pair = omega arith

-- ---- the fields of a setting, at their places

pub value-fields : (w : Width) (bs : List ℕ) → fields_with as_is (body (Initiator w)) bs ≡ value (part bs 0 (octets w)) ∷ value (part bs (octets w) 4) ∷ []
unfolding body
value-fields byte bs = fields-now (Initiator byte) bs
value-fields pair bs = fields-now (Initiator pair) bs

pub cell-fields : (w : Width) (bs : List ℕ)
    → fields_with as_is (body (Cell w)) bs ≡ value (part bs 0 (octets w)) ∷ value (part bs (octets w) (octets w)) ∷ value (part bs (octets w + octets w) 2) ∷ []
unfolding body
cell-fields byte bs = fields-now (Cell byte) bs
cell-fields pair bs = fields-now (Cell pair) bs

-- ---- records as numbers at their widths

pub matrix-join : (w : Width) (m : SystemLocality) (n : ℕ) → n ≡ kind_number (Matrix w)
    → call (Matrix w) (matrix_call m)
    ≡ join (1 ∷ 1 ∷ 1 ∷ 1 ∷ 8 ∷ octets w ∷ octets w ∷ []) (n ∷ m.flags ∷ m.data_type ∷ m.min_transfer_size ∷ m.entry_base_unit ∷ m.initiators ∷ m.targets ∷ [])
unfolding body
matrix-join w m n e = rw (e, call-join (Matrix w) (matrix_call m))

pub cell_join : (w : Width) (c : declared.Cell) (n : ℕ) → n ≡ kind_number (Cell w)
    → call (Cell w) (cell_fields c) ≡ join (1 ∷ octets w ∷ octets w ∷ 2 ∷ []) (n ∷ c.initiator_idx ∷ c.target_idx ∷ c.value ∷ [])
unfolding body
cell_join w c n e = rw (e, call-join (Cell w) (cell_fields c))

-- whose kind is any byte
pub value-join : (w : Width) (kind : ℕ) (v : Value) → kind < 256 → value_call w kind v ≡ join (1 ∷ octets w ∷ 4 ∷ []) (kind ∷ v.idx ∷ v.value ∷ [])
unfolding join le body
value-join w kind v h = rw (lay-join as_is (body (Initiator w)) (value_fields v), mod-eq_of_lt h)

-- ---- the indices of a cell

pub cell-inside : (w : Width) (bs : List ℕ) (i t : ℕ) (c : declared.Cell) → cell_fields c ≡ fields_with as_is (body (Cell w)) bs
    → eqb (bad_in (Cell w) (ltb c.initiator_idx i ∷ ltb c.target_idx t ∷ [])) 0 ≡ in_counts w bs i t
cell-inside w bs i t c e =
    let g = e ∙ cell-fields w bs in
    let first : c.initiator_idx ≡ value (part bs 0 (octets w)) = ap (λ (vs : List ℕ). at vs 0) g in
    let second : c.target_idx ≡ value (part bs (octets w) (octets w)) = ap (λ (vs : List ℕ). at vs 1) g in
    rw (← all-bad 1 (body (Cell w)) (ltb c.initiator_idx i ∷ ltb c.target_idx t ∷ []) (omega arith), first, second)

-- a window of n bytes holds them
pub window-inside : (w : Width) (bs : List ℕ) (n i t : ℕ) → octets w + octets w ≤ n → in_counts w (take n bs) i t ≡ in_counts w bs i t
window-inside w bs n i t h = rw (part-take bs n 0 (octets w) (omega arith), part-take bs n (octets w) (octets w) h)
