-- The fields whose places go by the width: what begins there is computed for each of the two.
use mathlib.Core.Path.{◌≡◌, refl}
use Prim.Native.Nat.{ℕ, ◌+◌}
use mathlib.Core.List.{[]}
use borrow.Author.Tests.{ne_eqb}
use Rattle.format.specs.Form.{Width, byte, pair, octets}
use Rattle.format.specs.Kind.{Matrix, Initiator, Target, Cell, body}
use Rattle.text.specs.Text.{text}
use Rattle.blames.specs.Words.{record_name, field_names, name_at, of_the, field_of}

pub matrix-targets : (w : Width) → field_of (Matrix w) 0 (11 + octets w) ≡ text "targets of the matrix"
unfolding field_of of_the name_at field_names record_name body
matrix-targets byte = refl
matrix-targets pair = refl

-- ---- the value of an initiator

pub initiator-value : (w : Width) → field_of (Initiator w) 0 (octets w) ≡ text "value of the initiator value"
unfolding field_of of_the name_at field_names record_name body
initiator-value byte = refl
initiator-value pair = refl

pub initiator-none : (w : Width) (p : ℕ) → (p ≡ 0 → ⊥) → (p ≡ octets w → ⊥) → field_of (Initiator w) 0 p ≡ []
unfolding field_of of_the name_at field_names record_name body
initiator-none byte p i v = rw (ne_eqb p 0 i, ne_eqb p 1 v)
initiator-none pair p i v = rw (ne_eqb p 0 i, ne_eqb p 2 v)

-- ---- the value of a target

pub target-value : (w : Width) → field_of (Target w) 0 (octets w) ≡ text "value of the target value"
unfolding field_of of_the name_at field_names record_name body
target-value byte = refl
target-value pair = refl

pub target_none : (w : Width) (p : ℕ) → (p ≡ 0 → ⊥) → (p ≡ octets w → ⊥) → field_of (Target w) 0 p ≡ []
unfolding field_of of_the name_at field_names record_name body
target_none byte p i v = rw (ne_eqb p 0 i, ne_eqb p 1 v)
target_none pair p i v = rw (ne_eqb p 0 i, ne_eqb p 2 v)

-- ---- a cell

pub cell-target : (w : Width) → field_of (Cell w) 0 (octets w) ≡ text "target of the cell"
unfolding field_of of_the name_at field_names record_name body
cell-target byte = refl
cell-target pair = refl

pub cell-value : (w : Width) → field_of (Cell w) 0 (octets w + octets w) ≡ text "value of the cell"
unfolding field_of of_the name_at field_names record_name body
cell-value byte = refl
cell-value pair = refl

pub cell-none : (w : Width) (p : ℕ) → (p ≡ 0 → ⊥) → (p ≡ octets w → ⊥) → (p ≡ octets w + octets w → ⊥) → field_of (Cell w) 0 p ≡ []
unfolding field_of of_the name_at field_names record_name body
cell-none byte p i t v = rw (ne_eqb p 0 i, ne_eqb p 1 t, ne_eqb p 2 v)
cell-none pair p i t v = rw (ne_eqb p 0 i, ne_eqb p 2 t, ne_eqb p 4 v)
