-- What joins a node of HMAT: where a setting of a matrix goes in a table, and what settings and handles are in a recipe.
use Rattle.std.specs.Prelude.{ℕ, suc, ◌+◌, ◌*◌, ◌<◌, List, [], ◌∷◌, Bool, eqb, leb, ltb, length, drop}
use Rattle.format.specs.Bytes.{both, all, at, value, part}
use Rattle.format.specs.Layout.{width, lay}
use Rattle.format.specs.Form.{Width, octets}
use Rattle.format.specs.Kind.{kind_number, body}
use Rattle.format.specs.Kind as format
use Rattle.laws.specs.Settings.{Setting, initiator, target, cell}
use Rattle.hmat.specs.declared.Value.{Value}
use Rattle.hmat.specs.declared.Cell.{Cell}
use Rattle.hmat.specs.declared.SmbiosHandle.{SmbiosHandle}

-- its indices are below I and T
abbrev pub Inside : ℕ → ℕ → Setting → Type 0
Inside i t (initiator j v) = j < i
Inside i t (target j v) = j < t
Inside i t (cell j k v) = (j < i) × (k < t)

-- its place, of the I by T matrix whose record starts at p: cell (j, k) is entry j times T plus k
abbrev pub place_in : ℕ → ℕ → ℕ → Setting → ℕ
place_in p i t (initiator j v) = p + 32 + 4 * j
place_in p i t (target j v) = p + 32 + 4 * i + 4 * j
place_in p i t (cell j k v) = p + 32 + 4 * i + 4 * t + 2 * (j * t + k)

-- how many bytes it takes there
abbrev pub wide_in : Setting → ℕ
wide_in (initiator j v) = 4
wide_in (target j v) = 4
wide_in (cell j k v) = 2

-- ---- in a recipe

-- index, number
abbrev pub value_fields : Value → List ℕ
value_fields v = v.idx ∷ v.value ∷ []

-- the record of a value, its index of width w, of an initiator or a target by its kind byte: their bodies are alike
abbrev pub value_call : Width → ℕ → Value → List ℕ
value_call w kind v = kind ∷ lay (body (format.Initiator w)) (value_fields v)

-- initiator, target, number
abbrev pub cell_fields : Cell → List ℕ
cell_fields c = c.initiator_idx ∷ c.target_idx ∷ c.value ∷ []

-- the two indices that a cell's body begins with are below I and T
abbrev pub in_counts : Width → List ℕ → ℕ → ℕ → Bool
in_counts w bs i t = both (ltb (value (part bs 0 (octets w))) i) (ltb (value (part bs (octets w) (octets w))) t)

-- at a place of a recipe stands the whole record of a cell of an I by T matrix, its indices of width w
abbrev pub good_cell : Width → List ℕ → ℕ → ℕ → ℕ → Bool
good_cell w r p i t =
    all (eqb (at r p) (kind_number (format.Cell w)) ∷ leb (suc p + width (body (format.Cell w))) (length r) ∷ in_counts w (drop (p + 1) r) i t ∷ [])

-- the one field of a handle
abbrev pub handle_fields : SmbiosHandle → List ℕ
handle_fields h = h.0 ∷ []
