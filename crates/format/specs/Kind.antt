-- The kinds of a recipe's records, and their bodies.
use Rattle.std.specs.Prelude.{ℕ, ◌+◌, List, [], ◌∷◌, Bool, true, false, eqb}
use Rattle.std.proofs.Math.Option.{Option, none, some}
use Rattle.format.specs.Bytes.{pick, find, has}
use Rattle.format.specs.Layout.{Item, fld, to, or_none}
use Rattle.format.specs.Table.{Table, pptt, srat, hmat, cedt}
use Rattle.format.specs.Form.{Width, byte, pair, octets}

-- the kinds but the head
pub data Kind : Type 0 where
  Processor Resource Cache Memory Acpi Pci Rintc Domain : Kind
  Matrix Initiator Target Cell : Width → Kind  -- with counts or indices of this width
  Side Handle Bridge Window WindowTarget Xor Map : Kind

-- the byte that names a matrix: those of its settings follow
abbrev pub matrix_number : Width → ℕ
matrix_number byte = 49
matrix_number pair = 55

-- the byte that names a kind
abbrev pub kind_number : Kind → ℕ
kind_number Processor = 16
kind_number Resource = 17
kind_number Cache = 18
kind_number Memory = 32
kind_number Acpi = 33
kind_number Pci = 34
kind_number Rintc = 36
kind_number Domain = 48
kind_number (Matrix w) = matrix_number w
kind_number (Initiator w) = matrix_number w + 1
kind_number (Target w) = matrix_number w + 2
kind_number (Cell w) = matrix_number w + 3
kind_number Side = 53
kind_number Handle = 54
kind_number Bridge = 64
kind_number Window = 65
kind_number WindowTarget = 66
kind_number Xor = 67
kind_number Map = 68

-- 16 to 18 PPTT, 32 to 36 but 35 SRAT, 48 to 58 HMAT, 64 to 68 CEDT
abbrev pub kinds : Table → List Kind
kinds pptt = Processor ∷ Resource ∷ Cache ∷ []
kinds srat = Memory ∷ Acpi ∷ Pci ∷ Rintc ∷ []
kinds hmat =
    Domain ∷ Matrix byte ∷ Initiator byte ∷ Target byte ∷ Cell byte ∷ Side ∷ Handle ∷ Matrix pair ∷ Initiator pair ∷ Target pair ∷ Cell pair ∷ []
kinds cedt = Bridge ∷ Window ∷ WindowTarget ∷ Xor ∷ Map ∷ []

-- the kind that a byte names in a recipe of this table
unfoldable pub kind_of : Table → ℕ → Option Kind
kind_of t b = find (λ k. eqb b (kind_number k)) (kinds t)

-- bytes that named a kind once: 35 the RINTC without its domain
abbrev pub retired : Table → List ℕ
retired pptt = []
retired srat = 35 ∷ []
retired hmat = []
retired cedt = []

-- of a byte that names no kind, why: 12 where it is retired, else 2
unfoldable pub no_kind : Table → ℕ → ℕ
no_kind t b = pick (has (retired t) b) 12 2

-- k is what came
abbrev pub is_kind : Kind → Option Kind → Bool
is_kind k none = false
is_kind k (some j) = eqb (kind_number j) (kind_number k)

-- the fields of a body
unfoldable pub body : Kind → List Item
body Processor = fld 4 ∷ or_none 0 ∷ fld 4 ∷ []
body Resource = to 1 ∷ []
body Cache = fld 1 ∷ or_none 1 ∷ fld 4 ∷ fld 4 ∷ fld 1 ∷ fld 1 ∷ fld 2 ∷ fld 4 ∷ []
body Memory = fld 4 ∷ fld 8 ∷ fld 8 ∷ fld 1 ∷ []
body Acpi = fld 4 ∷ fld 8 ∷ fld 4 ∷ fld 1 ∷ []
body Pci = fld 4 ∷ fld 2 ∷ fld 1 ∷ fld 1 ∷ fld 1 ∷ fld 1 ∷ []
body Rintc = fld 4 ∷ fld 4 ∷ fld 1 ∷ fld 4 ∷ []
body Domain = fld 4 ∷ fld 4 ∷ []
body (Matrix w) = fld 1 ∷ fld 1 ∷ fld 1 ∷ fld 8 ∷ fld (octets w) ∷ fld (octets w) ∷ []
body (Initiator w) = fld (octets w) ∷ fld 4 ∷ []
body (Target w) = fld (octets w) ∷ fld 4 ∷ []
body (Cell w) = fld (octets w) ∷ fld (octets w) ∷ fld 2 ∷ []
body Side = fld 4 ∷ fld 8 ∷ fld 4 ∷ []
body Handle = fld 2 ∷ []
body Bridge = fld 4 ∷ fld 1 ∷ fld 8 ∷ []
body Window = fld 8 ∷ fld 8 ∷ fld 1 ∷ fld 1 ∷ fld 1 ∷ fld 1 ∷ fld 2 ∷ []
body WindowTarget = fld 4 ∷ []
body Xor = fld 1 ∷ []
body Map = fld 8 ∷ []

-- ---- kinds and matrices

-- what a record has to do with a matrix: it makes one, or sets something in one, its counts or indices so wide; or nothing
pub data Part : Type 0 where
  opens sets : Width → Part
  apart : Part

-- of a record of a kind
abbrev pub part_in : Kind → Part
part_in Processor = apart
part_in Resource = apart
part_in Cache = apart
part_in Memory = apart
part_in Acpi = apart
part_in Pci = apart
part_in Rintc = apart
part_in Domain = apart
part_in (Matrix w) = opens w
part_in (Initiator w) = sets w
part_in (Target w) = sets w
part_in (Cell w) = sets w
part_in Side = apart
part_in Handle = apart
part_in Bridge = apart
part_in Window = apart
part_in WindowTarget = apart
part_in Xor = apart
part_in Map = apart

-- it sets nothing with indices of another width than the newest matrix's counts have, which is w
abbrev pub suits : Part → Width → Bool
suits (opens v) w = true
suits (sets v) w = eqb (octets v) (octets w)
suits apart w = true

-- the width of the newest matrix's counts behind it
abbrev pub width_behind : Part → Width → Width
width_behind (opens v) w = v
width_behind (sets v) w = w
width_behind apart w = w
