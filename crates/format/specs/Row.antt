-- The layout rows: which row a record of a table matches, and which a reader knows.
use Rattle.std.specs.Prelude.{ℕ, ◌-◌, ◌/◌, ◌%◌, ◌^◌, List, [], ◌∷◌, Bool, false, not, length, eqb, leb}
use Rattle.std.proofs.Math.Option.{Option, none, some}
use Rattle.format.specs.Bytes.{pick, both, all, find, at, value, part}
use Rattle.format.specs.Table.{Table, pptt, srat, hmat, cedt, revision}
use Rattle.format.specs.Form.{Form, processor, cache, memory, acpi, pci, rintc, old_rintc, domain, matrix, side, bridge, window, xor, Width, byte, pair, most, up_to, registers, ways}

-- the rows of the table of layouts
pub data Row : Type 0 where
  processors caches memories initiators old_rintcs domains sides bridges windows xors rintcs : Row
  matrices : Width → Row  -- with counts that a recipe writes in this width

-- their numbers
abbrev pub row_number : Row → ℕ
row_number processors = 0
row_number caches = 1
row_number memories = 2
row_number initiators = 3
row_number old_rintcs = 4
row_number domains = 5
row_number (matrices byte) = 6
row_number sides = 7
row_number bridges = 8
row_number windows = 9
row_number xors = 10
row_number rintcs = 11
row_number (matrices pair) = 12

-- the rows of each table
abbrev pub rows : Table → List Row
rows pptt = processors ∷ caches ∷ []
rows srat = memories ∷ initiators ∷ old_rintcs ∷ rintcs ∷ []
rows hmat = domains ∷ matrices byte ∷ sides ∷ matrices pair ∷ []
rows cedt = bridges ∷ windows ∷ xors ∷ []

-- the table whose signature the row names
abbrev pub home : Row → Table
home processors = pptt
home caches = pptt
home memories = srat
home initiators = srat
home old_rintcs = srat
home domains = hmat
home (matrices w) = hmat
home sides = hmat
home bridges = cedt
home windows = cedt
home xors = cedt
home rintcs = srat

-- the type that the row names
abbrev pub row_type : Row → ℕ
row_type processors = 0
row_type caches = 1
row_type memories = 1
row_type initiators = 5
row_type old_rintcs = 7
row_type domains = 0
row_type (matrices w) = 1
row_type sides = 2
row_type bridges = 0
row_type windows = 1
row_type xors = 2
row_type rintcs = 7

-- the counts are those of the row: up to 255, or one above that and both up to the most
abbrev pub counted : Width → ℕ → ℕ → Bool
counted byte i t = up_to 255 i t
counted pair i t = both (not (up_to 255 i t)) (up_to most i t)

-- the Length column, of a record's bytes
unfoldable pub column : Row → List ℕ → Bool
column processors bs = all (leb 20 (length bs) ∷ leb (length bs) 252 ∷ eqb (length bs % 4) 0 ∷ [])
column caches bs = eqb (length bs) 28
column memories bs = eqb (length bs) 40
column initiators bs = eqb (length bs) 32
column old_rintcs bs = eqb (length bs) 16
column domains bs = eqb (length bs) 40
column (matrices w) bs = both (leb 32 (length bs)) (counted w (value (part bs 12 4)) (value (part bs 16 4)))
column sides bs = leb 32 (length bs)
column bridges bs = eqb (length bs) 32
column windows bs = leb 40 (length bs)
column xors bs = leb 8 (length bs)
column rintcs bs = eqb (length bs) 20

-- a row of the table matches on revision, type and Length column
unfoldable pub matches : ℕ → ℕ → List ℕ → Row → Bool
matches rev ty bs r = all (eqb rev (revision (home r)) ∷ eqb ty (row_type r) ∷ column r bs ∷ [])

-- the row that matches a record of a table of this revision
unfoldable pub row_of : Table → ℕ → ℕ → List ℕ → Option Row
row_of t rev ty bs = find (matches rev ty bs) (rows t)

-- the form of a record of a row: its inner counts, what its fields settle, or its handle
unfoldable pub form_in : Row → List ℕ → Form
form_in processors bs = processor ((length bs - 20) / 4)
form_in caches bs = cache
form_in memories bs = memory
form_in initiators bs = pick (eqb (at bs 3) 0) acpi pci
form_in old_rintcs bs = old_rintc
form_in domains bs = domain
form_in (matrices w) bs = matrix (value (part bs 12 4)) (value (part bs 16 4))
form_in sides bs = side (value (part bs 30 2))
form_in bridges bs = bridge (registers (value (part bs 8 4)))
form_in windows bs = window (ways (value (part bs 24 1)))
form_in xors bs = xor (value (part bs 7 1))
form_in rintcs bs = rintc

-- the row whose records are read, but neither built nor read out any more
abbrev pub is_retired : Option Row → Bool
is_retired none = false
is_retired (some r) = eqb (row_number r) (row_number old_rintcs)

-- ---- the mask of known rows

-- the bit of the row is set
abbrev pub knows : ℕ → Row → Bool
knows mask r = eqb (mask / 2 ^ row_number r % 2) 1

-- the row, where the mask has it
abbrev pub known : ℕ → Option Row → Option Row
known mask none = none
known mask (some r) = pick (knows mask r) (some r) none
