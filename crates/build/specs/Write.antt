-- What the writing pass reads: the places of records, the cells of a recipe, and what a change is of.
use Rattle.std.specs.Prelude.{◌≡◌, ℕ, zero, suc, ◌+◌, ◌-◌, ◌*◌, ◌%◌, List, eqb}
use Rattle.format.specs.Bytes.{pick, at, value, part}
use Rattle.format.specs.Form.{Width, octets}
use Rattle.format.specs.Layout.{width}
use Rattle.format.specs.Kind.{Kind, Cell, body}
use Rattle.writes.specs.declared.State.{State}
use Rattle.writes.specs.declared.Change.{Change}
use Rattle.writes.specs.Writes.{change_of}

-- ---- references

-- k records further, by their length bytes
unfoldable pub hops : List ℕ → ℕ → ℕ → ℕ
hops bs zero p = p
hops bs (suc k) p = hops bs k (p + at bs (p + 1))

-- the place of the k-th record of a PPTT, counted from 1, in the four bytes of a reference; 0 for none
unfoldable pub place_in : List ℕ → ℕ → ℕ
place_in bs k = pick (eqb k 0) 0 (hops bs (k - 1) 36 % 4294967296)

-- ---- the record of a cell at p of a recipe r, whose indices are of width w

-- the length of its body
abbrev pub body_width : Width → ℕ
body_width w = width (body (Cell w))

-- its indices, and its number
abbrev pub row_in : Width → List ℕ → ℕ → ℕ
row_in w r p = value (part r (p + 1) (octets w))

abbrev pub column_in : Width → List ℕ → ℕ → ℕ
column_in w r p = value (part r (p + 1 + octets w) (octets w))

abbrev pub value_in : Width → List ℕ → ℕ → ℕ
value_in w r p = value (part r (p + 1 + octets w + octets w) 2)

-- its place, of the matrix of so many targets whose first cell starts at a place
abbrev pub entry_at : Width → List ℕ → ℕ → ℕ → ℕ → ℕ
entry_at w r p cells targets = cells + 2 * (row_in w r p * targets + column_in w r p)

-- ---- what changes

-- a change is that of some record of a kind
abbrev pub Changes : Kind → Change → Type 0
Changes k c = (s : State) × (vs : List ℕ) × (c ≡ change_of k s vs)
