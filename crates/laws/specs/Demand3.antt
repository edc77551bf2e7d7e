-- Demand 3: two readers of which one knows every row that the other knows, when a reader sees a record as unknown, and what a reader shows of a built table.
use Rattle.std.specs.Prelude.{◌≡◌, ◌↔◌, ◌⊎◌, ℕ, ◌+◌, ◌≤◌, List, [], ◌∷◌, ◌++◌, map, true, false, length, take}
use Rattle.std.proofs.Math.Option.{Option, none, some}
use Rattle.std.proofs.Math.ListN.{get_elem?}
use Rattle.format.specs.Bytes.{at, part, refused, given}
use Rattle.format.specs.Table.{Table, sign, front}
use Rattle.format.specs.Form.{Form, processor, cache, memory, acpi, pci, rintc, old_rintc, domain, matrix, side, bridge, window, xor, type_of, size, narrowest, layout}
use Rattle.format.specs.Row.{Row, processors, caches, memories, initiators, old_rintcs, rintcs, domains, matrices, sides, bridges, windows, xors, row_number, home, matches, knows, known}
use Rattle.format.specs.Node.{Node, bytes, Entry, sizes, starts, place_of}
use Rattle.format.specs.Recipe.{Meaning, meaning}
use Rattle.format.specs.Build.{table}
use Rattle.format.specs.Normal.{normal}
use Rattle.format.specs.Read.{Seen, entry_of, accept, Reading, reading, shown, list_in, read, read_part}
use Rattle.format.specs.Out.{every}
use Rattle.laws.specs.Rename.{rename}

-- ---- two readers

-- a reader of mask m₁ knows every row that one of m₂ knows
abbrev pub More : ℕ → ℕ → Type 0
More m₁ m₂ = (r : Row) → knows m₂ r ≡ true → knows m₁ r ≡ true

-- the row matches the record of table b with this entry: on signature, the front's revision, type and Length column
abbrev pub RowMatches : List ℕ → Entry → Row → Type 0
RowMatches b e r = (take 4 b ≡ sign (home r)) × (matches (at b 8) e.type (part b e.offset e.length) r ≡ true)

-- a reader of the mask answers on record n of table b, which has this entry and is one of count
abbrev pub AnswersOn : List ℕ → ℕ → ℕ → ℕ → Entry → Type 0
AnswersOn b mask n count e =
    (row : Option Row) × (fields : List ℕ) × (read b mask n ≡ given (reading count e.type e.offset e.length row fields))

-- it answers on it as on an unknown one: with type, place and length, without row and fields
abbrev pub AsUnknown : List ℕ → ℕ → ℕ → ℕ → Entry → Type 0
AsUnknown b mask n count e = read b mask n ≡ given (reading count e.type e.offset e.length none [])

-- of table b: the reader of m₁ knows every row that the other, of m₂, knows
pub record TwoReaders (m₁ m₂ : ℕ) (b : List ℕ) : Type 0 where
  -- what the knowing one accepts the other accepts: the same number of records at the same places, of the same types and lengths
  pub accepts : (ss : List Seen) → accept b m₁ ≡ given ss → (us : List Seen) × (accept b m₂ ≡ given us) × (map entry_of us ≡ map entry_of ss)
  -- the knowing one answers on each of them
  pub answers : (ss : List Seen) → accept b m₁ ≡ given ss → (n : ℕ) (s : Seen) → get_elem? ss n ≡ some s → AnswersOn b m₁ n (length ss) (entry_of s)
  -- on each the other answers with the same fields and the same part, or as on an unknown one; the number of records, type, place and length stay
  pub shows : (n count : ℕ) (e : Entry) → AnswersOn b m₁ n count e → ((read b m₂ n ≡ read b m₁ n) × (read_part b m₂ n ≡ read_part b m₁ n)) ⊎ AsUnknown b m₂ n count e
  -- it is unknown to the other exactly when no row that the other knows matches
  pub unknown : (n count : ℕ) (e : Entry) → AnswersOn b m₁ n count e → AsUnknown b m₂ n count e ↔ ((r : Row) → RowMatches b e r → knows m₂ r ≡ false)
  -- of an unknown record its whole extent comes back
  pub whole : (n count : ℕ) (e : Entry) → AnswersOn b m₁ n count e → AsUnknown b m₂ n count e → read_part b m₂ n ≡ part b e.offset e.length
  -- a record number that the table lacks both refuse, with the number of records as the place, and no part comes back
  pub lacks : (ss : List Seen) → accept b m₁ ≡ given ss → (n : ℕ) → length ss ≤ n
      → (read b m₁ n ≡ refused 28 (length ss)) × (read b m₂ n ≡ refused 28 (length ss)) × (read_part b m₁ n ≡ []) × (read_part b m₂ n ≡ [])

-- ---- what is left of an answer to a reader of fewer rows

-- a record whose row is left only if the mask has it
abbrev pub limited : ℕ → Seen → Seen
limited m s = record { place = s.place; type = s.type; row = known m s.row; body = s.body }

-- the fields of a known record; of an unknown one none
abbrev pub if_known : Option Row → List ℕ → List ℕ
if_known none vs = []
if_known (some r) vs = vs

-- an answer whose row and fields are left only if the mask has the row
abbrev pub dimmed : ℕ → Reading → Reading
dimmed m (reading count type place length row fields) = reading count type place length (known m row) (if_known (known m row) fields)

-- a list where its record is known; of an unknown one its whole extent
abbrev pub or_whole : Option Row → List ℕ → List ℕ → List ℕ
or_whole none list whole = whole
or_whole (some r) list whole = list

-- the part of table b that comes back beside an answer: it stays only if the mask has the row
abbrev pub widened : List ℕ → ℕ → Reading → List ℕ → List ℕ
widened b m (reading count type place length row fields) list = or_whole (known m row) list (part b place length)

-- each row has a bit of its own
abbrev pub OwnBits : Type 0
OwnBits = (r q : Row) → row_number r ≡ row_number q → r ≡ q

-- ---- unknown exactly when

-- the row is of table t and matches a record of this revision, type and bytes
abbrev pub Fits : Table → ℕ → ℕ → List ℕ → Row → Type 0
Fits t rev type bs r = (home r ≡ t) × (matches rev type bs r ≡ true)

-- what a reader of the mask sees of a record of table t
pub record Exact (t : Table) (rev mask : ℕ) (s : Seen) : Type 0 where
  -- it is unknown exactly when no row that fits is known
  pub unknown : (s.row ≡ none) ↔ ((r : Row) → Fits t rev s.type s.body r → knows mask r ≡ false)
  -- it is of a row exactly when the row fits and is known
  pub of_row : (r : Row) → (s.row ≡ some r) ↔ (Fits t rev s.type s.body r × (knows mask r ≡ true))

-- ---- of a built table

-- the row of a form
abbrev pub row_for : Form → Row
row_for (processor n) = processors
row_for cache = caches
row_for memory = memories
row_for acpi = initiators
row_for pci = initiators
row_for old_rintc = old_rintcs
row_for rintc = rintcs
row_for domain = domains
row_for (matrix i t) = matrices (narrowest i t)
row_for (side n) = sides
row_for (bridge n) = bridges
row_for (window n) = windows
row_for (xor n) = xors

-- what a reader of every row answers on node n of a table of count records, behind the nodes before it: references are places
abbrev pub answer_on : Table → ℕ → List Node → Node → Reading
answer_on t count before n =
    reading count (type_of n.form) (front t + sizes before) (size n.form) (some (row_for n.form))
    (shown n.form (rename (place_of (starts t before)) (layout n.form) n.values))

-- of a recipe that means m, whose nodes are listed newest first: record k of its table is node k, and there is no other
pub record Shows (r : List ℕ) (m : Meaning) : Type 0 where
  pub fields : (later before : List Node) (n : Node) → m.nodes ≡ later ++ (n ∷ before)
      → read (table r) every (length before) ≡ given (answer_on m.head.table (length m.nodes) before n)
  pub list : (later before : List Node) (n : Node) → m.nodes ≡ later ++ (n ∷ before)
      → read_part (table r) every (length before) ≡ list_in n.form (bytes (place_of (starts m.head.table before)) n)
  pub past : (k : ℕ) → length m.nodes ≤ k → read (table r) every k ≡ refused 28 (length m.nodes)

-- of a recipe that builds: a reader of every row shows what its normal form says
pub record ShowsNormal (r : List ℕ) : Type 0 where
  -- the head and the nodes of the normal form
  pub said : Meaning
  pub by_normal : meaning (normal r) ≡ given said
  -- the recipe says the same
  pub by_recipe : meaning r ≡ given said
  -- the built table is shown with the fields of these nodes, references as places
  pub shows : Shows r said
