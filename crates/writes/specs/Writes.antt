-- What a record of a kind does to the table: the bytes of the buffer after it, and the numbers that a pass keeps.
use Rattle.std.specs.Prelude.{ℕ, ◌+◌, ◌-◌, ◌%◌, ◌^◌, min, List, [], length, take, ltb}
use Rattle.format.specs.Bytes.{pick, at, le, over}
use Rattle.format.specs.Form.{processor, cache, memory, acpi, pci, rintc, domain, matrix, side, bridge, window, xor, registers, ways, size}
use Rattle.format.specs.Layout.{fld, to, wide, as_is, width, fields}
use Rattle.format.specs.Node.{Node, node, bytes}
use Rattle.format.specs.Kind.{Kind, Processor, Resource, Cache, Memory, Acpi, Pci, Rintc, Domain, Matrix, Initiator, Target, Cell, Side, Handle, Bridge, Window, WindowTarget, Xor, Map, body}
use Rattle.format.specs.Recipe.{unset}
use Rattle.pptt.specs.Processor as pptt
use Rattle.hmat.specs.Hmat as hmat
use Rattle.hmat.specs.Settings as matrices
use Rattle.cedt.specs.Cedt as cedt
use Rattle.laws.specs.Settings.{Setting, initiator, target, cell}
use Rattle.writes.specs.declared.Latest.{Latest}
use Rattle.writes.specs.declared.Found.{Found}
use Rattle.writes.specs.declared.State.{State}
use Rattle.writes.specs.declared.Change.{Change}

-- ---- the body

-- the first n bytes; none where there are fewer
unfoldable pub windowed : ℕ → List ℕ → List ℕ
windowed n bs = pick (ltb (length bs) n) [] (take n bs)

-- the fields of the body of a kind that bytes begin with; 0 each where it is cut
abbrev pub fields_in : Kind → List ℕ → List ℕ
fields_in k bs = fields (body k) (windowed (width (body k)) bs)

-- ---- the buffer

-- a record at the end, which names the record at v, or none
abbrev pub appended : State → ℕ → Node → List ℕ → List ℕ
appended s v n out = over out s.end (bytes (λ k. v) n)

-- a record at the end, of a form without references
abbrev pub plain : State → Node → List ℕ → List ℕ
plain s n out = over out s.end (bytes as_is n)

-- the matrix of a body's fields, of which nothing is set
abbrev pub unset_matrix : List ℕ → Node
unset_matrix vs = node (matrix (at vs 4) (at vs 5)) (unset (at vs 4) (at vs 5) vs)

-- the place of the newest window's next target
abbrev pub target_at : State → ℕ
target_at s = cedt.target_in s.latest.place s.latest.count

-- the buffer after a record of a kind with the fields vs; f: where the record stands that it names; p: the place of what it sets
unfoldable pub wrote : Kind → State → Found → ℕ → List ℕ → List ℕ → List ℕ
wrote Processor s f p vs out = appended s f.processor.0 (node (processor 0) vs) out
wrote Resource s f p vs out = pptt.grown out s.latest.place s.latest.count (record { 0 = f.cache.0 })
wrote Cache s f p vs out = appended s f.cache.0 (node cache vs) out
wrote Memory s f p vs out = plain s (node memory vs) out
wrote Acpi s f p vs out = plain s (node acpi vs) out
wrote Pci s f p vs out = plain s (node pci vs) out
wrote Rintc s f p vs out = plain s (node rintc vs) out
wrote Domain s f p vs out = plain s (node domain vs) out
wrote (Matrix w) s f p vs out = plain s (unset_matrix vs) out
wrote (Initiator w) s f p vs out = over out p (le 4 (at vs 1))
wrote (Target w) s f p vs out = over out p (le 4 (at vs 1))
wrote (Cell w) s f p vs out = over out p (le 2 (at vs 2))
wrote Side s f p vs out = plain s (node (side 0) vs) out
wrote Handle s f p vs out = hmat.grown out s.latest.place (s.latest.count % 65536) (at vs 0)
wrote Bridge s f p vs out = plain s (node (bridge (registers (at vs 1))) vs) out
wrote Window s f p vs out = plain s (node (window (ways (at vs 2))) vs) out
wrote WindowTarget s f p vs out = over out (target_at s) (le 4 (at vs 0))
wrote Xor s f p vs out = plain s (node (xor 0) vs) out
wrote Map s f p vs out = cedt.grown out s.latest.place (s.latest.count % 65536) (at vs 0)

-- ---- the numbers

-- the number behind another in a u32
abbrev pub next : ℕ → ℕ
next n = (n + 1) % 4294967296

-- a place, as far as a usize has it
abbrev pub capped : ℕ → ℕ
capped p = min p (2 ^ 64 - 1)

-- the place of a setting in the newest matrix
abbrev pub setting_at : State → Setting → ℕ
setting_at s x = matrices.place_in s.latest.place s.latest.initiators s.latest.targets x

-- a record of n bytes is made; i and t are a matrix's own
abbrev pub making : State → ℕ → ℕ → ℕ → Change
making s n i t = record { from = s.end; len = 0; more = n; latest = record { nodes = next s.latest.nodes; place = s.end; count = 0; initiators = i; targets = t } }

-- the newest record with one item more
abbrev pub counting : State → Latest
counting s =
    record { nodes = s.latest.nodes; place = s.latest.place; count = next s.latest.count; initiators = s.latest.initiators; targets = s.latest.targets }

-- the newest record gets one item of w bytes more, and its first n bytes say so
abbrev pub growing : State → ℕ → ℕ → Change
growing s n w = record { from = s.latest.place; len = n; more = w; latest = counting s }

-- the newest record has room for its next item, of w bytes: it is set
abbrev pub filling : State → ℕ → ℕ → Change
filling s from w = record { from = from; len = w; more = 0; latest = counting s }

-- a value or a cell of the newest matrix is set
abbrev pub setting : State → Setting → Change
setting s x = record { from = capped (setting_at s x); len = matrices.wide_in x; more = 0; latest = s.latest }

-- what a record of a kind changes: so many bytes from a place on, so many more at the end
unfoldable pub change_of : Kind → State → List ℕ → Change
change_of Processor s vs = making s (size (processor 0)) 0 0
change_of Resource s vs = growing s (size (processor 0)) (wide (to 1))
change_of Cache s vs = making s (size cache) 0 0
change_of Memory s vs = making s (size memory) 0 0
change_of Acpi s vs = making s (size acpi) 0 0
change_of Pci s vs = making s (size pci) 0 0
change_of Rintc s vs = making s (size rintc) 0 0
change_of Domain s vs = making s (size domain) 0 0
change_of (Matrix w) s vs = making s (size (matrix (at vs 4) (at vs 5))) (at vs 4) (at vs 5)
change_of (Initiator w) s vs = setting s (initiator (at vs 0) (at vs 1))
change_of (Target w) s vs = setting s (target (at vs 0) (at vs 1))
change_of (Cell w) s vs = setting s (cell (at vs 0) (at vs 1) (at vs 2))
change_of Side s vs = making s (size (side 0)) 0 0
change_of Handle s vs = growing s (size (side 0)) (wide (fld 2))
change_of Bridge s vs = making s (size (bridge 0)) 0 0
change_of Window s vs = making s (size (window (ways (at vs 2)))) 0 0
change_of WindowTarget s vs = filling s (capped (target_at s)) (wide (fld 4))
change_of Xor s vs = making s (size (xor 0)) 0 0
change_of Map s vs = growing s (size (xor 0)) (wide (fld 8))
