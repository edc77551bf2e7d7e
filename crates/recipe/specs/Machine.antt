-- The numbers that the checking pass keeps of the nodes so far, and what one record does to them.
use Rattle.std.specs.Prelude.{◌≡◌, ℕ, ◌+◌, ◌-◌, ◌*◌, ◌/◌, ◌%◌, ◌^◌, ◌≤◌, ◌<◌, List, [], ◌∷◌, ◌++◌, Bool, false, not, ◌⊎◌, Option, Some, None, Result, Ok, Err, length, take, drop, set, eqb, ltb}
use Rattle.std.proofs.Math.Option as math
use Rattle.format.specs.Bytes.{pick, both, at, Answer, refused, given, unless}
use Rattle.format.specs.Layout.{width, fields}
use Rattle.format.specs.Table.{Table, front, limit, pptt, Head}
use Rattle.format.specs.Form.{Width, processor, byte, octets, type_of, size}
use Rattle.format.specs.Node.{Node, sizes}
use Rattle.format.specs.Kind.{Kind, Processor, Resource, Cache, Memory, Acpi, Pci, Rintc, Domain, Matrix, Initiator, Target, Cell, Side, Handle, Bridge, Window, WindowTarget, Xor, Map, kind_number, kind_of, is_kind, body, part_in, width_behind}
use Rattle.format.specs.Recipe.{Newest, a_list, a_matrix, other, newest, step, added, fault, fault_at, cut, Meaning, run}
use Rattle.header.specs.declared.Table as code
use Rattle.header.specs.Header.{meant, table_named}
use Rattle.hmat.specs.declared.Width as hmat
use Rattle.hmat.specs.Widths.{meant_width, width_named}
use Rattle.recipe.specs.declared.Newest as kept
use Rattle.recipe.specs.declared.Newest.TheVariants as is
use Rattle.recipe.specs.declared.state.State.{State}
use Rattle.recipe.specs.declared.Refusal.TheVariants.{Misplaced}
use Rattle.recipe.specs.declared.Fault.{Fault}
use Rattle.recipe.specs.declared.Fault.TheVariants.{Record, Field}
use Rattle.recipe.specs.Answers.{number}
use Rattle.recipe.specs.Kinds.{reference_of, ordinal_in}

-- ---- the state

-- a node with a list, by the kind of its list's records: how many it needs, and has
abbrev pub list_kept : Kind → ℕ → ℕ → kept.Newest
list_kept Processor needs n = is.Other
list_kept Resource needs n = is.Processor n
list_kept Cache needs n = is.Other
list_kept Memory needs n = is.Other
list_kept Acpi needs n = is.Other
list_kept Pci needs n = is.Other
list_kept Rintc needs n = is.Other
list_kept Domain needs n = is.Other
list_kept (Matrix w) needs n = is.Other
list_kept (Initiator w) needs n = is.Other
list_kept (Target w) needs n = is.Other
list_kept (Cell w) needs n = is.Other
list_kept Side needs n = is.Other
list_kept Handle needs n = is.Side n
list_kept Bridge needs n = is.Other
list_kept Window needs n = is.Other
list_kept WindowTarget needs n = is.Window needs n
list_kept Xor needs n = is.Other
list_kept Map needs n = is.Xor n

-- the newest node without its fields; w: how wide a matrix's counts are written
abbrev pub newest_kept : Width → Newest → kept.Newest
newest_kept w (a_list k needs most n f us ns) = list_kept k needs n
newest_kept w (a_matrix i t us ns) = is.Matrix (width_named w) i t
newest_kept w other = is.Other

-- it lacks entries, and what comes is none; o: the kind that comes, if any
abbrev pub lacks : kept.Newest → math.Option Kind → Bool
lacks (is.Processor n) o = false
lacks (is.Matrix w i t) o = false
lacks (is.Side n) o = false
lacks (is.Window needs n) o = both (ltb n needs) (not (is_kind WindowTarget o))
lacks (is.Xor n) o = false
lacks is.Other o = false

-- what a state says of the nodes
pub record Counts : Type 0 where
  pub table : code.Table
  pub nodes : ℕ
  pub length : ℕ
  pub newest : kept.Newest

abbrev pub counts : State → Counts
counts s = record { table = s.table; nodes = s.nodes; length = s.length; newest = s.newest }

abbrev pub state_of : Table → Width → List Node → Counts
state_of t w ns = record { table = table_named t; nodes = length ns; length = front t + sizes ns; newest = newest_kept w (newest ns) }

-- a window has its seven fields at least, targets or not
abbrev pub Begun : Newest → Type 0
Begun (a_list k needs most n f us ns) = k ≡ WindowTarget → 7 ≤ length us
Begun (a_matrix i t us ns) = Unit
Begun other = Unit

-- the answer at the end: the table and its length, unless the newest node, whose record is at q, lacks entries
abbrev pub ended_with : Counts → ℕ → Answer (Table × ℕ)
ended_with s q = pick (lacks s.newest math.none) (refused 11 q) (given (meant s.table, s.length))

-- the counts of a matrix, if they are as wide as w
abbrev pub counted : kept.Newest → hmat.Width → Result (ℕ × ℕ) Fault
counted (is.Processor n) w = Err (Record Misplaced)
counted (is.Matrix v i t) w = pick (eqb (octets (meant_width w)) (octets (meant_width v))) (Ok (i, t)) (Err (Record Misplaced))
counted (is.Side n) w = Err (Record Misplaced)
counted (is.Window needs n) w = Err (Record Misplaced)
counted (is.Xor n) w = Err (Record Misplaced)
counted is.Other w = Err (Record Misplaced)

-- the state with a longer table, unless that is too long, of a record at p
abbrev pub grown : ℕ → Counts → ℕ → ℕ → kept.Newest → Answer Counts
grown p s n by w =
    pick (ltb limit (s.length + by)) (refused 8 p) (given (record { table = s.table; nodes = n; length = s.length + by; newest = w }))

-- the state with one node more, unless it has a bad field or the table is too long
abbrev pub made_by : ℕ → Counts → Option ℕ → ℕ → kept.Newest → Answer Counts
made_by p s None n w = grown p s (s.nodes + 1) n w
made_by p s (Some by) n w = refused 5 (p + by)

-- ---- the types of the nodes, the oldest first, and their bits in words of 64

unfoldable pub types_of : List Node → List ℕ
types_of [] = []
types_of (n ∷ ns) = types_of ns ++ (type_of n.form ∷ [])

-- every element is a bit
abbrev pub Bits : List ℕ → Type 0
Bits [] = Unit
Bits (b ∷ bs) = (b < 2) × Bits bs

-- the number of bits, the first the lowest
unfoldable pub bits_in : List ℕ → ℕ
bits_in [] = 0
bits_in (b ∷ bs) = b + 2 * bits_in bs

-- bit i of words
abbrev pub bit_at : List ℕ → ℕ → ℕ
bit_at ws i = at ws (i / 64) / 2 ^ (i % 64) % 2

-- the shortest node of a PPTT, a processor without resources, has so many bytes in a table, and so many in a recipe
abbrev pub least_node : ℕ
least_node = size (processor 0)

abbrev pub least_record : ℕ
least_record = 1 + width (body Processor)

-- the words have a bit for every node of a PPTT within the limit, or for every node that the recipe has room for
abbrev pub Roomy : List ℕ → List ℕ → Type 0
Roomy ws r = (limit < least_node * (64 * length ws)) ⊎ (length r < least_record * (64 * length ws))

-- the words hold these types
pub record Typed (ws ts : List ℕ) : Type 0 where
  pub two : Bits ts
  pub bits : (j : ℕ) → at ws j ≡ bits_in (take 64 (drop (64 * j) ts))

-- bit i is there, and in its word all from it on are 0
pub record Clear (ws : List ℕ) (i : ℕ) : Type 0 where
  pub there : i / 64 < length ws
  pub low : at ws (i / 64) < 2 ^ (i % 64)

-- the words when a record of a kind has made node i, if it makes one: a 1 for a cache
abbrev pub noted : Kind → ℕ → List ℕ → List ℕ
noted k i ws = pick (eqb (kind_number k) (kind_number Cache)) (set ws (i / 64) (at ws (i / 64) + 2 ^ (i % 64))) ws

-- the node that an ordinal names has the type ty
abbrev pub of_type : List ℕ → ℕ → ℕ → Bool
of_type ws to ty = eqb (bit_at ws (to - 1)) ty

-- the ordinal that the reference of a record names, whose body is bs; 0 for none
abbrev pub refers : Kind → List ℕ → ℕ
refers k bs = ordinal_in (reference_of k bs)

-- ---- one record

abbrev pub stepped : ℕ → Result State Fault → Answer Counts
stepped p (Ok s) = given (counts s)
stepped p (Err (Record f)) = refused (number f) p
stepped p (Err (Field by)) = refused 5 (p + by)

-- what a record of kind k at place p, with the body bs, does behind the nodes ns
abbrev pub turn : Table → Width → List Node → Kind → List ℕ → ℕ → Answer Counts
turn t w ns k bs p =
    let vs : List ℕ = fields (body k) bs in
    let n : ℕ = fault t w ns k vs in
    unless n (p + fault_at n k (step k vs ns).ranges) (given (state_of t (width_behind (part_in k) w) (added k vs ns)))

-- a step is that turn, whatever the nodes are that the state stands for
abbrev pub Turns : Kind → List ℕ → Counts → Result State Fault → Type 0
Turns k bs s r = (t : Table) (w : Width) (ns : List Node) (p : ℕ) → s ≡ state_of t w ns → stepped p r ≡ turn t w ns k bs p

-- where a window has its fields
abbrev pub TurnsBegun : Kind → List ℕ → Counts → Result State Fault → Type 0
TurnsBegun k bs s r = (t : Table) (w : Width) (ns : List Node) (p : ℕ) → s ≡ state_of t w ns → Begun (newest ns) → stepped p r ≡ turn t w ns k bs p

-- what the pass knows of the nodes: the words hold the types of a PPTT's, and a window has its fields
pub record Knows (ws : List ℕ) (t : Table) (ns : List Node) : Type 0 where
  pub typed : t ≡ pptt → Typed ws (types_of ns)
  pub begun : Begun (newest ns)

-- where the kind is one of the table's, and the pass knows this
abbrev pub TurnsWith : List ℕ → Kind → List ℕ → Counts → Result State Fault → Type 0
TurnsWith ws k bs s r =
    (t : Table) (w : Width) (ns : List Node) (p : ℕ) → s ≡ state_of t w ns → (b : ℕ) → kind_of t b ≡ math.some k → Knows ws t ns → stepped p r ≡ turn t w ns k bs p

-- ---- all records

-- what the records behind the head mean
abbrev pub whole : List ℕ → Head → Answer Meaning
whole r h = run h 0 byte [] (cut h.table 0 28 (drop 28 r))

-- what the state at a place stands for, and the words; q: the place of the newest node's record
pub record Stands (r : List ℕ) (h : Head) (q p : ℕ) (s : Counts) (ws : List ℕ) : Type 0 where
  pub nodes : List Node
  pub width : Width
  pub is : s ≡ state_of h.table width nodes
  pub short : front h.table + sizes nodes ≤ limit
  -- each node of a PPTT has a record of its own
  pub few : h.table ≡ pptt → least_record * length nodes ≤ p
  pub roomy : h.table ≡ pptt → Roomy ws r
  pub knows : Knows ws h.table nodes
  pub same : whole r h ≡ run h q width nodes (cut h.table 0 p (drop p r))
