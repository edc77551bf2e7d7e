-- The recipe: what its records mean, one after the other, and what is refused.
use Rattle.std.specs.Prelude.{ℕ, zero, suc, ◌+◌, ◌-◌, ◌*◌, List, [], ◌∷◌, ◌++◌, Bool, true, false, not, length, take, drop, replicate, set, eqb, leb, ltb}
use Rattle.std.proofs.Math.Option.{Option, none, some}
use Rattle.format.specs.Bytes.{pick, both, all, first_of, find, Answer, refused, given, and_then, or_refused, unless, at, part}
use Rattle.format.specs.Layout.{width, fields, refs_good}
use Rattle.format.specs.Table.{Table, tables, code, front, limit, Head, head_of}
use Rattle.format.specs.Form.{Form, processor, cache, memory, acpi, pci, rintc, old_rintc, domain, matrix, side, bridge, window, xor, Width, byte, registers, ways, ranges}
use Rattle.format.specs.Node.{Node, node, sizes, starts, is_ordinal, at_ordinal}
use Rattle.format.specs.Kind.{Kind, Processor, Resource, Cache, Memory, Acpi, Pci, Rintc, Domain, Matrix, Initiator, Target, Cell, Side, Handle, Bridge, Window, WindowTarget, Xor, Map, kind_number, kind_of, no_kind, is_kind, body, part_in, suits, width_behind}
use Rattle.format.specs.Field.{bad_in}

-- ---- cutting

-- the records of a recipe, each with its place
pub data Calls : Type 0 where
  done : Calls
  bad_kind : (n p : ℕ) → Calls  -- 2: the kind is unknown, of another table, or a head's; 12: it is retired
  cut_off : ℕ → Kind → Calls  -- the body ends past the recipe
  called : ℕ → Kind → List ℕ → Calls → Calls  -- kind, fields, and the records behind

-- n: why it is no kind; bs: what follows the kind byte, which stands at p; rest: the records behind this one
unfoldable pub cut_as : Option Kind → ℕ → List ℕ → ℕ → Calls → Calls
cut_as none n bs p rest = bad_kind n p
cut_as (some k) n bs p rest = pick (ltb (length bs) (width (body k))) (cut_off p k) (called p k (fields (body k) bs) rest)

-- how many bytes follow a kind byte
abbrev pub skip : Option Kind → ℕ
skip none = 0
skip (some k) = width (body k)

-- n: how many bytes still belong to the record before; p: the place
unfoldable pub cut : Table → ℕ → ℕ → List ℕ → Calls
cut t n p [] = done
cut t (suc n) p (b ∷ bs) = cut t n (suc p) bs
cut t zero p (b ∷ bs) = cut_as (kind_of t b) (no_kind t b) bs p (cut t (skip (kind_of t b)) (suc p) bs)

-- ---- one record more; the nodes are listed newest first

-- what a record asks for, and what it does
pub record Step : Type 0 where
  pub placed : Bool  -- it stands where it may: else 4
  pub ranges : List Bool  -- its fields' tests, in order: else 5
  pub earlier : List Node  -- its references name one of these: else 6; and that is of the right type: else 10
  pub full : Bool  -- its node's list has no room: 7
  pub nodes : List Node  -- the nodes with it

-- a record that makes a node
abbrev pub makes : List Bool → Node → List Node → Step
makes rs n ns = record { placed = true; ranges = rs; earlier = ns; full = false; nodes = n ∷ ns }

-- a record that makes n of the node in front of ns
abbrev pub changes : List Bool → Bool → Node → List Node → Step
changes rs full n ns = record { placed = true; ranges = rs; earlier = ns; full = full; nodes = n ∷ ns }

-- a record that has no node to join
abbrev pub stray : Step
stray = record { placed = false; ranges = []; earlier = []; full = false; nodes = [] }

-- the newest node, if a record can join it: its fields, and the nodes before it
pub data Newest : Type 0 where
  a_list : Kind → (least most has : ℕ) → (more : Form) → List ℕ → List Node → Newest  -- the kind of its list's records, how many it needs, takes and has, and its form with one more
  a_matrix : ℕ → ℕ → List ℕ → List Node → Newest  -- I by T
  other : Newest

-- the node of this form and fields, in front of ns
abbrev pub newest_as : Form → List ℕ → List Node → Newest
newest_as (processor n) us ns = a_list Resource 0 58 n (processor (suc n)) us ns
newest_as cache us ns = other
newest_as memory us ns = other
newest_as acpi us ns = other
newest_as pci us ns = other
newest_as rintc us ns = other
newest_as old_rintc us ns = other
newest_as domain us ns = other
newest_as (matrix i t) us ns = a_matrix i t us ns
newest_as (side n) us ns = a_list Handle 0 65535 n (side (suc n)) us ns
newest_as (bridge n) us ns = other
newest_as (window n) us ns = a_list WindowTarget n n (length us - 7) (window n) us ns
newest_as (xor n) us ns = a_list Map 0 255 n (xor (suc n)) us ns

-- the first of the list
abbrev pub newest : List Node → Newest
newest [] = other
newest (n ∷ ns) = newest_as n.form n.values ns

-- a record of kind k joins the newest node's list, if that takes its kind
unfoldable pub joined : Kind → List ℕ → Newest → Step
joined k vs (a_list j least most n f us ns) = pick (eqb (kind_number k) (kind_number j)) (changes [] (leb most n) (node f (us ++ vs)) ns) stray
joined k vs (a_matrix i t us ns) = stray
joined k vs other = stray

-- of an I by T matrix: tests of the indices, the field to set, and its number
unfoldable pub setting : (ℕ → ℕ → List Bool) → (ℕ → ℕ → ℕ) → ℕ → Newest → Step
setting tests field v (a_list j least most n f us ns) = stray
setting tests field v (a_matrix i t us ns) = changes (tests i t) false (node (matrix i t) (set us (field i t) v)) ns
setting tests field v other = stray

-- a matrix has 4 fields, then I values, T values, and I times T cells
unfoldable pub unset : ℕ → ℕ → List ℕ → List ℕ
unset i t vs = take 4 vs ++ (replicate (i + t) 0 ++ replicate (i * t) 65535)

-- what a record of each kind does; vs: its fields
unfoldable pub step : Kind → List ℕ → List Node → Step
step Processor vs ns = makes [] (node (processor 0) vs) ns
step Resource vs ns = joined Resource vs (newest ns)
step Cache vs ns = makes (ranges cache vs) (node cache vs) ns
step Memory vs ns = makes (ranges memory vs) (node memory vs) ns
step Acpi vs ns = makes (ranges acpi vs) (node acpi vs) ns
step Pci vs ns = makes (ranges pci vs) (node pci vs) ns
step Rintc vs ns = makes (ranges rintc vs) (node rintc vs) ns
step Domain vs ns = makes [] (node domain vs) ns
step (Matrix w) vs ns =
    let i : ℕ = at vs 4 in
    let t : ℕ = at vs 5 in
    makes (ranges (matrix i t) vs) (node (matrix i t) (unset i t vs)) ns
step (Initiator w) vs ns = setting (λ i t. ltb (at vs 0) i ∷ []) (λ i t. 4 + at vs 0) (at vs 1) (newest ns)
step (Target w) vs ns = setting (λ i t. ltb (at vs 0) t ∷ []) (λ i t. 4 + i + at vs 0) (at vs 1) (newest ns)
step (Cell w) vs ns = setting (λ i t. ltb (at vs 0) i ∷ ltb (at vs 1) t ∷ []) (λ i t. 4 + i + t + at vs 0 * t + at vs 1) (at vs 2) (newest ns)
step Side vs ns = makes (ranges (side 0) vs) (node (side 0) vs) ns
step Handle vs ns = joined Handle vs (newest ns)
step Bridge vs ns =
    let n : ℕ = registers (at vs 1) in
    makes (ranges (bridge n) vs) (node (bridge n) vs) ns
step Window vs ns =
    let n : ℕ = ways (at vs 2) in
    makes (ranges (window n) vs) (node (window n) vs) ns
step WindowTarget vs ns = joined WindowTarget vs (newest ns)
step Xor vs ns = makes (ranges (xor 0) vs) (node (xor 0) vs) ns
step Map vs ns = joined Map vs (newest ns)

-- the nodes with one record more
abbrev pub added : Kind → List ℕ → List Node → List Node
added k vs ns = (step k vs ns).nodes

-- what is refused of a record, in the order of the list; w: how wide the newest matrix's counts are written
unfoldable pub fault : Table → Width → List Node → Kind → List ℕ → ℕ
fault t w ns k vs =
    let s : Step = step k vs ns in
    first_of ((not (both s.placed (suits (part_in k) w)), 4)
    ∷ (not (all s.ranges), 5)
    ∷ (not (refs_good (is_ordinal (length s.earlier)) (body k) vs), 6)
    ∷ (not (refs_good (at_ordinal (starts t s.earlier)) (body k) vs), 10)
    ∷ (s.full, 7)
    ∷ (ltb limit (front t + sizes s.nodes), 8) ∷ [])

-- where fault n of a record is, counted from its kind byte: of a bad field its first byte, of every other the kind byte; tests: those of its fields
unfoldable pub fault_at : ℕ → Kind → List Bool → ℕ
fault_at n k tests = pick (eqb n 5) (bad_in k tests) 0

-- ---- the whole recipe

-- what a recipe says, and a table too
pub record Meaning : Type 0 where
  pub head : Head
  pub nodes : List Node

-- the meaning of a head and nodes
abbrev pub means : Head → List Node → Meaning
means h ns = record { head = h; nodes = ns }

-- the place of the newest node's record: p where one more node is there, else q as before
abbrev pub since : List Node → List Node → ℕ → ℕ → ℕ
since ns more p q = pick (eqb (length more) (length ns)) q p

-- 11 where the newest node's list lacks a record, and what comes is none of its kind; o: the kind that comes, if any
unfoldable pub lacking : Newest → Option Kind → ℕ
lacking (a_list j least most n f us ns) o = pick (both (ltb n least) (not (is_kind j o))) 11 0
lacking (a_matrix i t us ns) o = 0
lacking other o = 0

-- q: the place of the newest node's record; w: how wide the newest matrix's counts are written
unfoldable pub run : Head → ℕ → Width → List Node → Calls → Answer Meaning
run h q w ns done = unless (lacking (newest ns) none) q (given (means h ns))
run h q w ns (bad_kind n p) = unless (lacking (newest ns) none) q (refused n p)
run h q w ns (cut_off p k) = unless (lacking (newest ns) (some k)) q (refused 3 p)
run h q w ns (called p k vs rest) =
    let n : ℕ = fault h.table w ns k vs in
    unless (lacking (newest ns) (some k)) q
    (unless n (p + fault_at n k (step k vs ns).ranges) (run h (since ns (added k vs ns) p q) (width_behind (part_in k) w) (added k vs ns) rest))

-- the table of a head's code
abbrev pub table_of : ℕ → Option Table
table_of c = find (λ t. eqb c (code t)) tables

-- the head is 28 bytes: kind, table, and 26 that go over as they are; its table is its first field, at place 1
unfoldable pub headed : List ℕ → Answer Head
headed r =
    unless (first_of ((not (eqb (at r 0) 1), 1) ∷ (ltb (length r) 28, 3) ∷ [])) 0
    (and_then (or_refused 5 1 (table_of (at r 1))) (λ t. given (head_of t (part r 2 26))))

-- what a recipe means, or refusal 1 to 8, 10 to 12
unfoldable pub meaning : List ℕ → Answer Meaning
meaning r = and_then (headed r) (λ h. run h 0 byte [] (cut h.table 0 28 (drop 28 r)))
