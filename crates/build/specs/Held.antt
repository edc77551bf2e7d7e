-- What the buffer and the numbers of the pass hold between two records: the table of the nodes so far, before its length and its checksum are written.
use Rattle.std.specs.Prelude.{◌≡◌, ℕ, ◌+◌, ◌-◌, ◌%◌, ◌≤◌, List, ◌++◌, length, drop, eqb, Option, Some, None}
use Rattle.format.specs.Bytes.{Bytes, pick, part, over, sum, given}
use Rattle.format.specs.Table.{Table, pptt, Head, head_of, front, limit}
use Rattle.format.specs.Form.{Width}
use Rattle.format.specs.Node.{Node, sizes}
use Rattle.format.specs.Recipe.{Meaning, Newest, a_list, a_matrix, other, newest, cut, run, meaning}
use Rattle.format.specs.Build.{records, header}
use Rattle.laws.proofs.Grows.{Grown}
use Rattle.writes.specs.declared.Latest.{Latest}
use Rattle.marks.specs.declared.Mark.{Mark}
use Rattle.marks.specs.Marks.{noted, Every}
use Rattle.recipe.specs.declared.Reference.{Reference}
use Rattle.recipe.specs.declared.Reference.TheVariants as names
use Rattle.writes.specs.declared.Found.{Found}
use Rattle.writes.specs.declared.State.{State}
use Rattle.build.specs.Write.{hops, place_in}

-- the head of a recipe for a table
abbrev pub head_in : Table → List ℕ → Head
head_in t r = head_of t (part r 2 26)

-- the front of a table of n bytes, without its checksum
abbrev pub front_of : Table → List ℕ → ℕ → List ℕ
front_of t r n = header (head_in t r) 0 n 0

-- the counts of the newest record, if another can join it
abbrev pub Counts : Newest → Latest → Type 0
Counts (a_list k least most n f us ns) l = l.count ≡ n
Counts (a_matrix i t us ns) l = (l.initiators ≡ i) × (l.targets ≡ t)
Counts other l = Unit

-- ---- places of records

-- where record i stands, counted from 0, behind the records es of a table, the newest first
abbrev pub place_after : Table → List Node → ℕ → ℕ
place_after t es i = front t + sizes (drop (length es - i) es)

-- a mark is at one of them, or at their end
abbrev pub Marked : Table → List Node → Mark → Type 0
Marked t es m = (m.nodes ≤ length es) × (m.place ≡ place_after t es m.nodes)

-- hops lead to a mark of a PPTT
abbrev pub Leads : List ℕ → Mark → Type 0
Leads bs m = (m.place ≤ limit) × (hops bs m.nodes 36 ≡ m.place)

-- what was found is the place of the record that a reference names, or 0
abbrev pub Placed : List ℕ → Option Reference → Found → Type 0
Placed bs (Some (names.Processor h)) f = f.processor.0 ≡ place_in bs h.0
Placed bs (Some (names.Cache h)) f = f.cache.0 ≡ place_in bs h.0
Placed bs None f = Unit

-- hops lead to every record
abbrev pub Reaches : List ℕ → List Node → Type 0
Reaches bs es = (i : ℕ) → i ≤ length es → hops bs i 36 ≡ place_after pptt es i

-- the marks with one at the newest record, if there is one
unfoldable pub kept_with : Latest → ℕ → List ℕ → List ℕ
kept_with l shift ms = pick (eqb l.nodes 0) ms (noted (record { nodes = l.nodes - 1; place = l.place }) shift (l.nodes - 1) ms)

-- ---- the pass

-- xs: the buffer at the start; m: what the recipe r means; ms: the marks
pub record Held (xs r : List ℕ) (t : Table) (m : Meaning) (s : State) (out ms : List ℕ) : Type 0 where
  pub bytes : Bytes r
  pub whole : 28 ≤ length r
  pub space : front t + sizes m.nodes ≤ length xs
  pub nodes : List Node
  pub good : Grown t nodes
  pub short : front t + sizes nodes ≤ limit
  pub since : ℕ
  -- how wide the newest matrix's counts are written
  pub width : Width
  pub leads : run (head_in t r) since width nodes (cut t 0 s.at (drop s.at r)) ≡ given m
  pub ends : s.end ≡ front t + sizes nodes
  pub place : s.latest.place ≡ front t + sizes (drop 1 nodes)
  pub counts : Counts (newest nodes) s.latest
  pub few : s.latest.count ≤ 65535
  pub held : out ≡ over xs 0 (front_of t r (front t) ++ records t nodes)
  pub counted : s.latest.nodes ≡ length nodes
  pub marked : Every (Marked t (drop 1 nodes)) ms
  pub sums : s.sum.value ≡ sum (front_of t r s.end ++ records t nodes) % 256

-- the same of some buffer and some meaning: what a step relies on
pub record Ready (r : List ℕ) (t : Table) (s : State) (out ms : List ℕ) : Type 0 where
  pub start : List ℕ
  pub meant : Meaning
  pub holds : Held start r t meant s out ms

-- what a step gives: it goes on to the same meaning, and the marks are as good as before
abbrev pub Goes : List ℕ → Table → State → List ℕ → State → List ℕ → Type 0
Goes r t s out s' out' = (xs : List ℕ) (m : Meaning) (ms : List ℕ) → Held xs r t m s out ms → Held xs r t m s' out' ms

-- what all steps give, whose marks are no longer asked for
abbrev pub Ends : List ℕ → Table → State → List ℕ → List ℕ → State → List ℕ → Type 0
Ends r t s out ms s' out' = (xs : List ℕ) (m : Meaning) → Held xs r t m s out ms → (ms' : List ℕ) × Held xs r t m s' out' ms'

-- a recipe for the table builds, and n bytes are room enough
pub record Builds (r : List ℕ) (t : Table) (n : ℕ) : Type 0 where
  pub meant : Meaning
  pub means : meaning r ≡ given meant
  pub for : meant.head.table ≡ t
  pub room : front t + sizes meant.nodes ≤ n
