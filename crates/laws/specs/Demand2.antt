-- Demand 2: building and reading out undo each other, and a built table lies as the layouts say.
use Rattle.std.specs.Prelude.{◌≡◌, ℕ, ◌+◌, ◌-◌, ◌%◌, ◌≤◌, ◌<◌, List, ◌∷◌, ◌++◌, false, length, take}
use Rattle.std.proofs.Math.Option.{some}
use Rattle.format.specs.Bytes.{refused, given, at, part, over, sum}
use Rattle.format.specs.Layout.{lay, lay_with}
use Rattle.format.specs.Table.{code, sign, revision, tail, told, front}
use Rattle.format.specs.Form.{size, layout}
use Rattle.format.specs.Row.{is_retired}
use Rattle.format.specs.Node.{Node, sizes, starts, place_of}
use Rattle.format.specs.Recipe.{Meaning}
use Rattle.format.specs.Build.{fitting, build, table, built}
use Rattle.format.specs.Normal.{normal}
use Rattle.format.specs.Read.{length_in, own}
use Rattle.format.specs.Out.{read_out, recipe, out_written}
use Rattle.laws.specs.Demand3.{row_for}

-- of a recipe that builds a table of n bytes
pub record Built (r : List ℕ) (n : ℕ) : Type 0 where
  pub long : length (table r) ≡ n
  pub summed : sum (table r) % 256 ≡ 0
  -- the table reads out as the normal form, wherever there is room for that
  pub out : recipe (table r) ≡ normal r
  pub room : (k : ℕ) → read_out (table r) k ≡ fitting 31 k (length (normal r))
  -- the normal form builds the same table, and is its own normal form
  pub again : (k : ℕ) → build (normal r) k ≡ build r k
  pub same : table (normal r) ≡ table r
  pub settled : normal (normal r) ≡ normal r

-- of a table that reads out
pub record Rebuilt (b : List ℕ) : Type 0 where
  -- its recipe builds it again, byte for byte, wherever there is room for it
  pub same : table (recipe b) ≡ own b
  pub room : (k : ℕ) → build (recipe b) k ≡ fitting 9 k (length_in b)
  -- its recipe is its own normal form
  pub settled : normal (recipe b) ≡ recipe b

-- ---- one call behind the other

-- building recipe r into out answered n, and its first n bytes are read out into buffer
pub record ThereAndBack (r out buffer : List ℕ) (n : ℕ) : Type 0 where
  -- what is lent to reading out is the recipe's table
  pub lent : take n (built r out) ≡ table r
  -- with room: the length of the normal form, which then stands at the front of buffer, and the rest of buffer is kept
  pub room : length (normal r) ≤ length buffer
      → (read_out (take n (built r out)) (length buffer) ≡ given (length (normal r))) × (out_written (take n (built r out)) buffer ≡ over buffer 0 (normal r))
  -- without: refusal 31 with the length needed, and buffer is as it was
  pub no_room : length buffer < length (normal r)
      → (read_out (take n (built r out)) (length buffer) ≡ refused 31 (length (normal r))) × (out_written (take n (built r out)) buffer ≡ buffer)

-- reading out table b into buffer answered n, and its first n bytes are built into out
pub record BackAndThere (b out buffer : List ℕ) (n : ℕ) : Type 0 where
  -- what is lent to building is the table's recipe
  pub lent : take n (out_written b buffer) ≡ recipe b
  -- with room: the length of the table's own bytes, which then stand at the front of out, and the rest of out is kept
  pub room : length (own b) ≤ length out
      → (build (take n (out_written b buffer)) (length out) ≡ given (length (own b))) × (built (take n (out_written b buffer)) out ≡ over out 0 (own b))
  -- without: refusal 9 with the length needed, and out is as it was
  pub no_room : length out < length (own b)
      → (build (take n (out_written b buffer)) (length out) ≡ refused 9 (length (own b))) × (built (take n (out_written b buffer)) out ≡ out)
  -- this length is the one that the table's header holds
  pub long : length (own b) ≡ length_in b

-- ---- what stands where

-- of a recipe that means m, whose nodes are listed newest first: what stands where in its table
pub record Lies (r : List ℕ) (m : Meaning) : Type 0 where
  -- the head names the table
  pub named : at r 1 ≡ code m.head.table
  pub signature : take 4 (table r) ≡ sign m.head.table
  -- the length field is the length, so that all of it is the table
  pub long : length_in (table r) ≡ length (table r)
  pub whole : own (table r) ≡ table r
  pub revised : at (table r) 8 ≡ revision m.head.table
  -- the head's other fields go over as they are
  pub identity : part (table r) 10 26 ≡ part r 2 26
  pub behind : part (table r) 36 (front m.head.table - 36) ≡ lay (tail m.head.table) (told m.head.table (length m.nodes))
  -- each node's record stands behind those of the nodes before it, as its layout says, references as places; then the table ends
  pub nodes : (later before : List Node) (n : Node) → m.nodes ≡ later ++ (n ∷ before)
      → part (table r) (front m.head.table + sizes before) (size n.form) ≡ lay_with (place_of (starts m.head.table before)) (layout n.form) n.values
  pub ends : length (table r) ≡ front m.head.table + sizes m.nodes
  -- none is of a retired row: a record of one is read and shown, but no recipe means it
  pub current : (later before : List Node) (n : Node) → m.nodes ≡ later ++ (n ∷ before) → is_retired (some (row_for n.form)) ≡ false
