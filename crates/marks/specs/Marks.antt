-- What marks do: how many keys share one, where a walk starts, and which mark is set.
use Rattle.std.specs.Prelude.{◌≡◌, ℕ, zero, suc, ◌+◌, ◌*◌, ◌/◌, ◌%◌, ◌^◌, List, Bool, length, set, eqb, ltb, leb, Option, Some, None}
use Rattle.format.specs.Bytes.{pick, at}
use Rattle.format.specs.Table.{Table, front}
use Rattle.marks.specs.declared.Mark.{Mark}

-- the mark of a table's first record
abbrev pub first_mark : Table → Mark
first_mark t = record { nodes = 0; place = front t }

-- the first shift from k on, of so many, that brings the last key below count; else the last shift
unfoldable pub spread_of : ℕ → ℕ → ℕ → ℕ → ℕ
spread_of zero k key count = k
spread_of (suc left) k key count = pick (ltb (key / 2 ^ k) count) k (spread_of left (suc k) key count)

-- the numbers of a mark in one, and out of it
abbrev pub kept : Mark → ℕ
kept m = m.nodes * 4294967296 + m.place

abbrev pub mark_in : ℕ → Mark
mark_in n = record { nodes = n / 4294967296; place = n % 4294967296 }

-- where a key's mark stands
abbrev pub slot : ℕ → ℕ → ℕ
slot shift key = key / 2 ^ (shift % 64)

-- a mark is kept under a key, unless there is one
unfoldable pub noted : Mark → ℕ → ℕ → List ℕ → List ℕ
noted m shift key ms =
    let i : ℕ = slot shift key in
    pick (leb (length ms) i) ms (pick (eqb (at ms i) 0) (set ms i (kept m)) ms)

-- the mark under a key; past the last one none
unfoldable pub under : List ℕ → ℕ → ℕ → Mark
under ms shift key = mark_in (at ms (slot shift key))

-- a mark, unless its place says that it is none
abbrev pub there : Mark → Option Mark
there m = pick (eqb m.place 0) None (Some m)

-- a mark, unless it is none or past what is looked for: then the first
abbrev pub from_mark : Mark → Mark → Bool → Mark
from_mark first m past = pick (eqb m.place 0) first (pick past first m)

-- from where to walk to node i, and to a place
unfoldable pub toward_node : Mark → ℕ → ℕ → List ℕ → Mark
toward_node first shift i ms = from_mark first (under ms shift i) (ltb i (under ms shift i).nodes)

unfoldable pub toward_place : Mark → ℕ → ℕ → List ℕ → Mark
toward_place first shift v ms = from_mark first (under ms shift v) (ltb v (under ms shift v).place)

-- what holds of each mark that there is
abbrev pub Every : (Mark → Type 0) → List ℕ → Type 0
Every P ms = (i : ℕ) → ((mark_in (at ms i)).place ≡ 0 → ⊥) → P (mark_in (at ms i))
