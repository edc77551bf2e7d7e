-- The tables: their headers, fronts and framings.
use Rattle.std.specs.Prelude.{ℕ, ◌+◌, List, [], ◌∷◌}
use Rattle.format.specs.Layout.{Item, fix}

-- the tables that are built and read
pub data Table : Type 0 where
  pptt srat hmat cedt : Table

-- all of them
abbrev pub tables : List Table
tables = pptt ∷ srat ∷ hmat ∷ cedt ∷ []

-- the table's number in a head
abbrev pub code : Table → ℕ
code pptt = 0
code srat = 1
code hmat = 2
code cedt = 3

-- "PPTT", "SRAT", "HMAT", "CEDT"
abbrev pub sign : Table → List ℕ
sign pptt = 80 ∷ 80 ∷ 84 ∷ 84 ∷ []
sign srat = 83 ∷ 82 ∷ 65 ∷ 84 ∷ []
sign hmat = 72 ∷ 77 ∷ 65 ∷ 84 ∷ []
sign cedt = 67 ∷ 69 ∷ 68 ∷ 84 ∷ []

-- the revision that is built, and that the rows are of
abbrev pub revision : Table → ℕ
revision pptt = 3
revision srat = 3
revision hmat = 1
revision cedt = 1

-- what follows the header of 36 bytes: SRAT a 4-byte 1 and eight zeros, HMAT four zeros
abbrev pub tail : Table → List Item
tail pptt = []
tail srat = fix 4 1 ∷ fix 8 0 ∷ []
tail hmat = fix 4 0 ∷ []
tail cedt = []

-- the fields there, of a table of n records: none of these has any
abbrev pub told : Table → ℕ → List ℕ
told pptt n = []
told srat n = []
told hmat n = []
told cedt n = []

-- the length of header and front: 36, 48, 40, 36
abbrev pub front : Table → ℕ
front pptt = 36
front srat = 48
front hmat = 40
front cedt = 36

-- a table is never longer than this
abbrev pub limit : ℕ
limit = 67108864

-- what a head says: the table, its revision, and the 26 bytes of its other fields
pub record Head : Type 0 where
  pub table : Table
  pub revision : ℕ
  pub identity : List ℕ

-- the head of kind 1: the revision is the table's own
abbrev pub head_of : Table → List ℕ → Head
head_of t is = record { table = t; revision = revision t; identity = is }

-- framing: how wide type, reserved and length are
pub record Frame : Type 0 where
  pub type : ℕ
  pub reserved : ℕ
  pub length : ℕ

-- PPTT and SRAT: type 1, length 1; HMAT: type 2, reserved 2, length 4; CEDT: type 1, reserved 1, length 2
abbrev pub frame : Table → Frame
frame pptt = record { type = 1; reserved = 0; length = 1 }
frame srat = record { type = 1; reserved = 0; length = 1 }
frame hmat = record { type = 2; reserved = 2; length = 4 }
frame cedt = record { type = 1; reserved = 1; length = 2 }

-- the shortest record: its frame alone
abbrev pub least : Table → ℕ
least t = (frame t).type + (frame t).reserved + (frame t).length
