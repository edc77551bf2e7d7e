-- Demand 1 for reading and reading out: when each answer is given, and at which place, as document 01's table has it.
use Rattle.std.specs.Prelude.{◌≡◌, ◌↔◌, ◌⊎◌, ℕ, ◌+◌, ◌%◌, ◌≤◌, ◌<◌, List, [], ◌∷◌, ◌++◌, true, length, take, drop}
use Rattle.std.proofs.Math.Option.{Option, none, some}
use Rattle.format.specs.Bytes.{Answer, refused, given, at, part, sum}
use Rattle.format.specs.Layout.{fields}
use Rattle.format.specs.Table.{Table, sign, revision, tail, front, limit, least}
use Rattle.format.specs.Form.{Form, layout}
use Rattle.format.specs.Row.{Row, old_rintcs, form_in, knows}
use Rattle.format.specs.Node.{Entry, entry}
use Rattle.format.specs.Read.{length_in, own, type_in, size_in, Seen, accept, Reading, reading, fields_of, part_of, read, read_part}
use Rattle.format.specs.Out.{every, read_out, recipe}
use Rattle.laws.specs.Words.{FirstOf, NoneOf, Every, Among, Rules, Fixed, References}
use Rattle.laws.specs.Demand3.{Fits}

-- ---- the header

-- the first four bytes spell the table's name
abbrev pub Signed : Table → List ℕ → Type 0
Signed t b = take 4 b ≡ sign t

-- the length field: not below the front, nor over the lent bytes, nor over 1,048,576
abbrev pub Long : Table → List ℕ → Type 0
Long t b = Every ((front t ≤ length_in b) ∷ (length_in b ≤ length b) ∷ (length_in b ≤ limit) ∷ [])

abbrev pub header_faults : List ℕ → List (ℕ × Type 0)
header_faults b =
    (20, length b < 36)
    ∷ (21, (t : Table) → Signed t b → ⊥)
    ∷ (22, (t : Table) × Signed t b × (Long t b → ⊥))
    ∷ (23, sum (own b) % 256 ≡ 0 → ⊥)
    ∷ (24, (t : Table) × Signed t b × (Fixed (tail t) b 36 → ⊥)) ∷ []

-- ---- one record

-- the length in the frame at p, and the record's bytes
abbrev pub size_at : Table → List ℕ → ℕ → ℕ
size_at t b p = size_in t (drop p (own b))

abbrev pub body_at : Table → List ℕ → ℕ → List ℕ
body_at t b p = part (own b) p (size_at t b p)

-- the rest is long enough for a frame, whose length is not below the minimum, nor past the end
abbrev pub Framed : Table → List ℕ → ℕ → Type 0
Framed t b p = Every ((p + least t ≤ length_in b) ∷ (least t ≤ size_at t b p) ∷ (p + size_at t b p ≤ length_in b) ∷ [])

-- a row that matches the record, and that the mask has
abbrev pub Known : Table → ℕ → ℕ → List ℕ → Row → Type 0
Known t rev mask bs r = Fits t rev (type_in t bs) bs r × (knows mask r ≡ true)

-- zeros, fixed values and inner counts, ranges and bit rules are as a form has them
abbrev pub Sound : Form → List ℕ → Type 0
Sound f bs = Fixed (layout f) bs 0 × Every (Rules f (fields (layout f) bs))

-- one of the earlier records starts at v, and has the type ty
abbrev pub Starts : List Entry → ℕ → ℕ → Type 0
Starts es v ty = Among (λ e before. (e.offset ≡ v) × (e.type ≡ ty)) es

-- of a framed record of the bytes bs, behind records with the entries es
abbrev pub body_faults : Table → ℕ → ℕ → List Entry → List ℕ → List (ℕ × Type 0)
body_faults t rev mask es bs =
    (26, (r : Row) × Known t rev mask bs r × (Sound (form_in r bs) bs → ⊥))
    ∷ (27, (r : Row) × Known t rev mask bs r × (References (Starts es) (layout (form_in r bs)) (fields (layout (form_in r bs)) bs) → ⊥)) ∷ []

-- of the record at p
abbrev pub record_faults : Table → List ℕ → ℕ → List Entry → ℕ → List (ℕ × Type 0)
record_faults t b mask es p = (25, Framed t b p → ⊥) ∷ body_faults t (at b 8) mask es (body_at t b p)

-- ---- the records, one after the other

-- all records of b between the front and place p are without fault; es: their entries, the newest first
pub data Passes (t : Table) (b : List ℕ) (mask : ℕ) : List Entry → ℕ → Type 0 where
  start : Passes t b mask [] (front t)
  next : {es : List Entry} {p : ℕ} → Passes t b mask es p → p < length_in b → NoneOf (record_faults t b mask es p)
      → Passes t b mask (entry p (type_in t (body_at t b p)) (size_at t b p) ∷ es) (p + size_at t b p)

-- a table t whose header has no fault
abbrev pub Headed : Table → List ℕ → Type 0
Headed t b = Signed t b × NoneOf (header_faults b)

-- a table none of whose records has a fault; es: their entries
pub record Accepts (t : Table) (b : List ℕ) (mask : ℕ) (es : List Entry) : Type 0 where
  pub head : Headed t b
  pub passed : Passes t b mask es (length_in b)

-- ---- each number

-- 20 to 24
abbrev pub AtHeader : ℕ → List ℕ → ℕ → Type 0
AtHeader n b p = FirstOf n (header_faults b) × (p ≡ 0)

-- 25 to 27
abbrev pub AtRecord : ℕ → List ℕ → ℕ → ℕ → Type 0
AtRecord n b mask p = (t : Table) × (es : List Entry) × Headed t b × Passes t b mask es p × (p < length_in b) × FirstOf n (record_faults t b mask es p)

-- 28: there are no more than k records, and their number is the place
abbrev pub NoRecord : List ℕ → ℕ → ℕ → ℕ → Type 0
NoRecord b mask k p = (t : Table) × (es : List Entry) × Accepts t b mask es × (length es ≤ k) × (p ≡ length es)

-- a table is accepted if none of 20 to 27 is given
pub record ExactlyAccept (b : List ℕ) (mask : ℕ) : Type 0 where
  pub faulty : (n p : ℕ) → (accept b mask ≡ refused n p) ↔ (AtHeader n b p ⊎ AtRecord n b mask p)
  pub accepted : ((ss : List Seen) × (accept b mask ≡ given ss)) ↔ ((t : Table) × (es : List Entry) × Accepts t b mask es)

-- the row of an answer: the known one that matches, or none where there is none
abbrev pub RowIs : Table → ℕ → ℕ → List ℕ → Option Row → Type 0
RowIs t rev mask bs none = (r : Row) → Known t rev mask bs r → ⊥
RowIs t rev mask bs (some r) = Known t rev mask bs r

-- record k, counted from 0 from the oldest
pub record Answers (b : List ℕ) (mask k : ℕ) (a : Reading) : Type 0 where
  pub table : Table
  pub later : List Entry
  pub one : Entry
  pub before : List Entry
  pub accepted : Accepts table b mask (later ++ (one ∷ before))
  pub number : length before ≡ k
  pub row : Option Row
  pub known : RowIs table (at b 8) mask (part b one.offset one.length) row
  pub shown : a ≡ reading (length (later ++ (one ∷ before))) one.type one.offset one.length row (fields_of row (part b one.offset one.length))

pub record ExactlyRead (b : List ℕ) (mask k : ℕ) : Type 0 where
  pub short : (p : ℕ) → (read b mask k ≡ refused 20 p) ↔ AtHeader 20 b p
  pub bad_sign : (p : ℕ) → (read b mask k ≡ refused 21 p) ↔ AtHeader 21 b p
  pub bad_length : (p : ℕ) → (read b mask k ≡ refused 22 p) ↔ AtHeader 22 b p
  pub bad_sum : (p : ℕ) → (read b mask k ≡ refused 23 p) ↔ AtHeader 23 b p
  pub bad_front : (p : ℕ) → (read b mask k ≡ refused 24 p) ↔ AtHeader 24 b p
  pub bad_frame : (p : ℕ) → (read b mask k ≡ refused 25 p) ↔ AtRecord 25 b mask p
  pub bad_record : (p : ℕ) → (read b mask k ≡ refused 26 p) ↔ AtRecord 26 b mask p
  pub bad_ref : (p : ℕ) → (read b mask k ≡ refused 27 p) ↔ AtRecord 27 b mask p
  pub no_record : (p : ℕ) → (read b mask k ≡ refused 28 p) ↔ NoRecord b mask k p
  pub answer : (a : Reading) → (read b mask k ≡ given a) ↔ Answers b mask k a
  -- the part of the lent table that comes back beside an answer: the record's list, and of an unknown record all of it; beside a refusal nothing
  pub list : (a : Reading) (w : Answers b mask k a) → read_part b mask k ≡ part_of w.row (part b w.one.offset w.one.length)
  pub empty : (n p : ℕ) → read b mask k ≡ refused n p → read_part b mask k ≡ []

-- what has to hold for an answer
abbrev pub EarnedRead : List ℕ → ℕ → ℕ → Answer Reading → Type 0
EarnedRead b mask k (refused n p) = AtHeader n b p ⊎ (AtRecord n b mask p ⊎ ((n ≡ 28) × NoRecord b mask k p))
EarnedRead b mask k (given a) = Answers b mask k a

-- it holds for the answer of a reading call, and for no other
pub record OneRead (b : List ℕ) (mask k : ℕ) : Type 0 where
  pub earned : EarnedRead b mask k (read b mask k)
  pub only : (a : Answer Reading) → EarnedRead b mask k a → read b mask k ≡ a

-- ---- reading out: every row is known

-- no row matches the record
abbrev pub Unmatched : Table → List ℕ → Entry → Type 0
Unmatched t b e = (r : Row) → Fits t (at b 8) e.type (part b e.offset e.length) r → ⊥

-- the record is of row 4, which is retired
abbrev pub Outdated : Table → List ℕ → Entry → Type 0
Outdated t b e = Fits t (at b 8) e.type (part b e.offset e.length) old_rintcs

-- one of the records is so
abbrev pub AnyOf : (Entry → Type 0) → List Entry → Type 0
AnyOf P es = Among (λ e before. P e) es

-- the first that is so is at p
abbrev pub FirstAt : (Entry → Type 0) → ℕ → List Entry → Type 0
FirstAt P p es = Among (λ e before. (e.offset ≡ p) × P e × (AnyOf P before → ⊥)) es

-- 30: the revision is not that of the front
abbrev pub OtherRevision : List ℕ → ℕ → Type 0
OtherRevision b p = (t : Table) × (es : List Entry) × Accepts t b every es × (at b 8 ≡ revision t → ⊥) × (p ≡ 8)

-- 29: the first record that no row matches is at p
abbrev pub Unknown : List ℕ → ℕ → Type 0
Unknown b p = (t : Table) × (es : List Entry) × Accepts t b every es × (at b 8 ≡ revision t) × FirstAt (Unmatched t b) p es

-- 32: a row matches every record, and the first that is of a retired one is at p
abbrev pub Retired : List ℕ → ℕ → Type 0
Retired b p =
    (t : Table) × (es : List Entry) × Accepts t b every es × (at b 8 ≡ revision t) × (AnyOf (Unmatched t b) es → ⊥) × FirstAt (Outdated t b) p es

-- a row that is not retired matches every record
abbrev pub Matched : List ℕ → Type 0
Matched b =
    (t : Table) × (es : List Entry) × Accepts t b every es × (at b 8 ≡ revision t) × (AnyOf (Unmatched t b) es → ⊥) × (AnyOf (Outdated t b) es → ⊥)

-- 31: the recipe is longer than the room, and that is the place
abbrev pub NoRoom : List ℕ → ℕ → ℕ → Type 0
NoRoom b room p = Matched b × (room < length (recipe b)) × (p ≡ length (recipe b))

-- the length n of the recipe, which fits the room
abbrev pub Outs : List ℕ → ℕ → ℕ → Type 0
Outs b room n = Matched b × (length (recipe b) ≤ room) × (n ≡ length (recipe b))

pub record ExactlyOut (b : List ℕ) (room : ℕ) : Type 0 where
  pub short : (p : ℕ) → (read_out b room ≡ refused 20 p) ↔ AtHeader 20 b p
  pub bad_sign : (p : ℕ) → (read_out b room ≡ refused 21 p) ↔ AtHeader 21 b p
  pub bad_length : (p : ℕ) → (read_out b room ≡ refused 22 p) ↔ AtHeader 22 b p
  pub bad_sum : (p : ℕ) → (read_out b room ≡ refused 23 p) ↔ AtHeader 23 b p
  pub bad_front : (p : ℕ) → (read_out b room ≡ refused 24 p) ↔ AtHeader 24 b p
  pub bad_frame : (p : ℕ) → (read_out b room ≡ refused 25 p) ↔ AtRecord 25 b every p
  pub bad_record : (p : ℕ) → (read_out b room ≡ refused 26 p) ↔ AtRecord 26 b every p
  pub bad_ref : (p : ℕ) → (read_out b room ≡ refused 27 p) ↔ AtRecord 27 b every p
  pub other_revision : (p : ℕ) → (read_out b room ≡ refused 30 p) ↔ OtherRevision b p
  pub unknown : (p : ℕ) → (read_out b room ≡ refused 29 p) ↔ Unknown b p
  pub retired : (p : ℕ) → (read_out b room ≡ refused 32 p) ↔ Retired b p
  pub no_room : (p : ℕ) → (read_out b room ≡ refused 31 p) ↔ NoRoom b room p
  pub out : (n : ℕ) → (read_out b room ≡ given n) ↔ Outs b room n

-- what has to hold for an answer
abbrev pub EarnedOut : List ℕ → ℕ → Answer ℕ → Type 0
EarnedOut b room (refused n p) =
    AtHeader n b p ⊎ (AtRecord n b every p ⊎ (((n ≡ 30) × OtherRevision b p) ⊎ (((n ≡ 29) × Unknown b p) ⊎ (((n ≡ 32) × Retired b p) ⊎ ((n ≡ 31) × NoRoom b room p)))))
EarnedOut b room (given n) = Outs b room n

-- it holds for the answer of reading out, and for no other
pub record OneOut (b : List ℕ) (room : ℕ) : Type 0 where
  pub earned : EarnedOut b room (read_out b room)
  pub only : (a : Answer ℕ) → EarnedOut b room a → read_out b room ≡ a
