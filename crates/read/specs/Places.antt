-- A table's records by their places: what a reader judges at one, what it sees there, and where the next one is.
use Rattle.std.specs.Prelude.{◌≡◌, ℕ, zero, suc, ◌+◌, ◌≤◌, List, [], ◌∷◌, Bool, true, length, drop, replicate}
use Rattle.std.proofs.Math.Option.{Option, none, some}
use Rattle.format.specs.Bytes.{pick, Answer, refused, given, and_then, unless, at, value, part}
use Rattle.format.specs.Layout.{to, fields, refs_good}
use Rattle.format.specs.Table.{Table, front}
use Rattle.format.specs.Form.{Width, processor, size, narrowest, layout}
use Rattle.format.specs.Row.{Row, processors, matrices, home, form_in, known, row_of}
use Rattle.format.specs.Read.{signed, own, type_in, framed, record_fault, Seen, seen_as, part_of}
use Rattle.frames.specs.Frames.{refers, record_in}

-- ---- the judgement, in the table's own bytes c

-- the row, where there is one, is of the table
abbrev pub RowOf : Table → Option Row → Type 0
RowOf t o = (r : Row) → o ≡ some r → home r ≡ t

-- the most bytes that the row of processors allows
abbrev pub longest_processor : ℕ
longest_processor = size (processor 58)

-- the bytes have the length and the counts that their row, where there is one, asks for, as far as the node of a record says them
pub record Fits (row : Option Row) (bs : List ℕ) : Type 0 where
  pub short : row ≡ some processors → length bs ≤ longest_processor
  pub counts : (w : Width) → row ≡ some (matrices w) → narrowest (value (part bs 12 4)) (value (part bs 16 4)) ≡ w

-- the n references at the front of bs are good
unfoldable pub linked : (ℕ → ℕ → Bool) → ℕ → List ℕ → Bool
linked ok n bs = refs_good ok (replicate n (to 1)) (fields (replicate n (to 1)) bs)

-- the references of a record are good; an unknown one has none
unfoldable pub refs_in : (ℕ → ℕ → Bool) → Option Row → List ℕ → Bool
refs_in ok none bs = true
refs_in ok (some r) bs = refs_good ok (layout (form_in r bs)) (fields (layout (form_in r bs)) bs)

-- of the record at p: refusal 25 to 27, or the place behind it
unfoldable pub judged_at : Table → List ℕ → ℕ → ℕ → ℕ → Answer ℕ
judged_at t c rev mask p =
    let bs : List ℕ = record_in t (drop p c) in
    pick (framed t (drop p c)) (unless (record_fault (refers t c p) (known mask (row_of t rev (type_in t bs) bs)) bs) p (given (p + length bs))) (refused 25 p)

-- the number of records that a walk gives
abbrev pub counted : Answer (List Seen) → Answer ℕ
counted w = and_then w (λ ss. given (length ss))

-- ---- one record after the other, in any bytes b

-- the bytes of a record at p: those that a table would have there
abbrev pub body_in : Option Table → List ℕ → ℕ → List ℕ
body_in none b p = []
body_in (some t) b p = record_in t (drop p (own b))

-- the same of the table that b is signed as
abbrev pub body_at : List ℕ → ℕ → List ℕ
body_at b p = body_in (signed b) b p

-- what a reader of the mask sees of it
abbrev pub seen_in : Option Table → ℕ → ℕ → ℕ → List ℕ → Seen
seen_in none rev mask p bs = record { place = p; type = 0; row = none; body = bs }
seen_in (some t) rev mask p bs = seen_as t rev mask p bs

-- the same of the table that b is signed as
unfoldable pub seen_at : List ℕ → ℕ → ℕ → Seen
seen_at b mask p = seen_in (signed b) (at b 8) mask p (body_at b p)

-- the list inside it, or the whole of an unknown one
abbrev pub part_at : List ℕ → ℕ → ℕ → List ℕ
part_at b mask p = let s : Seen = seen_at b mask p in part_of s.row s.body

-- the length of header and front; 0 where no table is signed
abbrev pub front_of : Option Table → ℕ
front_of none = 0
front_of (some t) = front t

-- where the first record starts
abbrev pub first_place : List ℕ → ℕ
first_place b = front_of (signed b)

-- the place behind n records from p on
unfoldable pub behind : List ℕ → ℕ → ℕ → ℕ
behind b zero p = p
behind b (suc n) p = behind b n (p + length (body_at b p))

-- n records from p on
unfoldable pub seen_from : List ℕ → ℕ → ℕ → ℕ → List Seen
seen_from b mask zero p = []
seen_from b mask (suc n) p = seen_at b mask p ∷ seen_from b mask n (p + length (body_at b p))
