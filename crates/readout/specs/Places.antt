-- A table's recipe by the places of its records: what stands for a reference, and the calls of one record after the other. c: a table's own bytes.
use Rattle.std.specs.Prelude.{◌≡◌, ℕ, ◌+◌, ◌*◌, ◌-◌, ◌^◌, min, ◌≤◌, List, [], ◌∷◌, ◌++◌, Bool, true, false, length, eqb, ltb}
use Rattle.std.specs.Prelude.{Some, None}
use Rattle.std.specs.Prelude as std
use Rattle.std.proofs.Math.Option.{Option, none, some}
use Rattle.format.specs.Bytes.{pick, Answer, refused, given, and_then, unless_found, at, value, part}
use Rattle.format.specs.Layout.{as_is, lay, fields_with}
use Rattle.format.specs.Table.{Table, limit, revision}
use Rattle.format.specs.Form.{Form, Width, most, layout}
use Rattle.format.specs.Row.{Row, processors, caches, matrices, row_of, form_in, is_retired}
use Rattle.format.specs.Kind.{Initiator, Cell, body}
use Rattle.format.specs.Normal.{call, calls, head_call}
use Rattle.format.specs.Read.{own, type_in, Frames, ended, bad_frame, framed_at}
use Rattle.format.specs.Build.{fitting}
use Rattle.format.specs.Out.{head_in}
use Rattle.frames.specs.Frames.{frames_of, numbered}

-- ---- references

-- the how manieth record starts at v, of those before the one at own; 0 for none
unfoldable pub ordinal_at : Table → List ℕ → ℕ → ℕ → ℕ
ordinal_at t c own v = pick (ltb v own) (numbered 1 v (frames_of t c)) 0

-- ---- records

-- a setting of an initiator or a target: kind, index of width w, number
abbrev pub setting : Width → ℕ → ℕ → ℕ → List ℕ
setting w kind j v = kind ∷ lay (body (Initiator w)) (j ∷ v ∷ [])

-- the number at j, of w bytes, of those from p on; no place is past the last one
abbrev pub nth : ℕ → List ℕ → ℕ → ℕ → ℕ
nth w bs p j = value (part bs (min (p + w * j) (2 ^ 64 - 1)) w)

-- what is said of a setting, and of the cell of row i and column j: nothing where the value is unset
abbrev pub value_calls : Width → ℕ → ℕ → ℕ → List ℕ
value_calls w kind j v = pick (eqb v 0) [] (setting w kind j v)

abbrev pub cell_calls : Width → ℕ → ℕ → ℕ → List ℕ
cell_calls w i j v = pick (eqb v 65535) [] (call (Cell w) (i ∷ j ∷ v ∷ []))

-- the calls of a record's node, each reference read by g
unfoldable pub calls_in : (ℕ → ℕ) → Form → List ℕ → List ℕ
calls_in g f bs = calls f (fields_with g (layout f) bs)

-- of an unknown record none
abbrev pub calls_as : (ℕ → ℕ) → Option Row → List ℕ → List ℕ
calls_as g none bs = []
calls_as g (some r) bs = calls_in g (form_in r bs) bs

-- a row is there
abbrev pub is_row : Option Row → Bool
is_row none = false
is_row (some r) = true

-- the calls of all records up to the first unknown one; g: how a reference in the record at a place is read
unfoldable pub calls_from : Table → ℕ → (ℕ → ℕ → ℕ) → Frames → List ℕ
calls_from t rev g ended = []
calls_from t rev g (bad_frame p) = []
calls_from t rev g (framed_at p bs rest) =
    let row : Option Row = row_of t rev (type_in t bs) bs in
    pick (is_row row) (calls_as (g p) row bs ++ calls_from t rev g rest) []

-- the number a, unless a record is unknown: then refusal 29 at the first one's place
unfoldable pub unless_unknown : {A : Type 0} → Table → ℕ → A → Frames → Answer A
unless_unknown t rev a ended = given a
unless_unknown t rev a (bad_frame p) = given a
unless_unknown t rev a (framed_at p bs rest) = pick (is_row (row_of t rev (type_in t bs) bs)) (unless_unknown t rev a rest) (refused 29 p)

-- the place of the first record of a retired row
unfoldable pub first_old : Table → ℕ → Frames → Option ℕ
first_old t rev ended = none
first_old t rev (bad_frame p) = none
first_old t rev (framed_at p bs rest) = pick (is_retired (row_of t rev (type_in t bs) bs)) (some p) (first_old t rev rest)

-- a place as the walk keeps it
abbrev pub noted : std.Option ℕ → Option ℕ
noted None = none
noted (Some p) = some p

-- the first place so far, or else the one that comes
abbrev pub or_else : Option ℕ → Option ℕ → Option ℕ
or_else none q = q
or_else (some p) q = some p

-- no more bytes than a table has, of a processor and a cache the bytes of its fields, and of a matrix no more initiators and targets than the most
pub record Small (row : Option Row) (bs : List ℕ) : Type 0 where
  pub short : length bs ≤ limit
  pub headed : row ≡ some processors → 20 ≤ length bs
  pub whole : row ≡ some caches → length bs ≡ 28
  pub initiators : (w : Width) → row ≡ some (matrices w) → value (part bs 12 4) ≤ most
  pub targets : (w : Width) → row ≡ some (matrices w) → value (part bs 16 4) ≤ most

-- ---- the whole table b

-- the calls of its records
unfoldable pub calls_at : Table → ℕ → List ℕ → List ℕ
calls_at t rev c = calls_from t rev (ordinal_at t c) (frames_of t c)

-- the length of its recipe, or refusal 29, or 32
unfoldable pub measured : Table → ℕ → List ℕ → Answer ℕ
measured t rev c =
    and_then (unless_unknown t rev (28 + length (calls_at t rev c)) (frames_of t c))
    (λ n. unless_found 32 as_is (first_old t rev (frames_of t c)) (given n))

-- its recipe
unfoldable pub recipe_as : Table → List ℕ → List ℕ
recipe_as t b = head_call (head_in t b) ++ calls_at t (at b 8) (own b)

-- refusal 29 to 32, or the length of the recipe
unfoldable pub out_as : Table → List ℕ → ℕ → Answer ℕ
out_as t b room = pick (eqb (at b 8) (revision t)) (and_then (measured t (at b 8) (own b)) (fitting 31 room)) (refused 30 8)
