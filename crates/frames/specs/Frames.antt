-- Frames by their places in a table's own bytes c.
use Rattle.std.specs.Prelude.{◌≡◌, ℕ, suc, ◌≤◌, List, Bool, false, take, drop, eqb, ltb}
use Rattle.format.specs.Bytes.{pick, both}
use Rattle.format.specs.Table.{Table, front}
use Rattle.marks.specs.declared.Mark.{Mark}
use Rattle.format.specs.Read.{type_in, size_in, Frames, ended, bad_frame, framed_at, frames}

-- what stands from p on
abbrev pub ahead : Table → List ℕ → ℕ → Frames
ahead t c p = frames t 0 p (drop p c)

-- the records behind the front
abbrev pub frames_of : Table → List ℕ → Frames
frames_of t c = ahead t c (front t)

-- the number of the record that starts at v, where the first one's is k; 0 where none does
unfoldable pub numbered : ℕ → ℕ → Frames → ℕ
numbered k v ended = 0
numbered k v (bad_frame p) = 0
numbered k v (framed_at p bs rest) = pick (eqb p v) k (numbered (suc k) v rest)

-- the same on the walk from a mark on, which counts the records before it
abbrev pub number_from : Table → List ℕ → ℕ → Mark → ℕ
number_from t c v m = numbered (suc m.nodes) v (ahead t c m.place)

-- the walk from the front has come to a mark: what starts from there on has the number that the walk from the mark on gives it
abbrev pub Passed : Table → List ℕ → Mark → Type 0
Passed t c m = (v : ℕ) → m.place ≤ v → numbered 1 v (frames_of t c) ≡ number_from t c v m

-- the record that starts at v is there, and has type ty
unfoldable pub named : Table → Frames → ℕ → ℕ → Bool
named t ended v ty = false
named t (bad_frame p) v ty = false
named t (framed_at p bs rest) v ty = pick (eqb p v) (eqb (type_in t bs) ty) (named t rest v ty)

-- v is the start of a record before own, of type ty
unfoldable pub refers : Table → List ℕ → ℕ → ℕ → ℕ → Bool
refers t c own v ty = both (ltb v own) (named t (frames_of t c) v ty)

-- the bytes of the record at the front of bs
abbrev pub record_in : Table → List ℕ → List ℕ
record_in t bs = take (size_in t bs) bs
