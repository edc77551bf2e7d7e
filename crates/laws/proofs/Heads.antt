-- The header of a built table is the one that a reader asks for; so a built table is read out as its nodes.
use mathlib.Core.Path.{◌≡◌, refl, ap}
use Prim.Native.Nat.{ℕ, ◌+◌, ◌%◌, ◌^◌, ◌≤◌, ◌<◌}
use mathlib.Core.List.{List, [], ◌∷◌, ◌++◌, append_assoc}
use mathlib.Core.Bool.{true}
use mathlib.Core.Option.{some}
use native.Mathlib.Omega.{arith}
use lib.ListN.{length, drop, length-append}
use lib.Seq.{take_at, drop_at, drop-drop, take_all}
use borrow.Author.Tests.{eq-eqb, le-leb, le-ltb}
use Rattle.format.specs.Bytes.{at, le, value, part, sum, same, given}
use Rattle.format.specs.Layout.{lay_with, lay, fixed_ok}
use Rattle.format.specs.Table.{Table, pptt, srat, hmat, cedt, sign, revision, tail, told, front, limit, Head, head_of}
use Rattle.format.specs.Node.{Node, sizes}
use Rattle.format.specs.Recipe.{means}
use Rattle.format.specs.Build.{records, header, check_of, summed, table_from}
use Rattle.format.specs.Read.{signed, length_in, own, head_fault, judge_head, frames, walk, walked}
use Rattle.format.specs.Out.{every, nodes_from, out_of, meaning_of}
use Rattle.laws.proofs.Bytes.{value-le, sum-append}
use Rattle.laws.proofs.Checks.{check-sum}
use Rattle.laws.proofs.Nodes.{length-bytes}
use Rattle.laws.proofs.Good.{Good, walk-good, nodes-all, none_old}

-- the checksum stands once among the bytes
pub sum-header : (h : Head) (n len c : ℕ) (rs : List ℕ) → sum (header h n len c ++ rs) ≡ c + sum (header h n len 0 ++ rs)
unfolding header sum
sum-header h n len c rs = simp sum-append (omega arith)

-- a check that makes the sum 0
pub sum-zero : (h : Head) (n len : ℕ) (rs : List ℕ) → sum (header h n len (check_of (sum (header h n len 0 ++ rs))) ++ rs) % 256 ≡ 0
sum-zero h n len rs = rw (sum-header h n len (check_of (sum (header h n len 0 ++ rs))) rs) (check-sum (sum (header h n len 0 ++ rs)))

tail-length : (t : Table) (n : ℕ) → 36 + length (lay (tail t) (told t n)) ≡ front t
unfolding lay_with le
tail-length pptt n = refl
tail-length srat n = refl
tail-length hmat n = refl
tail-length cedt n = refl

tail-fixed : (t : Table) (n : ℕ) (rs : List ℕ) → fixed_ok (tail t) (lay (tail t) (told t n) ++ rs) ≡ true
unfolding lay_with fixed_ok le value
tail-fixed pptt n rs = refl
tail-fixed srat n rs = refl
tail-fixed hmat n rs = refl
tail-fixed cedt n rs = refl

-- ---- what stands where

-- the ten bytes in front of the identity
ten : Table → ℕ → ℕ → ℕ → List ℕ
ten t v len c = sign t ++ (le 4 len ++ (v ∷ c ∷ []))

length-ten : (t : Table) (v len c : ℕ) → length (ten t v len c) ≡ 10
unfolding ten le
length-ten pptt v len c = refl
length-ten srat v len c = refl
length-ten hmat v len c = refl
length-ten cedt v len c = refl

signed-ten : (t : Table) (v len c : ℕ) (rs : List ℕ) → signed (ten t v len c ++ rs) ≡ some t
unfolding ten same
signed-ten pptt v len c rs = refl
signed-ten srat v len c rs = refl
signed-ten hmat v len c rs = refl
signed-ten cedt v len c rs = refl

length-in-ten : (t : Table) (v len c : ℕ) (rs : List ℕ) → len < 256 ^ 4 → length_in (ten t v len c ++ rs) ≡ len
unfolding ten le value part
length-in-ten pptt v len c rs l = value-le 4 len l
length-in-ten srat v len c rs l = value-le 4 len l
length-in-ten hmat v len c rs l = value-le 4 len l
length-in-ten cedt v len c rs l = value-le 4 len l

-- the last two of them: revision and checksum
ends-ten : (t : Table) (v len c : ℕ) (rs : List ℕ) → (at (ten t v len c ++ rs) 8 ≡ v) × (at (ten t v len c ++ rs) 9 ≡ c)
unfolding ten le
ends-ten pptt v len c rs = (refl, refl)
ends-ten srat v len c rs = (refl, refl)
ends-ten hmat v len c rs = (refl, refl)
ends-ten cedt v len c rs = (refl, refl)

-- what stands behind the identity
behind : Table → ℕ → List ℕ → List ℕ
behind t n rs = lay (tail t) (told t n) ++ rs

module _ (h : Head) (n len c : ℕ) (rs : List ℕ) where
  parts : header h n len c ++ rs ≡ ten h.table h.revision len c ++ (h.identity ++ behind h.table n rs)
  unfolding header ten behind
  parts = simp append_assoc

  from-ten : (k : ℕ) → drop (10 + k) (header h n len c ++ rs) ≡ drop k (h.identity ++ behind h.table n rs)
  from-ten k = rw (parts, ← drop-drop k 10, drop_at (ten h.table h.revision len c) (h.identity ++ behind h.table n rs) 10 (length-ten h.table h.revision len c))

  signed_is : signed (header h n len c ++ rs) ≡ some h.table
  signed_is = rw parts (signed-ten h.table h.revision len c (h.identity ++ behind h.table n rs))

  length-is : len < 256 ^ 4 → length_in (header h n len c ++ rs) ≡ len
  length-is l = rw parts (length-in-ten h.table h.revision len c (h.identity ++ behind h.table n rs) l)

  revision-is : at (header h n len c ++ rs) 8 ≡ h.revision
  revision-is = rw parts (ends-ten h.table h.revision len c (h.identity ++ behind h.table n rs)).0

  pub check-at : at (header h n len c ++ rs) 9 ≡ c
  check-at = rw parts (ends-ten h.table h.revision len c (h.identity ++ behind h.table n rs)).1

  module _ (h26 : length h.identity ≡ 26) where
    identity-is : part (header h n len c ++ rs) 10 26 ≡ h.identity
    unfolding part
    identity-is = rw (from-ten 0, take_at h.identity (behind h.table n rs) 26 h26)

    tail-is : fixed_ok (tail h.table) (drop 36 (header h n len c ++ rs)) ≡ true
    unfolding behind
    tail-is = rw (from-ten 26, drop_at h.identity (behind h.table n rs) 26 h26) (tail-fixed h.table n rs)

pub length-header : (h : Head) (n len c : ℕ) → length h.identity ≡ 26 → length (header h n len c) ≡ front h.table
unfolding behind
length-header h n len c h26 =
    let e = ap length (parts h n len c []) in
    let t = tail-length h.table n in
    let k = length-ten h.table h.revision len c in
    omega (arith, simp length-append at e)

-- ---- the table of good nodes

pub length-records : (t : Table) (ns : List Node) → length (records t ns) ≡ sizes ns
unfolding records sizes
length-records t [] = refl
length-records t (n ∷ ns) = rw (length-append, length-records t ns, length-bytes)

module _ (h : Head) (h26 : length h.identity ≡ 26) (n : ℕ) (rs : List ℕ) (len c : ℕ) (l : len ≤ limit) (m : front h.table + length rs ≡ len) (k : check_of (sum (header h n len 0 ++ rs)) ≡ c) where
  pub whole : length (header h n len c ++ rs) ≡ len
  whole = rw (length-append, length-header h n len c h26) m

  own_is : own (header h n len c ++ rs) ≡ header h n len c ++ rs
  own_is = rw (length-is h n len c rs (omega arith)) (take_all len (header h n len c ++ rs) (rw whole (omega arith)))

  no-head-fault : head_fault h.table (header h n len c ++ rs) ≡ 0
  unfolding head_fault
  no-head-fault =
      let s : sum (header h n len c ++ rs) % 256 ≡ 0 = rw (← k) (sum-zero h n len rs) in
      rw (own_is, length-is h n len c rs (omega arith), whole, le-leb (front h.table) len (omega arith), le-leb len len (omega arith), le-leb len limit l, s, tail-is h n len c rs h26)

  pub judged : judge_head (header h n len c ++ rs) ≡ given h.table
  unfolding judge_head
  judged =
      let z : 36 ≤ len = omega (arith, tail-length h.table n) in
      rw (whole, le-ltb len 36 z, signed_is h n len c rs, no-head-fault)

  pub walked-is : (mask : ℕ) → walked h.table (header h n len c ++ rs) mask ≡ walk h.table h.revision mask [] (frames h.table 0 (front h.table) rs)
  unfolding walked
  walked-is mask = rw (own_is, revision-is h n len c rs, drop_at (header h n len c) rs (front h.table) (length-header h n len c h26))

-- reading out the table of good nodes gives what they mean
pub read-built : (t : Table) (is : List ℕ) (ns : List Node) → length is ≡ 26 → Good t ns → front t + sizes ns ≤ limit
    → meaning_of (table_from (means (head_of t is) ns)) ≡ given (means (head_of t is) ns)
unfolding meaning_of out_of table_from summed nodes_from
read-built t is ns h26 g l =
    let h = head_of t is in
    let k = length ns in
    let rs = records t ns in
    let e : length rs ≡ sizes ns = length-records t ns in
    let m : front t + length rs ≤ limit = omega arith in
    let x = front t + length rs in
    let c = check_of (sum (header h k x 0 ++ rs)) in
    rw (
      judged h h26 k rs x c m refl refl,
      walked-is h h26 k rs x c m refl refl every,
      walk-good t ns g l,
      nodes-all t ns [] g l,
      none_old t ns g,
      revision-is h k x c rs,
      eq-eqb (revision t) (revision t) refl,
      identity-is h k x c rs h26,
    )
