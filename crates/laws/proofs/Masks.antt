-- Demand 3: a record is unknown exactly when no row that fits is known, and a reader that knows fewer rows gives the same answers without those rows: by induction over the records.
use mathlib.Core.Path.{◌≡◌, refl, sym, ap, ◌∙◌}
use mathlib.Core.Logic.{◌↔◌}
use Prim.Native.Nat.{ℕ, ◌≤◌}
use mathlib.Core.List.{List, [], ◌∷◌, ◌++◌, map}
use mathlib.Core.Bool.{Bool, true, false, not}
use mathlib.Core.Option
use mathlib.Core.Option.{Option, none, some}
use native.Mathlib.Omega.{arith}
use lib.ListN.{length, get_elem?, length-map}
use lib.Dec.{eqb, leb}
use borrow.Author.Tests.{eqb-true, not-true}
use Rattle.format.specs.Bytes.{pick, both, find, at, value, part, refused, given, and_then, or_refused}
use Rattle.format.specs.Table.{Table, pptt, srat, hmat, cedt, revision}
use Rattle.format.specs.Form.{byte, pair, most, up_to}
use Rattle.format.specs.Row.{Row, processors, caches, memories, initiators, old_rintcs, rintcs, domains, matrices, sides, bridges, windows, xors, row_number, rows, home, row_type, column, matches, row_of, knows, known}
use Rattle.format.specs.Node.{Entry, at_place}
use Rattle.format.specs.Read.{head_fault, judge_head, type_in, Frames, ended, bad_frame, framed_at, record_fault, Seen, seen_as, entry_of, walk, walked, accept, Reading, fields_of, chosen, reading_of, read}
use Rattle.laws.specs.Demand3.{More, OwnBits, limited, if_known, dimmed, Fits, Exact}
use Rattle.laws.proofs.Lays.{both_true}
use Rattle.laws.proofs.Finds.{All, found-test, found_in, found-closer, at_map, then-given, unless-given, UpTo, upto, then-refused}

-- ---- which row

-- a RINTC with its domain is none without
short-not : (bs : List ℕ) → column rintcs bs ≡ true → column old_rintcs bs ≡ false
unfolding column
short-not bs e = rw (eqb-true (length bs) 20 e)

-- a matrix with a count above 255 is none of those without
wide-not : (bs : List ℕ) → column (matrices pair) bs ≡ true → column (matrices byte) bs ≡ false
unfolding column
wide-not bs e =
    let p = both_true (leb 32 (length bs)) _ e in
    let i : ℕ = value (part bs 12 4) in
    let t : ℕ = value (part bs 16 4) in
    rw (p.0, not-true (up_to 255 i t) (both_true (not (up_to 255 i t)) (up_to most i t) p.1).0)

-- rows of one table are told apart by their type, and those of one type by their Length column
by-type : (bs : List ℕ) (r : Row) → column r bs ≡ true → find (λ q. both (eqb (row_type r) (row_type q)) (column q bs)) (rows (home r)) ≡ some r
by-type bs processors e = rw e
by-type bs caches e = rw e
by-type bs memories e = rw e
by-type bs initiators e = rw e
by-type bs old_rintcs e = rw e
by-type bs domains e = rw e
by-type bs (matrices byte) e = rw e
by-type bs (matrices pair) e = rw (wide-not bs e, e)
by-type bs sides e = rw e
by-type bs bridges e = rw e
by-type bs windows e = rw e
by-type bs xors e = rw e
by-type bs rintcs e = rw (short-not bs e, e)

all-home : (t : Table) → All (λ r. home r ≡ t) (rows t)
all-home pptt = (refl, (refl, tt))
all-home srat = (refl, (refl, (refl, (refl, tt))))
all-home hmat = (refl, (refl, (refl, (refl, tt))))
all-home cedt = (refl, (refl, (refl, tt)))

module _ (rev ty : ℕ) (bs : List ℕ) where
  row-test : (r : Row) → matches rev ty bs r ≡ true → both (eqb ty (row_type r)) (column r bs) ≡ true
  unfolding matches
  row-test r e = (both_true (eqb rev (revision (home r))) _ e).1

  -- a row that matches is the row
  pub row-when : (r : Row) → matches rev ty bs r ≡ true → row_of (home r) rev ty bs ≡ some r
  unfolding row_of
  row-when r e =
      let p = both_true (eqb ty (row_type r)) (column r bs) (row-test r e) in
      let z : row_type r ≡ ty = sym (eqb-true ty (row_type r) p.0) in
      found-closer (λ q. both (eqb ty (row_type q)) (column q bs)) (matches rev ty bs) row-test (rows (home r)) r (rw z at (by-type bs r p.1)) e

  pub row-then : (t : Table) (r : Row) → row_of t rev ty bs ≡ some r → matches rev ty bs r ≡ true
  unfolding row_of
  row-then t r e = found-test (matches rev ty bs) (rows t) r e

  pub row-home : (t : Table) (r : Row) → row_of t rev ty bs ≡ some r → home r ≡ t
  unfolding row_of
  row-home t r e = found_in (λ q. home q ≡ t) (matches rev ty bs) (rows t) r (all-home t) e

  pub row_fits : (t : Table) (r : Row) → (row_of t rev ty bs ≡ some r) ↔ Fits t rev ty bs r
  row_fits t r = (λ e. (row-home t r e, row-then t r e), λ f. rw f.0 at (row-when r f.1))

-- ---- each row has its own bit

-- the row of a number
numbered : ℕ → Option Row
numbered n = find (λ r. eqb n (row_number r)) (rows pptt ++ (rows srat ++ (rows hmat ++ rows cedt)))

number-back : (r : Row) → numbered (row_number r) ≡ some r
unfolding numbered
number-back processors = refl
number-back caches = refl
number-back memories = refl
number-back initiators = refl
number-back old_rintcs = refl
number-back rintcs = refl
number-back domains = refl
number-back (matrices byte) = refl
number-back (matrices pair) = refl
number-back sides = refl
number-back bridges = refl
number-back windows = refl
number-back xors = refl

pub own_bits : OwnBits
own_bits r q e = let i : some r ≡ some q = sym (number-back r) ∙ (ap numbered e ∙ number-back q) in cc

-- ---- unknown exactly when

pub known-row : (m : ℕ) (o : Option Row) (r : Row) → known m o ≡ some r → (o ≡ some r) × (knows m r ≡ true)
known-row m none r e = (e, cc)
known-row m (some q) r e = split (knows m q) refl e
  where
    split : (b : Bool) → knows m q ≡ b → pick b (some q) none ≡ some r → (some q ≡ some r) × (knows m r ≡ true)
    split true k e = (e, cc)
    split false k e = (cc, cc)

known-none : (m : ℕ) (r : Row) → known m (some r) ≡ none → knows m r ≡ false
known-none m r e = split (knows m r) e
  where
    split : (b : Bool) → pick b (some r) none ≡ none → b ≡ false
    split true e = cc
    split false e = refl

module _ (t : Table) (rev m : ℕ) where
  seen-exact : (p : ℕ) (bs : List ℕ) → Exact t rev m (seen_as t rev m p bs)
  seen-exact p bs =
      record {
        unknown = (λ n r f. known-none m r (rw ((fits r).1 f) at n), by_row o refl);
        of_row = λ r. (λ e. (let k = known-row m o r e in ((fits r).0 k.0, k.1)), λ h. rw ((fits r).1 h.0, h.1));
      }
    where
      o : Option Row
      o = row_of t rev (type_in t bs) bs

      fits : (r : Row) → (o ≡ some r) ↔ Fits t rev (type_in t bs) bs r
      fits r = row_fits rev (type_in t bs) bs t r

      by_row : (q : Option Row) → o ≡ q → ((r : Row) → Fits t rev (type_in t bs) bs r → knows m r ≡ false) → known m q ≡ none
      by_row none e h = refl
      by_row (some r) e h = rw (h r ((fits r).0 e))

  -- the first of the records accepted, and the walk over the others
  pub walk_first : (es : List Entry) (p : ℕ) (bs : List ℕ) (rest : Frames) {ss : List Seen} → walk t rev m es (framed_at p bs rest) ≡ given ss
      → (us : List Seen) × (record_fault (at_place es) (known m (row_of t rev (type_in t bs) bs)) bs ≡ 0)
      × (walk t rev m (entry_of (seen_as t rev m p bs) ∷ es) rest ≡ given us) × (seen_as t rev m p bs ∷ us ≡ ss)
  unfolding walk
  walk_first es p bs rest e =
      let u = unless-given (record_fault (at_place es) (known m (row_of t rev (type_in t bs) bs)) bs) p _ e in
      let v = then-given (walk t rev m (entry_of (seen_as t rev m p bs) ∷ es) rest) _ u.1 in
      (v.0, u.0, v.1, cc v.2)

  walk-exact : (es : List Entry) (fs : Frames) (ss : List Seen) → walk t rev m es fs ≡ given ss → All (Exact t rev m) ss
  unfolding walk
  walk-exact es ended ss e = let z : [] ≡ ss = cc in rw (← z) tt
  walk-exact es (bad_frame p) ss e = absurd (let z : ◌≡◌ {A = ℕ} 0 1 = cc in omega arith)
  walk-exact es (framed_at p bs rest) ss e =
      let w = walk_first es p bs rest e in
      rw (← w.3) (seen-exact p bs, walk-exact (entry_of (seen_as t rev m p bs) ∷ es) rest w.0 w.2)

-- every record of a table that is accepted is unknown, or of a row, exactly when it has to be
pub accept-exact : (b : List ℕ) (m : ℕ) (t : Table) (ss : List Seen) → accept b m ≡ given ss → judge_head b ≡ given t → All (Exact t (at b 8) m) ss
unfolding accept walked
accept-exact b m t ss e h = walk-exact t (at b 8) m [] _ ss (rw h at e)

-- ---- refusals up to 27

head-upto : (b : List ℕ) → UpTo 27 (judge_head b)
unfolding judge_head head_fault
head-upto b = search upto depth 10

fault-upto : (ok : ℕ → ℕ → Bool) (o : Option Row) (bs : List ℕ) → record_fault ok o bs ≤ 27
unfolding record_fault
fault-upto ok none bs = omega arith
fault-upto ok (some r) bs = search upto

walk-upto : (t : Table) (rev m : ℕ) (es : List Entry) (fs : Frames) → UpTo 27 (walk t rev m es fs)
unfolding walk
walk-upto t rev m es ended = tt
walk-upto t rev m es (bad_frame p) = omega arith
walk-upto t rev m es (framed_at p bs rest) =
    let ih = walk-upto t rev m (entry_of (seen_as t rev m p bs) ∷ es) rest in
    search (upto, fault-upto)

accept-upto : (b : List ℕ) (m : ℕ) → UpTo 27 (accept b m)
unfolding accept walked
accept-upto b m = search (upto, head-upto, walk-upto)

-- ---- fewer rows

-- a record that has no fault has none where its row may be unknown
fault-known : (m : ℕ) (ok : ℕ → ℕ → Bool) (o : Option Row) (bs : List ℕ) → record_fault ok o bs ≡ 0 → record_fault ok (known m o) bs ≡ 0
unfolding record_fault
fault-known m ok none bs e = e
fault-known m ok (some r) bs e = split (knows m r)
  where
    split : (b : Bool) → record_fault ok (pick b (some r) none) bs ≡ 0
    split true = e
    split false = refl

fields-known : (m : ℕ) (o : Option Row) (bs : List ℕ) → fields_of (known m o) bs ≡ if_known (known m o) (fields_of o bs)
unfolding fields_of
fields-known m none bs = refl
fields-known m (some r) bs = split (knows m r)
  where
    split : (b : Bool) → fields_of (pick b (some r) none) bs ≡ if_known (pick b (some r) none) (fields_of (some r) bs)
    split true = refl
    split false = refl

-- the answer on one of the records, limited
answer-limited : (m : ℕ) (ss : List Seen) (n : ℕ)
    → and_then (chosen (map (limited m) ss) n) (λ s. given (reading_of (length (map (limited m) ss)) s))
    ≡ and_then (and_then (chosen ss n) (λ s. given (reading_of (length ss) s))) (λ a. given (dimmed m a))
answer-limited m ss n = rw (length-map ss (limited m), at_map (limited m) ss n) (by-record (get_elem? ss n))
  where
    by-record : (o : Option Seen)
        → and_then (or_refused 28 (length ss) (Option.map (limited m) o)) (λ s. given (reading_of (length ss) s))
        ≡ and_then (and_then (or_refused 28 (length ss) o) (λ s. given (reading_of (length ss) s))) (λ a. given (dimmed m a))
    by-record none = refl
    by-record (some s) = rw (fields-known m s.row s.body)

module _ (m₁ m₂ : ℕ) (more : More m₁ m₂) where
  known-less : (o : Option Row) → known m₂ (known m₁ o) ≡ known m₂ o
  known-less none = refl
  known-less (some r) = split (knows m₁ r) (knows m₂ r) refl (more r)
    where
      split : (x y : Bool) → knows m₂ r ≡ y → (y ≡ true → x ≡ true) → known m₂ (pick x (some r) none) ≡ pick y (some r) none
      split true y q h = rw q
      split false true q h = let z : false ≡ true = h refl in cc
      split false false q h = refl

  pub walk-less : (t : Table) (rev : ℕ) (es : List Entry) (fs : Frames) (ss : List Seen)
      → walk t rev m₁ es fs ≡ given ss → walk t rev m₂ es fs ≡ given (map (limited m₂) ss)
  unfolding walk
  walk-less t rev es ended ss e = let z : [] ≡ ss = cc in rw (← z)
  walk-less t rev es (bad_frame p) ss e = cc
  walk-less t rev es (framed_at p bs rest) ss e =
      let w = walk_first t rev m₁ es p bs rest e in
      let o = row_of t rev (type_in t bs) bs in
      let f : record_fault (at_place es) (known m₂ o) bs ≡ 0 = rw (known-less o) at (fault-known m₂ (at_place es) (known m₁ o) bs w.1) in
      rw (f, walk-less t rev (entry_of (seen_as t rev m₁ p bs) ∷ es) rest w.0 w.2, ← known-less o) (ap (λ us. given (map (limited m₂) us)) w.3)

  -- what a reader accepts, one that knows fewer rows accepts, with the same records
  pub accept-less : (b : List ℕ) (ss : List Seen) → accept b m₁ ≡ given ss → accept b m₂ ≡ given (map (limited m₂) ss)
  unfolding accept walked
  accept-less b ss e =
      let h = then-given (judge_head b) _ e in
      rw h.1 (walk-less h.0 (at b 8) [] _ ss h.2)

  read-limited : (b : List ℕ) (n : ℕ) (ss : List Seen) → accept b m₁ ≡ given ss → read b m₂ n ≡ and_then (read b m₁ n) (λ a. given (dimmed m₂ a))
  unfolding read
  read-limited b n ss e = rw (accept-less b ss e, e) (answer-limited m₂ ss n)

  -- what a reader answers, one that knows fewer rows answers, without the rows and fields of those that it does not know
  pub read-less : (b : List ℕ) (n : ℕ) (a : Reading) → read b m₁ n ≡ given a → read b m₂ n ≡ given (dimmed m₂ a)
  unfolding read
  read-less b n a e = let h = then-given (accept b m₁) _ e in read-limited b n h.0 h.1 ∙ rw e

  -- where a reader has no such record, one that knows fewer rows has none
  pub read_past : (b : List ℕ) (n c : ℕ) → read b m₁ n ≡ refused 28 c → read b m₂ n ≡ refused 28 c
  unfolding read
  read_past b n c e = let h = then-refused 27 (accept b m₁) _ (accept-upto b m₁) (omega arith) e in read-limited b n h.0 h.1 ∙ rw e
