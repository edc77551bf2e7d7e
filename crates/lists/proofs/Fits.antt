-- What `listtab` prints is the format's listing, whole: a record has two bytes at least and its line 26 characters at most, so that the
-- lines of 65,536 bytes fit the buffer that the program lends.
use mathlib.Core.Path.{◌≡◌, refl, ap}
use Prim.Native.Nat.{ℕ, zero, suc, ◌+◌, ◌-◌, ◌*◌, ◌≤◌, ◌<◌}
use mathlib.Core.List.{List, [], ◌∷◌}
use mathlib.Core.Bool.{Bool, true, false}
use mathlib.Core.Option.{Option, none, some}
use native.Mathlib.Omega.{arith}
use lib.ListN.{length, take, drop, length-append, length-take, length-drop}
use Rattle.format.specs.Bytes.{pick, Answer, refused, given, Bytes, at, value}
use Rattle.format.specs.Table.{Table, pptt, srat, hmat, cedt, front}
use Rattle.format.specs.Row.{Row}
use Rattle.format.specs.Node.{Entry}
use Rattle.format.specs.Read.{signed, length_in, own, type_in, size_in, framed, Frames, ended, bad_frame, framed_at, frames, Seen, entry_of, seen_as, judge_head, walk, walked, accept}
use Rattle.format.specs.Out.{every}
use Rattle.format.specs.Listing.{whether, refused_words, first_line, record_line, record_lines, lines_of, listing}
use Rattle.laws.proofs.Bytes.{bytes_take, bytes_drop}
use Rattle.laws.proofs.Finds.{then-given}
use Rattle.laws.proofs.Masks.{walk_first}
use Rattle.frames.proofs.Places.{framed_then}
use Rattle.read.specs.Places.{body_in, body_at, seen_in, seen_at, first_place, seen_from}
use Rattle.read.proofs.Listing.{first-low, body-room, all-records}
use Rattle.text.specs.Text.{laid}
use Rattle.text.proofs.Laws.{laid-whole}
use Rattle.text.proofs.Digits.{digits-most, digits-few}
use Rattle.lists.proofs.Turns.{line_of}

-- ---- one line

whether-short : (o : Option Row) → length (whether o) ≤ 9
whether-short none = omega arith
whether-short (some r) = omega arith

line-short : (p ty n : ℕ) (o : Option Row) → p < 100000 → ty < 100000 → n < 100000 → length (record_line p ty n o) ≤ 26
unfolding record_line
line-short p ty n o h i j =
    simp length-append (omega (arith, digits-few 20 4 p h, digits-few 20 4 ty i, digits-few 20 4 n j, whether-short o))

type-low : (t : Table) (bs : List ℕ) → Bytes bs → type_in t bs < 65536
unfolding value
type-low pptt [] h = omega arith
type-low pptt (x ∷ xs) h = omega (arith, h.0)
type-low srat [] h = omega arith
type-low srat (x ∷ xs) h = omega (arith, h.0)
type-low hmat [] h = omega arith
type-low hmat (x ∷ []) h = omega (arith, h.0)
type-low hmat (x ∷ y ∷ ys) h = omega (arith, h.0, h.1.0)
type-low cedt [] h = omega arith
type-low cedt (x ∷ xs) h = omega (arith, h.0)

-- ---- the number of records

-- how many there are
size : Frames → ℕ
size ended = 0
size (bad_frame p) = 0
size (framed_at p bs rest) = suc (size rest)

first-size : (t : Table) (p b : ℕ) (bs : List ℕ) → ((k : ℕ) → k ≤ length bs → 2 * size (frames t k (suc p) bs) + k ≤ length bs) → (x : Bool) → framed t (b ∷ bs) ≡ x
    → 2 * size (pick x (framed_at p (take (size_in t (b ∷ bs)) (b ∷ bs)) (frames t (size_in t (b ∷ bs) - 1) (suc p) bs)) (bad_frame p)) ≤ suc (length bs)
unfolding size
first-size t p b bs more true f =
    let g = framed_then t (b ∷ bs) f in
    omega (arith, g.some, g.inside, more (size_in t (b ∷ bs) - 1) (omega (arith, g.some, g.inside)))
first-size t p b bs more false f = omega arith

frames-size : (t : Table) (bs : List ℕ) (k p : ℕ) → k ≤ length bs → 2 * size (frames t k p bs) + k ≤ length bs
unfolding frames size
frames-size t [] k p h = omega arith
frames-size t (b ∷ bs) (suc k) p h = omega (arith, frames-size t bs k (suc p) (omega arith))
frames-size t (b ∷ bs) zero p h = omega (arith, first-size t p b bs (λ k. frames-size t bs k (suc p)) (framed t (b ∷ bs)) refl)

walk-size : (t : Table) (rev mask : ℕ) (es : List Entry) (fs : Frames) (ss : List Seen) → walk t rev mask es fs ≡ given ss → length ss ≡ size fs
unfolding walk size
walk-size t rev mask es ended ss e = let z : [] ≡ ss = cc in rw (← z)
walk-size t rev mask es (bad_frame p) ss e = absurd (let z : ◌≡◌ {A = ℕ} 0 1 = cc in omega arith)
walk-size t rev mask es (framed_at p bs rest) ss e =
    let (us, fine, w, is) = walk_first t rev mask es p bs rest e in
    rw (← is, ← walk-size t rev mask (entry_of (seen_as t rev mask p bs) ∷ es) rest us w)

count_low : (b : List ℕ) (mask : ℕ) {ss : List Seen} → accept b mask ≡ given ss → 2 * length ss ≤ length b
unfolding accept walked
count_low b mask {ss} e =
    let (t, h, w) = then-given (judge_head b) (λ t. walked t b mask) e in
    let n = walk-size t (at b 8) mask [] _ ss w in
    let f = frames-size t (drop (front t) (own b)) 0 (front t) (omega arith) in
    let l : length (drop (front t) (own b)) ≤ length b = simp (length-drop, length-take) (omega arith) in
    omega (arith, n, f, l)

-- ---- all lines, of bytes

module _ (b : List ℕ) (h : Bytes b) (l : length b ≤ 65536) where
  seen-short : (p : ℕ) → p ≤ 65536 → length (line_of (seen_at b every p)) ≤ 26
  unfolding seen_at
  seen-short p q = by (signed b)
    where
      by : (o : Option Table) → length (line_of (seen_in o (at b 8) every p (body_in o b p))) ≤ 26
      by none = line-short p 0 0 none (omega arith) (omega arith) (omega arith)
      by (some t) =
          let bs = body_in (some t) b p in
          let n : length bs ≤ length b = simp (length-take, length-drop) (omega arith) in
          let m = type-low t bs (bytes_take (size_in t (drop p (own b))) (drop p (own b)) (bytes_drop p (own b) (bytes_take (length_in b) b h))) in
          line-short p (type_in t bs) (length bs) (seen_as t (at b 8) every p bs).row (omega arith) (omega (arith, m)) (omega (arith, n))

  all_short : (n p : ℕ) → p ≤ 65536 → length (record_lines (seen_from b every n p)) ≤ 26 * n
  unfolding seen_from record_lines
  all_short zero p q = omega arith
  all_short (suc n) p q =
      let r = p + length (body_at b p) in
      simp length-append (omega (arith, seen-short p q, all_short n r (omega (arith, body-room b p))))

  first_short : (count : ℕ) → length (first_line b count) ≤ 68
  unfolding first_line
  first_short count = simp (length-append, length-take) (omega (arith, digits-most 20 (at b 8), digits-most 20 (length_in b), digits-most 20 count))

  refused-short : (n p : ℕ) → length (lines_of b (refused n p)) ≤ 50
  unfolding lines_of refused_words
  refused-short n p = simp length-append (omega (arith, digits-most 20 n, digits-most 20 p))

  lines_fit : length (lines_of b (accept b every)) ≤ 1114112
  unfolding lines_of
  lines_fit = by (accept b every) refl
    where
      by : (w : Answer (List Seen)) → accept b every ≡ w → length (lines_of b w) ≤ 1114112
      by (refused n p) e = omega (arith, refused-short n p)
      by (given ss) e =
          let r = all_short (length ss) (first_place b) (omega (arith, first-low b)) in
          let z = ap (λ (us : List Seen). length (record_lines us)) (all-records b every e) in
          simp length-append (omega (arith, first_short (length ss), r, z, count_low b every e))

-- the first bytes of the buffer, as many as `lines` answers for what was read, are the listing
pub printed : (b : List ℕ) → Bytes b → (out : List ℕ) → length out ≡ 1114112 → {m : ℕ} {x : List ℕ}
    → ◌≡◌ {A = ℕ × List ℕ} (m, x) (laid out 0 (lines_of (take 65536 b) (accept (take 65536 b) every))) → take m x ≡ listing b
unfolding listing
printed b h out n e =
    let f = lines_fit (take 65536 b) (bytes_take 65536 b h) (simp length-take (omega arith)) in
    laid-whole out _ e (omega (arith, f))
