-- What a reader sees who accepts, by induction over the records seen from one law on a step: each record is its part of the table, and nodes read out of records with known rows are good, and have these records.
use mathlib.Core.Path.{◌≡◌, refl, sym, ◌∙◌}
use Prim.Native.Nat.{ℕ, ◌+◌, ◌-◌, ◌≤◌, ◌<◌}
use mathlib.Core.List.{List, [], ◌∷◌, ◌++◌, append_assoc, append-nil}
use mathlib.Core.Bool.{Bool, true, false}
use mathlib.Core.Option.{some}
use native.Mathlib.Omega.{arith}
use lib.ListN.{length, take, drop, length-drop, take-append-drop}
use lib.Seq.{length-take-le, drop-drop}
use lib.Dec.{leb}
use borrow.Author.Tests.{leb-true}
use Rattle.format.specs.Bytes.{Bytes, at, part, refused, given, or_refused}
use Rattle.format.specs.Table.{Table, pptt, srat, hmat, cedt, front, limit, frame, least}
use Rattle.format.specs.Row.{known, row_of, form_in, is_retired}
use Rattle.format.specs.Node.{Node, node_at, Entry, sizes, starts, at_place, ordinal_of}
use Rattle.format.specs.Build.{records}
use Rattle.format.specs.Read.{own, judge_head, size_in, framed, framed_at, frames, record_fault, Seen, entry_of, walk, walked, accept}
use Rattle.format.specs.Out.{every, nodes_from}
use Rattle.laws.proofs.Bytes.{bytes_take, bytes_drop, part-take}
use Rattle.laws.proofs.Lays.{both_true}
use Rattle.laws.proofs.Links.{length-starts, starts-rise, few-nodes}
use Rattle.laws.proofs.Masks.{known-row, walk_first}
use Rattle.laws.proofs.Good.{Good, frames-first}
use Rattle.laws.proofs.Finds.{All, then-given, or-given}
use Rattle.laws.proofs.Found.{found}

-- ---- one step of a walk that accepts

-- the first record s of the bytes bs at p, and the records ss behind it
pub record Step (t : Table) (rev mask p : ℕ) (es : List Entry) (bs : List ℕ) (s : Seen) (ss : List Seen) : Type 0 where
  pub place : s.place ≡ p
  pub some : 0 < length s.body
  pub inside : length s.body ≤ length bs
  pub body : s.body ≡ take (length s.body) bs
  pub size : size_in t s.body ≡ length s.body
  pub row : s.row ≡ known mask (row_of t rev s.type s.body)
  pub fine : record_fault (at_place es) s.row s.body ≡ 0
  pub rest : walk t rev mask (entry_of s ∷ es) (frames t 0 (p + length s.body) (drop (length s.body) bs)) ≡ given ss

pub least-pos : (t : Table) → 0 < least t
least-pos pptt = omega arith
least-pos srat = omega arith
least-pos hmat = omega arith
least-pos cedt = omega arith

framed_then : (t : Table) (bs : List ℕ) → framed t bs ≡ true → (least t ≤ size_in t bs) × (size_in t bs ≤ length bs)
unfolding framed
framed_then t bs e =
    let n = size_in t bs in
    let p = both_true (leb (least t) n) (leb n (length bs)) (both_true (leb (least t) (length bs)) _ e).1 in
    (leb-true (least t) n p.0, leb-true n (length bs) p.1)

-- nothing is seen of no bytes
abbrev Steps : Table → ℕ → ℕ → ℕ → List Entry → List ℕ → List Seen → Type 0
Steps t rev mask p es bs [] = bs ≡ []
Steps t rev mask p es bs (s ∷ ss) = Step t rev mask p es bs s ss

module _ (t : Table) (rev mask p : ℕ) (es : List Entry) where
  steps : (bs : List ℕ) (us : List Seen) → walk t rev mask es (frames t 0 p bs) ≡ given us → Steps t rev mask p es bs us
  unfolding frames walk
  steps [] [] e = refl
  steps [] (s ∷ ss) e = absurd (let z : ◌≡◌ {A = ℕ} 0 1 = cc in omega arith)
  steps (b ∷ bs) us e = split (framed t (b ∷ bs)) refl
    where
      split : (x : Bool) → framed t (b ∷ bs) ≡ x → Steps t rev mask p es (b ∷ bs) us
      split false q = absurd (let r : refused 25 p ≡ given us = rw q at e in let z : ◌≡◌ {A = ℕ} 0 1 = cc in omega arith)
      split true q =
          let xs : List ℕ = b ∷ bs in
          let n = size_in t xs in
          let c = take n xs in
          let (l, i) = framed_then t xs q in
          let m : 0 < n = omega (arith, least-pos t) in
          let k : length c ≡ n = length-take-le n xs i in
          let d : frames t 0 p xs ≡ framed_at p c (frames t 0 (p + length c) (drop (length c) xs)) = frames-first t p xs (omega arith) m ∙ rw (q, k) in
          let (ss, fine, rest, is) = walk_first t rev mask es p c (frames t 0 (p + length c) (drop (length c) xs)) (rw d at e) in
          rw (← is) (record {
            place = refl;
            some = omega arith;
            inside = omega arith;
            body = rw k;
            size = rw (part-take xs n ((frame t).type + (frame t).reserved) (frame t).length l, k);
            row = refl;
            fine = fine;
            rest = rest;
          })

  pub step : (bs : List ℕ) {s : Seen} {ss : List Seen} → walk t rev mask es (frames t 0 p bs) ≡ given (s ∷ ss) → Step t rev mask p es bs s ss
  step bs {s} {ss} e = steps bs (s ∷ ss) e

  pub stop : (bs : List ℕ) → walk t rev mask es (frames t 0 p bs) ≡ given [] → bs ≡ []
  stop bs e = steps bs [] e

-- ---- each record is its part

-- the record's bytes are those from its place on, and end within c
pub record Part (c : List ℕ) (s : Seen) : Type 0 where
  pub is : s.body ≡ part c s.place (length s.body)
  pub within : s.place + length s.body ≤ length c

pub seen_parts : (t : Table) (rev mask : ℕ) (c : List ℕ) (ss : List Seen) (p : ℕ) (es : List Entry)
    → walk t rev mask es (frames t 0 p (drop p c)) ≡ given ss → All (Part c) ss
unfolding part
seen_parts t rev mask c [] p es e = tt
seen_parts t rev mask c (s ∷ ss) p es e =
    let st = step t rev mask p es (drop p c) e in
    let d : length (drop p c) ≡ length c - p = length-drop p c in
    let part : Part c s = record { is = rw st.place st.body; within = omega arith } in
    (part, seen_parts t rev mask c ss (p + length s.body) (entry_of s ∷ es) (rw drop-drop at st.rest))

pub accept-parts : (b : List ℕ) (mask : ℕ) {ss : List Seen} → accept b mask ≡ given ss → All (Part (own b)) ss
unfolding accept walked
accept-parts b mask {ss} e =
    let (t, h, w) = then-given (judge_head b) (λ t. walked t b mask) e in
    seen_parts t (at b 8) mask (own b) ss (front t) [] w

-- ---- the nodes read out

-- the nodes read out of the records bs, none of which is retired, behind the records of good nodes ns
pub walk-found : (t : Table) (rev : ℕ) (ss : List Seen) (ns : List Node) (bs : List ℕ) (ns' : List Node) → Good t ns → Bytes bs → front t + sizes ns + length bs ≤ limit
    → walk t rev every (starts t ns) (frames t 0 (front t + sizes ns) bs) ≡ given ss → nodes_from (starts t ns) ns ss ≡ given ns' → All (λ s. is_retired s.row ≡ false) ss
    → Good t ns' × (records t ns' ≡ records t ns ++ bs)
unfolding nodes_from sizes starts records
walk-found t rev [] ns bs ns' g h l w e a =
    let b : bs ≡ [] = stop t rev every (front t + sizes ns) (starts t ns) bs w in
    let n : ns ≡ ns' = cc in
    rw (← n) (g, rw (b, append-nil))
walk-found t rev (s ∷ ss) ns bs ns' g h l w e a =
    let p = front t + sizes ns in
    let es = starts t ns in
    let c = s.body in
    let n = length c in
    let st = step t rev every p es bs w in
    let (r, q, more) = then-given (or_refused 29 s.place s.row) (λ r. nodes_from (entry_of s ∷ es) (node_at (ordinal_of es) (form_in r c) c ∷ ns) ss) e in
    let row : s.row ≡ some r = or-given 29 s.place s.row q in
    let m = node_at (ordinal_of es) (form_in r c) c in
    let i : Bytes c = rw (← st.body) at (bytes_take n bs h) in
    let o : row_of t rev s.type c ≡ some r = (known-row every _ r (sym st.row ∙ row)).0 in
    let F = found t p es c rev s.type r (starts-rise t ns) (omega (arith, length-starts t ns, few-nodes ns)) i o (rw row at a.0) st.size (rw row at st.fine) in
    let z : p + n ≡ front t + sizes (m ∷ ns) = omega (arith, F.long) in
    let R = walk-found t rev ss (m ∷ ns) (drop n bs) ns' (F.good, g) (bytes_drop n bs h) (simp length-drop (omega arith)) (cc) (cc) a.1 in
    (R.0, cc (append_assoc (records t ns) c (drop n bs), take-append-drop n bs))
