-- The records of an accepted table are those that one sees going from place to place: so the record asked for is the one at its place.
use mathlib.Core.Path.{◌≡◌, refl, sym, ap, ◌∙◌}
use Prim.Native.Nat.{ℕ, zero, suc, ◌+◌, ◌-◌, ◌≤◌, ◌<◌, max}
use mathlib.Core.List.{List, [], ◌∷◌}
use mathlib.Core.Bool.{Bool, true, false}
use mathlib.Core.Option.{Option, none, some}
use mathlib.Core.Logic.{⊎_elim}
use native.Mathlib.Omega.{arith}
use lib.ListN.{length, drop, get_elem?, length-take, length-drop}
use lib.Dec.{ltb}
use Rattle.format.specs.Bytes.{pick, Answer, refused, given, and_then, of_given, or_refused, unless, at, value, part}
use Rattle.format.specs.Table.{Table, pptt, srat, hmat, cedt, front}
use Rattle.format.specs.Node.{Entry}
use Rattle.format.specs.Read.{signed, own, head_fault, judge_head, framed, Seen, seen_as, entry_of, walk, walked, accept, chosen, reading_of, read, part_of, read_part}
use Rattle.laws.proofs.Bytes.{value-byte}
use Rattle.laws.proofs.Finds.{then-given, or-given, unless-given}
use Rattle.laws.proofs.Masks.{walk_first}
use Rattle.frames.specs.Frames.{ahead}
use Rattle.frames.proofs.Places.{lt-or-le, record_at, next, ahead-end, ahead-bad, ahead-next}
use Rattle.read.specs.declared.Shown.{Shown}
use Rattle.read.specs.Answers.{shown_as}
use Rattle.read.specs.Places.{counted, body_in, body_at, seen_in, seen_at, front_of, first_place, behind, seen_from}

-- ---- places

front_low : (o : Option Table) → front_of o ≤ 48
front_low none = omega arith
front_low (some pptt) = omega arith
front_low (some srat) = omega arith
front_low (some hmat) = omega arith
front_low (some cedt) = omega arith

pub first-low : (b : List ℕ) → first_place b ≤ 48
first-low b = front_low (signed b)

-- a record does not reach past the end
pub body-room : (b : List ℕ) (p : ℕ) → p + length (body_at b p) ≤ max p (length b)
body-room b p = by (signed b)
  where
    by : (o : Option Table) → p + length (body_in o b p) ≤ max p (length b)
    by none = omega arith
    by (some t) = simp (length-take, length-drop) (omega arith)

pub behind-next : (b : List ℕ) (n p : ℕ) → 0 < n → behind b n p ≡ behind b (n - 1) (p + length (body_at b p))
unfolding behind
behind-next b zero p l = absurd (omega arith)
behind-next b (suc n) p l = let e : suc n - 1 ≡ n = omega arith in rw e

pub behind-end : (b : List ℕ) (n p : ℕ) → n ≤ 0 → behind b n p ≡ p
unfolding behind
behind-end b zero p l = refl
behind-end b (suc n) p l = absurd (omega arith)

-- what is seen at p of the bytes bs there, of the table t of the revision there
pub seen-signed : (b : List ℕ) (mask p : ℕ) (t : Table) (rev : ℕ) (bs : List ℕ) → some t ≡ signed b → rev ≡ value (part b 8 1) → bs ≡ body_at b p → seen_as t rev mask p bs ≡ seen_at b mask p
unfolding seen_at
seen-signed b mask p t rev bs q r e = rw (← e, ← q, value-byte, ← r)

pub seen-unsigned : (b : List ℕ) (mask p : ℕ) (bs : List ℕ) → none ≡ signed b → bs ≡ body_at b p → record { place = p; type = 0; row = none; body = bs } ≡ seen_at b mask p
unfolding seen_at
seen-unsigned b mask p bs q e = rw (← e, ← q)

seen-body : (b : List ℕ) (mask p : ℕ) → (seen_at b mask p).body ≡ body_at b p
unfolding seen_at
seen-body b mask p = by (signed b)
  where
    by : (o : Option Table) → (seen_in o (at b 8) mask p (body_in o b p)).body ≡ body_in o b p
    by none = refl
    by (some t) = refl

-- the record behind the one that is shown starts as far on as that one is long
pub shown-next : (b : List ℕ) (mask p : ℕ) (s : Shown) → shown_as 0 s ≡ reading_of 0 (seen_at b mask p) → p + s.length ≡ p + length (body_at b p)
shown-next b mask p s e =
    let l : s.length ≡ length (seen_at b mask p).body = cc in
    rw (l, seen-body)

-- ---- going from place to place

-- where a record is seen a frame stands
some-framed : (t : Table) (c : List ℕ) (rev mask p : ℕ) (es : List Entry) (s : Seen) (ss : List Seen) → walk t rev mask es (ahead t c p) ≡ given (s ∷ ss) → framed t (drop p c) ≡ true
unfolding walk
some-framed t c rev mask p es s ss e = by (framed t (drop p c)) refl
  where
    by : (x : Bool) → framed t (drop p c) ≡ x → framed t (drop p c) ≡ true
    by true f = f
    by false f =
        ⊎_elim
        (λ (l : p < length c). let h : refused 25 p ≡ given (s ∷ ss) = rw (ahead-bad t c p l f) at e in cc)
        (λ (l : length c ≤ p). let h : given [] ≡ given (s ∷ ss) = rw (ahead-end t c p l) at e in cc)
        (lt-or-le p (length c))

module _ (b : List ℕ) (mask : ℕ) where
  all_seen : (t : Table) → signed b ≡ some t → (ss : List Seen) (p : ℕ) (es : List Entry) → walk t (at b 8) mask es (ahead t (own b) p) ≡ given ss → ss ≡ seen_from b mask (length ss) p
  unfolding seen_from seen_at
  all_seen t q [] p es e = refl
  all_seen t q (s ∷ ss) p es e =
      let c = own b in
      let a = seen_as t (at b 8) mask p (record_at t c p) in
      let f = some-framed t c (at b 8) mask p es s ss e in
      let (us, fine, w, is) = walk_first t (at b 8) mask es p (record_at t c p) (ahead t c (next t c p)) (rw (ahead-next t c p f) at e) in
      let i : a ≡ s = cc in
      let j : us ≡ ss = cc in
      let h = all_seen t q ss (next t c p) (entry_of a ∷ es) (w ∙ rw j) in
      rw (q, ← i) (ap (λ (l : List Seen). a ∷ l) h)

  -- a table that is judged to be t is signed so
  pub signed-as : (t : Table) → judge_head b ≡ given t → signed b ≡ some t
  unfolding judge_head
  signed-as t e = by (ltb (length b) 36) e
    where
      by : (x : Bool) → pick x (refused 20 0) (and_then (or_refused 21 0 (signed b)) (λ u. unless (head_fault u b) 0 (given u))) ≡ given t → signed b ≡ some t
      by true e = cc
      by false e =
          let (u, o, f) = then-given (or_refused 21 0 (signed b)) (λ u. unless (head_fault u b) 0 (given u)) e in
          let g = (unless-given (head_fault u b) 0 (given u) f).1 in
          let z : u ≡ t = cc in
          or-given 21 0 (signed b) o ∙ rw z

  -- listing a table judges it once: its records are these
  pub all-records : {ss : List Seen} → accept b mask ≡ given ss → ss ≡ seen_from b mask (length ss) (first_place b)
  unfolding accept walked
  all-records {ss} e =
      let (t, h, w) = then-given (judge_head b) (λ t. walked t b mask) e in
      let q = signed-as t h in
      rw q (all_seen t q ss (front t) [] w)

  -- ---- record number n

  seen-nth : (k n p : ℕ) → n < k → get_elem? (seen_from b mask k p) n ≡ some (seen_at b mask (behind b n p))
  unfolding seen_from behind
  seen-nth zero n p l = absurd (omega arith)
  seen-nth (suc k) zero p l = refl
  seen-nth (suc k) (suc n) p l = seen-nth k n (p + length (body_at b p)) (omega arith)

  seen-past : (ss : List Seen) (n : ℕ) → length ss ≤ n → get_elem? ss n ≡ none
  seen-past [] n l = refl
  seen-past (s ∷ ss) zero l = absurd (omega arith)
  seen-past (s ∷ ss) (suc n) l = seen-past ss n (omega arith)

  module _ (count n : ℕ) (is : given count ≡ counted (accept b mask)) where
    abbrev asked : Seen
    asked = seen_at b mask (behind b n (first_place b))

    found : n < count → (ss : List Seen) × (accept b mask ≡ given ss) × (length ss ≡ count) × (get_elem? ss n ≡ some asked)
    found l =
        let (ss, a, h) = then-given (accept b mask) (λ ss. given (length ss)) (sym is) in
        let m : length ss ≡ count = cc in
        (ss, a, m, ap (λ (us : List Seen). get_elem? us n) (all-records a) ∙ seen-nth (length ss) n (first_place b) (omega arith))

    lacking : count ≤ n → (ss : List Seen) × (accept b mask ≡ given ss) × (length ss ≡ count) × (get_elem? ss n ≡ none)
    lacking l =
        let (ss, a, h) = then-given (accept b mask) (λ ss. given (length ss)) (sym is) in
        let m : length ss ≡ count = cc in
        (ss, a, m, seen-past ss n (omega arith))

    pub read_found : n < count → given (reading_of count asked) ≡ read b mask n
    unfolding read
    read_found l = let (ss, a, m, g) = found l in rw (a, g, m)

    pub read-lacks : count ≤ n → refused 28 count ≡ read b mask n
    unfolding read
    read-lacks l = let (ss, a, m, g) = lacking l in rw (a, g, m)

    pub part-found : n < count → part_of asked.row asked.body ≡ read_part b mask n
    unfolding read_part
    part-found l = let (ss, a, m, g) = found l in rw (a, g)

    pub part-lacks : count ≤ n → [] ≡ read_part b mask n
    unfolding read_part
    part-lacks l = let (ss, a, m, g) = lacking l in rw (a, g)

  module _ (k q n : ℕ) (is : refused k q ≡ counted (accept b mask)) where
    pub read-refused : refused k q ≡ read b mask n
    unfolding read
    read-refused = by (accept b mask) is
      where
        by : (w : Answer (List Seen)) → refused k q ≡ counted w → refused k q ≡ and_then w (λ ss. and_then (chosen ss n) (λ s. given (reading_of (length ss) s)))
        by (refused a c) e = cc
        by (given ss) e = cc

    pub part-refused : [] ≡ read_part b mask n
    unfolding read_part
    part-refused = by (accept b mask) is
      where
        by : (w : Answer (List Seen)) → refused k q ≡ counted w → [] ≡ of_given (λ s. part_of s.row s.body) (and_then w (λ ss. chosen ss n))
        by (refused a c) e = refl
        by (given ss) e = cc
