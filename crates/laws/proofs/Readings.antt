-- When reading gives each answer: one law for the frames at a place, and an induction over the records before the first faulty one.
use mathlib.Core.Path.{◌≡◌, refl, sym, ap, ◌∙◌}
use mathlib.Core.Logic.{◌↔◌, ◌⊎◌, inl, inr, ⊎_elim}
use Prim.Native.Nat.{ℕ, zero, suc, ◌+◌, ◌-◌, ◌≤◌, ◌<◌}
use mathlib.Core.List.{List, [], ◌∷◌, ◌++◌, append_assoc, append-nil}
use mathlib.Core.Bool.{Bool, true, false}
use mathlib.Core.Option.{Option, none, some}
use native.Mathlib.Omega.{arith}
use native.Mathlib.Nat.{add-zero, zero-add}
use lib.ListN.{length, take, drop, get_elem?, length-append, length-drop, drop_of_length-le}
use lib.Seq.{drop-drop}
use lib.Dec.{eqb, leb, ltb}
use borrow.Author.Tests.{eqb-true, eqb-false, ne_eqb, ltb-true, ltb-false}
use Rattle.format.specs.Bytes.{pick, both, Answer, refused, given, and_then, or_refused, at, part}
use Rattle.format.specs.Table.{Table, front, least}
use Rattle.format.specs.Row.{Row}
use Rattle.format.specs.Node.{Entry, entry, at_place}
use Rattle.format.specs.Read.{length_in, own, judge_head, type_in, size_in, framed, Frames, ended, bad_frame, framed_at, frames, record_fault, Seen, seen_as, entry_of, push, walk, walked, accept, Reading, reading, fields_of, part_of, chosen, reading_of, read, read_part}
use Rattle.laws.specs.Words.{FirstOf, NoneOf}
use Rattle.laws.specs.Demand1Read.{header_faults, size_at, body_at, Framed, body_faults, record_faults, Passes, start, next, Headed, Accepts, AtHeader, AtRecord, NoRecord, RowIs, Answers, EarnedRead, ExactlyAccept, ExactlyRead, OneRead}
use Rattle.laws.proofs.Walks.{least-pos}
use Rattle.laws.proofs.Finds.{All}
use Rattle.laws.proofs.Words.{Tests, tests-leb, tests-both, tests-as, first-in}
use Rattle.laws.proofs.Bytes.{length_part}
use Rattle.laws.proofs.Links.{Rising, front-pos}
use Rattle.laws.proofs.Trips as trips
use Rattle.laws.proofs.Good.{frames-first}
use Rattle.laws.proofs.Parts.{all-at, seen-part, part-refused}
use Rattle.laws.proofs.Tables.{past_end}
use Rattle.laws.proofs.Masks.{walk_first}
use Rattle.laws.proofs.Judges.{HeaderOutcome, header-outcome, header_is, header-not, row_in, row_is, body-none, body-first}

-- ---- the entries of the records seen, the newest first

abbrev pub onto : List Entry → List Seen → List Entry
onto es [] = es
onto es (s ∷ ss) = onto (entry_of s ∷ es) ss

onto-append : (es : List Entry) (ss : List Seen) (s : Seen) → onto es (ss ++ (s ∷ [])) ≡ entry_of s ∷ onto es ss
onto-append es [] s = refl
onto-append es (x ∷ ss) s = onto-append (entry_of x ∷ es) ss s

length-onto : (es : List Entry) (ss : List Seen) → length (onto es ss) ≡ length es + length ss
length-onto es [] = rw add-zero
length-onto es (s ∷ ss) = length-onto (entry_of s ∷ es) ss ∙ omega arith

pub onto-tail : (es : List Entry) (ss : List Seen) → (later : List Entry) × (onto es ss ≡ later ++ es)
onto-tail es [] = ([], refl)
onto-tail es (s ∷ ss) = let (later, e) = onto-tail (entry_of s ∷ es) ss in (later ++ (entry_of s ∷ []), e ∙ rw append_assoc)

-- record k has k records before it
onto-at : (es : List Entry) (ss : List Seen) (k : ℕ) (s : Seen) → get_elem? ss k ≡ some s
    → (later : List Entry) × (before : List Entry) × (onto es ss ≡ later ++ (entry_of s ∷ before)) × (length before ≡ length es + k)
onto-at es [] k s e = absurd (let z : ◌≡◌ {A = ℕ} 0 1 = cc in omega arith)
onto-at es (x ∷ ss) zero s e =
    let i : x ≡ s = cc in
    let (later, o) = onto-tail (entry_of x ∷ es) ss in
    (later, es, rw (← i) o, omega arith)
onto-at es (x ∷ ss) (suc k) s e =
    let (later, before, o, l) = onto-at (entry_of x ∷ es) ss k s e in
    (later, before, o, omega arith)

-- only one element has as many before it
split_one : {A : Type 0} (later later' : List A) (x x' : A) (before before' : List A) → later ++ (x ∷ before) ≡ later' ++ (x' ∷ before') → length before ≡ length before' → x ≡ x'
split_one [] [] x x' before before' e l = cc
split_one [] (y ∷ later') x x' before before' e l =
    let i : before ≡ later' ++ (x' ∷ before') = cc in
    absurd (omega (arith, simp length-append at (ap length i)))
split_one (y ∷ later) [] x x' before before' e l =
    let i : later ++ (x ∷ before) ≡ before' = cc in
    absurd (omega (arith, simp length-append at (ap length i)))
split_one (y ∷ later) (z ∷ later') x x' before before' e l =
    let i : later ++ (x ∷ before) ≡ later' ++ (x' ∷ before') = cc in
    split_one later later' x x' before before' i l

below-there : {A : Type 0} (xs : List A) (k : ℕ) → k < length xs → (x : A) × (get_elem? xs k ≡ some x)
below-there [] k l = absurd (omega arith)
below-there (x ∷ xs) zero l = (x, refl)
below-there (x ∷ xs) (suc k) l = below-there xs k (omega arith)

there-below : {A : Type 0} (xs : List A) (k : ℕ) → get_elem? xs k ≡ none → length xs ≤ k
there-below [] k e = omega arith
there-below (x ∷ xs) zero e = absurd (let z : ◌≡◌ {A = ℕ} 0 1 = cc in omega arith)
there-below (x ∷ xs) (suc k) e = omega (arith, there-below xs k e)

onto-back : (ss : List Seen) (k : ℕ) (later : List Entry) (e : Entry) (before : List Entry) → onto [] ss ≡ later ++ (e ∷ before) → length before ≡ k
    → (s : Seen) × (get_elem? ss k ≡ some s) × (entry_of s ≡ e)
onto-back ss k later e before o l =
    let n : length ss ≡ length later + suc (length before) = omega (arith, length-onto [] ss, simp length-append at (ap length o)) in
    let (s, h) = below-there ss k (omega arith) in
    let (later', before', o', l') = onto-at [] ss k s h in
    (s, h, split_one later' later (entry_of s) e before' before (sym o' ∙ o) (omega arith))

-- one record in front of those that a walk gives
push-then : (w : Answer (List Seen)) (s : Seen) (pre : List Seen) → and_then (push s w) (λ ss. given (pre ++ ss)) ≡ and_then w (λ ss. given ((pre ++ (s ∷ [])) ++ ss))
push-then (refused n p) s pre = refl
push-then (given ss) s pre = rw append_assoc

-- what is seen of a record: its type, and its row if that is known
abbrev pub Right : Table → ℕ → ℕ → Seen → Type 0
Right t rev mask s = (s.type ≡ type_in t s.body) × (s.row ≡ row_in t rev mask s.body)

walk-right : (t : Table) (rev mask : ℕ) (es : List Entry) (fs : Frames) (ss : List Seen) → walk t rev mask es fs ≡ given ss → All (Right t rev mask) ss
unfolding walk
walk-right t rev mask es ended ss e = let z : [] ≡ ss = cc in rw (← z) tt
walk-right t rev mask es (bad_frame p) ss e = absurd (let z : ◌≡◌ {A = ℕ} 0 1 = cc in omega arith)
walk-right t rev mask es (framed_at p bs fs) ss e =
    let (us, f, w, i) = walk_first t rev mask es p bs fs e in
    rw (← i) ((refl, refl), walk-right t rev mask (entry_of (seen_as t rev mask p bs) ∷ es) fs us w)

-- ---- the frames from a place on

frames-bad : (t : Table) (p : ℕ) (bs : List ℕ) → 0 < length bs → framed t bs ≡ false → frames t 0 p bs ≡ bad_frame p
unfolding frames
frames-bad t p [] l e = absurd (omega arith)
frames-bad t p (b ∷ bs) l e = rw e

frames-whole : (t : Table) (p : ℕ) (c : List ℕ) → 0 < length (drop p c) → 0 < size_in t (drop p c) → framed t (drop p c) ≡ true
    → frames t 0 p (drop p c) ≡ framed_at p (take (size_in t (drop p c)) (drop p c)) (frames t 0 (p + size_in t (drop p c)) (drop (p + size_in t (drop p c)) c))
frames-whole t p c l n e = frames-first t p (drop p c) l n ∙ rw (e, drop-drop (size_in t (drop p c)) p c)

module _ (t : Table) (b : List ℕ) (hd : Headed t b) where
  head : trips.Headed t b
  head = trips.judged b t (header_is b t hd)

  -- what is framed from p on
  rest : ℕ → Frames
  rest p = frames t 0 p (drop p (own b))

  rest_end : (p : ℕ) → length_in b ≤ p → rest p ≡ ended
  unfolding rest frames
  rest_end p l = rw (drop_of_length-le (own b) {i = p} (rw (trips.own-whole head) l))

  module _ (p : ℕ) (l : p < length_in b) where
    left : length (drop p (own b)) ≡ length_in b - p
    left = rw (length-drop, trips.own-whole head)

    tests-framed : Tests (framed t (drop p (own b))) (Framed t b p)
    unfolding framed
    tests-framed =
        let c = drop p (own b) in
        let n = size_in t c in
        let m = least t in
        rw left (tests-as (both (leb m (length_in b - p)) (both (leb m n) (leb n (length_in b - p))))
        (tests-both (leb m (length_in b - p)) (both (leb m n) (leb n (length_in b - p))) (tests-leb m (length_in b - p)) (tests-both (leb m n) (leb n (length_in b - p)) (tests-leb m n) (tests-leb n (length_in b - p))))
        (λ h. omega arith) (λ h. omega arith))

    -- it is framed, or not
    is_framed : ((framed t (drop p (own b)) ≡ true) × Framed t b p) ⊎ ((framed t (drop p (own b)) ≡ false) × (Framed t b p → ⊥))
    is_framed = by (framed t (drop p (own b))) refl
      where
        by : (x : Bool) → framed t (drop p (own b)) ≡ x → ((framed t (drop p (own b)) ≡ true) × Framed t b p) ⊎ ((framed t (drop p (own b)) ≡ false) × (Framed t b p → ⊥))
        by true e = inl (e, tests-framed.right e)
        by false e = inr (e, tests-framed.wrong e)

    rest-bad : (Framed t b p → ⊥) → rest p ≡ bad_frame p
    unfolding rest
    rest-bad h = ⊎_elim (λ k. absurd (h k.1)) (λ k. frames-bad t p (drop p (own b)) (rw left (omega arith)) k.0) is_framed

    rest-whole : Framed t b p → rest p ≡ framed_at p (body_at t b p) (rest (p + size_at t b p))
    unfolding rest part
    rest-whole h = ⊎_elim (λ k. frames-whole t p (own b) (rw left (omega arith)) (omega (arith, least-pos t)) k.0) (λ k. absurd (k.1 h)) is_framed

    body-long : Framed t b p → length (body_at t b p) ≡ size_at t b p
    body-long h = length_part (own b) p (size_at t b p) (rw (trips.own-whole head) h.1.1)

  -- ---- the walk from a place on

  module _ (mask : ℕ) where
    passes-within : {es : List Entry} {p : ℕ} → Passes t b mask es p → p ≤ length_in b
    passes-within start = head.long
    passes-within (next {es} {p} x l n) = ⊎_elim (λ k. k.1.1.1) (λ k. absurd (n.0 k.1)) (is_framed p l)

    passes-rise : {es : List Entry} {p : ℕ} → Passes t b mask es p → Rising p es
    passes-rise start = front-pos t
    passes-rise (next {es} {p} x l n) = ⊎_elim (λ k. (omega (arith, least-pos t, k.1.1.0), passes-rise x)) (λ k. absurd (n.0 k.1)) (is_framed p l)

    walk_from : List Entry → ℕ → Answer (List Seen)
    walk_from es p = walk t (at b 8) mask es (rest p)

    -- the record at p, as the reader sees it, and its entry
    seen : ℕ → Seen
    seen p = seen_as t (at b 8) mask p (body_at t b p)

    abbrev entry_at : ℕ → Entry
    entry_at p = entry p (type_in t (body_at t b p)) (size_at t b p)

    module _ (es : List Entry) (p : ℕ) (x : Passes t b mask es p) (l : p < length_in b) where
      walk-bad : (Framed t b p → ⊥) → walk_from es p ≡ refused 25 p
      unfolding walk_from walk
      walk-bad h = rw (rest-bad p l h)

      walk-faulty : (n : ℕ) → Framed t b p → FirstOf n (body_faults t (at b 8) mask es (body_at t b p)) → walk_from es p ≡ refused n p
      unfolding walk_from walk
      walk-faulty n h d =
          let z : 0 < n = first-in (λ n. 0 < n) (body_faults t (at b 8) mask es (body_at t b p)) n d (omega arith) in
          let e = (body-first t (at b 8) mask p es (passes-rise x) (body_at t b p) n z).1 d in
          ap (walk t (at b 8) mask es) (rest-whole p l h) ∙ rw (e, ne_eqb n 0 (λ i. omega arith))

      walk-framed : Framed t b p → NoneOf (body_faults t (at b 8) mask es (body_at t b p))
          → (walk_from es p ≡ push (seen p) (walk_from (entry_at p ∷ es) (p + size_at t b p))) × (entry_of (seen p) ≡ entry_at p)
      unfolding walk_from walk seen
      walk-framed h n =
          let e = (body-none t (at b 8) mask p es (passes-rise x) (body_at t b p)).1 n in
          let k = body-long p l h in
          (ap (walk t (at b 8) mask es) (rest-whole p l h) ∙ rw (e, k), rw k)

      walk-good : NoneOf (record_faults t b mask es p) → (walk_from es p ≡ push (seen p) (walk_from (entry_at p ∷ es) (p + size_at t b p))) × (entry_of (seen p) ≡ entry_at p)
      walk-good n = ⊎_elim (λ k. walk-framed k.1 n.1) (λ k. absurd (n.0 k.1)) (is_framed p l)

      walk-not : (n : ℕ) → FirstOf n (record_faults t b mask es p) → walk_from es p ≡ refused n p
      walk-not n d = by (eqb n 25) refl d
        where
          by : (c : Bool) → eqb n 25 ≡ c → pick c (Framed t b p → ⊥) (((Framed t b p → ⊥) → ⊥) × FirstOf n (body_faults t (at b 8) mask es (body_at t b p))) → walk_from es p ≡ refused n p
          by true e d = rw (eqb-true n 25 e) (walk-bad d)
          by false e d = ⊎_elim (λ k. walk-faulty n k.1 d.1) (λ k. absurd (d.0 k.1)) (is_framed p l)

    -- good records are passed
    passes-walk : {es : List Entry} {p : ℕ} → Passes t b mask es p → (pre : List Seen) × (onto [] pre ≡ es) × (walk_from [] (front t) ≡ and_then (walk_from es p) (λ ss. given (pre ++ ss)))
    passes-walk start = ([], refl, by (walk_from [] (front t)))
      where
        by : (w : Answer (List Seen)) → w ≡ and_then w (λ ss. given ss)
        by (refused n p) = refl
        by (given ss) = refl
    passes-walk (next {es} {p} x l n) =
        let (pre, o, e) = passes-walk x in
        let (w, i) = walk-good es p x l n in
        (pre ++ (seen p ∷ []), onto-append [] pre (seen p) ∙ rw (i, o), e ∙ (rw w (push-then (walk_from (entry_at p ∷ es) (p + size_at t b p)) (seen p) pre)))

    -- ---- what comes of the records from p on

    abbrev pub Outcome : List Entry → Answer (List Seen) → Type 0
    Outcome es (refused n p) = AtRecord n b mask p
    Outcome es (given ss) = Passes t b mask (onto es ss) (length_in b)

    push-outcome : (es : List Entry) (s : Seen) (e : Entry) → entry_of s ≡ e → (w : Answer (List Seen)) → Outcome (e ∷ es) w → Outcome es (push s w)
    push-outcome es s e i (refused n p) o = o
    push-outcome es s e i (given ss) o = rw i o

    module _ (es : List Entry) (p : ℕ) (x : Passes t b mask es p) where
      at-end : length_in b ≤ p → Outcome es (walk_from es p)
      unfolding walk_from walk
      at-end l =
          let e : p ≡ length_in b = omega (arith, passes-within x) in
          rw (rest_end p l) (rw e at x)

      module _ (l : p < length_in b) where
        at-record : (n : ℕ) → FirstOf n (record_faults t b mask es p) → Outcome es (walk_from es p)
        at-record n d = rw (walk-not es p x l n d) (t, es, hd, x, l, d)

        at-framed : Framed t b p → (NoneOf (record_faults t b mask es p) → Outcome es (walk_from es p)) → Outcome es (walk_from es p)
        at-framed h good = by (eqb n 0) refl
          where
            n : ℕ
            n = record_fault (at_place es) (row_in t (at b 8) mask (body_at t b p)) (body_at t b p)

            by : (c : Bool) → eqb n 0 ≡ c → Outcome es (walk_from es p)
            by true e = good (λ i. i h, (body-none t (at b 8) mask p es (passes-rise x) (body_at t b p)).0 (eqb-true n 0 e))
            by false e =
                let z : 0 < n = omega (arith, eqb-false n 0 e) in
                let d = (body-first t (at b 8) mask p es (passes-rise x) (body_at t b p) n z).0 refl in
                let m : 25 < n = first-in (λ n. 25 < n) (body_faults t (at b 8) mask es (body_at t b p)) n d (omega arith) in
                at-record n (rw (ne_eqb n 25 (λ i. omega arith)) (λ i. i h, d))

    -- j: as many bytes may be left
    outcome : (j : ℕ) (es : List Entry) (p : ℕ) → length_in b ≤ p + j → Passes t b mask es p → Outcome es (walk_from es p)
    outcome zero es p l x = at-end es p x (omega arith)
    outcome (suc j) es p l x = by (ltb p (length_in b)) refl (outcome j)
      where
        more : p < length_in b → ((es : List Entry) (p : ℕ) → length_in b ≤ p + j → Passes t b mask es p → Outcome es (walk_from es p)) → Outcome es (walk_from es p)
        more i ih = ⊎_elim (λ k. at-framed es p x i k.1 λ n. good k.1 n) (λ k. at-record es p x i 25 k.1) (is_framed p i)
          where
            good : Framed t b p → NoneOf (record_faults t b mask es p) → Outcome es (walk_from es p)
            good h n =
                let (w, e) = walk-good es p x i n in
                rw w (push-outcome es (seen p) (entry_at p) e (walk_from (entry_at p ∷ es) (p + size_at t b p)) (ih (entry_at p ∷ es) (p + size_at t b p) (omega (arith, least-pos t, h.1.0)) (next x i n)))

        by : (c : Bool) → ltb p (length_in b) ≡ c → ((es : List Entry) (p : ℕ) → length_in b ≤ p + j → Passes t b mask es p → Outcome es (walk_from es p)) → Outcome es (walk_from es p)
        by true e ih = more (ltb-true p (length_in b) e) ih
        by false e ih = at-end es p x (ltb-false p (length_in b) e)

-- ---- the whole table

pub header-number : (b : List ℕ) (n p : ℕ) → AtHeader n b p → (20 ≤ n) × (n ≤ 24)
header-number b n p a = first-in (λ n. (20 ≤ n) × (n ≤ 24)) (header_faults b) n a.0 (omega arith)

pub record-number : (b : List ℕ) (mask n p : ℕ) → AtRecord n b mask p → (25 ≤ n) × (n ≤ 27)
record-number b mask n p (t, es, hd, x, l, d) = first-in (λ n. (25 ≤ n) × (n ≤ 27)) (record_faults t b mask es p) n d (omega arith)

module _ (b : List ℕ) (mask : ℕ) where
  walked_from : (t : Table) (hd : Headed t b) → walked t b mask ≡ walk_from t b hd mask [] (front t)
  unfolding walked walk_from rest
  walked_from t hd = refl

  pub walked-outcome : (t : Table) (hd : Headed t b) → Outcome t b hd mask [] (walked t b mask)
  walked-outcome t hd = rw (walked_from t hd) (outcome t b hd mask (length_in b) [] (front t) (omega arith) start)

  -- the records of a table that is accepted
  pub walked-gives : (t : Table) (es : List Entry) → Accepts t b mask es → (ss : List Seen) × (onto [] ss ≡ es) × (walked t b mask ≡ given ss)
  unfolding walk_from walk
  walked-gives t es a =
      let hd = a.head in
      let (pre, o, e) = passes-walk t b hd mask a.passed in
      let z : walk_from t b hd mask es (length_in b) ≡ given [] = rw (rest_end t b hd (length_in b) (omega arith)) in
      (pre, o, walked_from t hd ∙ (e ∙ rw (z, append-nil)))

  pub walked-not : (n p : ℕ) → AtRecord n b mask p → (t : Table) × Headed t b × (walked t b mask ≡ refused n p)
  walked-not n p (t, es, hd, x, l, d) =
      let (pre, o, e) = passes-walk t b hd mask x in
      (t, hd, walked_from t hd ∙ (e ∙ rw (walk-not t b hd mask es p x l n d)))

  -- ---- accepting

  abbrev Refused : ℕ → ℕ → Type 0
  Refused n p = AtHeader n b p ⊎ AtRecord n b mask p

  abbrev Judged : Answer (List Seen) → Type 0
  Judged (refused n p) = Refused n p
  Judged (given ss) = (t : Table) × Accepts t b mask (onto [] ss)

  judged : Judged (accept b mask)
  unfolding accept
  judged = by (judge_head b) (header-outcome b)
    where
      record-judged : (t : Table) (hd : Headed t b) (w : Answer (List Seen)) → Outcome t b hd mask [] w → Judged w
      record-judged t hd (refused n p) o = inr o
      record-judged t hd (given ss) o = (t, record { head = hd; passed = o })

      by : (a : Answer Table) → HeaderOutcome b a → Judged (and_then a (λ t. walked t b mask))
      by (refused n p) o = inl o
      by (given t) hd = record-judged t hd (walked t b mask) (walked-outcome t hd)

  refuses : (n p : ℕ) → Refused n p → accept b mask ≡ refused n p
  unfolding accept
  refuses n p (inl a) = rw (header-not b n p a)
  refuses n p (inr c) = let (t, hd, e) = walked-not n p c in rw (header_is b t hd, e)

  gives : (t : Table) (es : List Entry) → Accepts t b mask es → (ss : List Seen) × (onto [] ss ≡ es) × (accept b mask ≡ given ss)
  unfolding accept
  gives t es a = let (ss, o, e) = walked-gives t es a in (ss, o, rw (header_is b t a.head, e))

  pub exactly-accept : ExactlyAccept b mask
  exactly-accept =
      record {
        faulty = λ n p. (λ e. rw e at judged, refuses n p);
        accepted = (λ (ss, e). (let (t, a) = accepted-as ss e in (t, onto [] ss, a)), λ (t, es, a). (let (ss, o, e) = gives t es a in (ss, e)));
      }
    where
      accepted-as : (ss : List Seen) → accept b mask ≡ given ss → (t : Table) × Accepts t b mask (onto [] ss)
      accepted-as ss e = rw e at judged

  pub accept-walked : (t : Table) → Headed t b → accept b mask ≡ walked t b mask
  unfolding accept
  accept-walked t hd = rw (header_is b t hd)

  pub walked-right : (t : Table) (ss : List Seen) → walked t b mask ≡ given ss → All (Right t (at b 8) mask) ss
  unfolding walked
  walked-right t ss e = walk-right t (at b 8) mask [] (frames t 0 (front t) (drop (front t) (own b))) ss e

  -- ---- reading record k

  module _ (k : ℕ) where
    module _ (t : Table) (ss : List Seen) (a : Accepts t b mask (onto [] ss)) (e : accept b mask ≡ given ss) (s : Seen) (h : get_elem? ss k ≡ some s) where
      its-bytes : s.body ≡ part b s.place (length s.body)
      its-bytes = seen-part b mask ss k s e h

      its-row : Right t (at b 8) mask s
      its-row = all-at (Right t (at b 8) mask) ss k (walked-right t ss (sym (accept-walked t a.head) ∙ e)) h

      answered : Answers b mask k (reading_of (length ss) s)
      answered =
          let (later, before, o, l) = onto-at [] ss k s h in
          let bs = part b s.place (length s.body) in
          let n : length ss ≡ length (later ++ (entry_of s ∷ before)) = omega (arith, length-onto [] ss, ap length o) in
          let y : row_in t (at b 8) mask bs ≡ s.row = rw its-bytes at (sym its-row.1) in
          record {
            table = t;
            later = later;
            one = entry_of s;
            before = before;
            accepted = rw o at a;
            number = omega arith;
            row = s.row;
            known = (row_is t (at b 8) mask bs s.row).0 y;
            shown = rw (n, ← its-bytes);
          }

    same_answer : (count : ℕ) (s : Seen) (one : Entry) (row : Option Row) → entry_of s ≡ one → s.row ≡ row → s.body ≡ part b s.place (length s.body)
        → reading_of count s ≡ reading count one.type one.offset one.length row (fields_of row (part b one.offset one.length))
    same_answer count s one row i z c = rw (← i, ← z, ← c)

    -- the record that an answer is on
    found : (a : Reading) (w : Answers b mask k a)
        → (ss : List Seen) × (s : Seen) × (accept b mask ≡ given ss) × (length ss ≡ length (w.later ++ (w.one ∷ w.before))) × (get_elem? ss k ≡ some s) × (entry_of s ≡ w.one) × (s.row ≡ w.row) × (s.body ≡ part b s.place (length s.body))
    found a w =
        let t = w.table in
        let (ss, o, e) = gives t (w.later ++ (w.one ∷ w.before)) w.accepted in
        let x : Accepts t b mask (onto [] ss) = rw o w.accepted in
        let (s, h, i) = onto-back ss k w.later w.one w.before o w.number in
        let n : length ss ≡ length (w.later ++ (w.one ∷ w.before)) = omega (arith, length-onto [] ss, ap length o) in
        let c : s.body ≡ part b s.place (length s.body) = its-bytes t ss x e s h in
        let y : RowIs t (at b 8) mask s.body w.row = rw (← i, ← c) at w.known in
        (ss, s, e, n, h, i, (its-row t ss x e s h).1 ∙ (row_is t (at b 8) mask s.body w.row).1 y, c)

    answers : (a : Reading) → Answers b mask k a → read b mask k ≡ given a
    unfolding read
    answers a w =
        let (ss, s, e, n, h, i, z, c) = found a w in
        rw (e, h) (ap given (same_answer (length ss) s w.one w.row i z c ∙ (rw n (sym w.shown))))

    same-part : (s : Seen) (one : Entry) (row : Option Row) → entry_of s ≡ one → s.row ≡ row → s.body ≡ part b s.place (length s.body)
        → part_of s.row s.body ≡ part_of row (part b one.offset one.length)
    same-part s one row i z c = rw (← i, ← z, ← c)

    list-is : (a : Reading) (w : Answers b mask k a) → read_part b mask k ≡ part_of w.row (part b w.one.offset w.one.length)
    unfolding read_part
    list-is a w =
        let (ss, s, e, n, h, i, z, c) = found a w in
        rw (e, h) (same-part s w.one w.row i z c)

    earned : EarnedRead b mask k (read b mask k)
    unfolding read
    earned = by (accept b mask) refl judged
      where
        one : (t : Table) (ss : List Seen) → Accepts t b mask (onto [] ss) → accept b mask ≡ given ss → (o : Option Seen) → get_elem? ss k ≡ o
            → EarnedRead b mask k (and_then (or_refused 28 (length ss) o) (λ s. given (reading_of (length ss) s)))
        one t ss a e none h =
            let l : length (onto [] ss) ≡ length ss = length-onto [] ss ∙ zero-add (length ss) in
            inr (inr (refl, (t, onto [] ss, a, rw l (there-below ss k h), sym l)))
        one t ss a e (some s) h = answered t ss a e s h

        by : (w : Answer (List Seen)) → accept b mask ≡ w → Judged w → EarnedRead b mask k (and_then w (λ ss. and_then (chosen ss k) (λ s. given (reading_of (length ss) s))))
        by (refused n p) e (inl a) = inl a
        by (refused n p) e (inr c) = inr (inl c)
        by (given ss) e (t, a) = one t ss a e (get_elem? ss k) refl

    only : (a : Answer Reading) → EarnedRead b mask k a → read b mask k ≡ a
    unfolding read
    only (refused n p) (inl a) = rw (refuses n p (inl a))
    only (refused n p) (inr (inl c)) = rw (refuses n p (inr c))
    only (refused n p) (inr (inr (i, (t, es, a, l, z)))) =
        let (ss, o, e) = gives t es a in
        let m : length ss ≡ length es = omega (arith, length-onto [] ss, ap length o) in
        rw (e, past_end ss k (rw m l), m, i, z)
    only (given a) w = answers a w

    -- ---- number by number

    when : (a : Answer Reading) → (read b mask k ≡ a) ↔ EarnedRead b mask k a
    when a = (λ e. rw e at earned, only a)

    of-header : (n p : ℕ) → n ≤ 24 → (read b mask k ≡ refused n p) ↔ AtHeader n b p
    of-header n p l = (λ e. by ((when (refused n p)).0 e), λ a. only (refused n p) (inl a))
      where
        by : EarnedRead b mask k (refused n p) → AtHeader n b p
        by (inl a) = a
        by (inr (inl c)) = absurd (omega (arith, record-number b mask n p c))
        by (inr (inr d)) = absurd (omega (arith, d.0))

    of-record : (n p : ℕ) → (25 ≤ n) × (n ≤ 27) → (read b mask k ≡ refused n p) ↔ AtRecord n b mask p
    of-record n p l = (λ e. by ((when (refused n p)).0 e), λ c. only (refused n p) (inr (inl c)))
      where
        by : EarnedRead b mask k (refused n p) → AtRecord n b mask p
        by (inl a) = absurd (omega (arith, header-number b n p a))
        by (inr (inl c)) = c
        by (inr (inr d)) = absurd (omega (arith, d.0))

    no_record_lem : (p : ℕ) → EarnedRead b mask k (refused 28 p) → NoRecord b mask k p
    no_record_lem p (inl a) = absurd (omega (arith, header-number b 28 p a))
    no_record_lem p (inr (inl c)) = absurd (omega (arith, record-number b mask 28 p c))
    no_record_lem p (inr (inr d)) = d.1

    pub exactly-read : ExactlyRead b mask k
    exactly-read =
        record {
          short = λ p. of-header 20 p (omega arith);
          bad_sign = λ p. of-header 21 p (omega arith);
          bad_length = λ p. of-header 22 p (omega arith);
          bad_sum = λ p. of-header 23 p (omega arith);
          bad_front = λ p. of-header 24 p (omega arith);
          bad_frame = λ p. of-record 25 p (omega arith);
          bad_record = λ p. of-record 26 p (omega arith);
          bad_ref = λ p. of-record 27 p (omega arith);
          no_record = λ p. (λ e. no_record_lem p ((when (refused 28 p)).0 e), λ d. only (refused 28 p) (inr (inr (refl, d))));
          answer = λ a. when (given a);
          list = list-is;
          empty = part-refused b mask k;
        }

    pub one-read : OneRead b mask k
    one-read = record { earned = earned; only = only }
