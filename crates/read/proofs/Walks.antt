-- The laws that carry the loop over the records: a walk by places, each record judged by itself, gives the walk of the format.
use mathlib.Core.Path.{◌≡◌, refl, sym, ◌∙◌}
use Prim.Native.Nat.{ℕ, suc, ◌+◌, ◌≤◌, ◌<◌}
use mathlib.Core.List.{List, [], ◌∷◌}
use mathlib.Core.Bool.{Bool, true, false}
use mathlib.Core.Option.{Option, none, some}
use native.Mathlib.Omega.{arith}
use native.Mathlib.Nat.{zero-add, add-zero}
use lib.ListN.{length, drop}
use lib.Dec.{eqb}
use Rattle.format.specs.Bytes.{pick, Answer, refused, given, and_then, unless}
use Rattle.format.specs.Layout.{Item, fix, fld, two, to, or_none, arity, number, is_good, refs_good}
use Rattle.format.specs.Table.{Table, front}
use Rattle.format.specs.Form.{layout}
use Rattle.format.specs.Row.{Row, form_in, known, row_of}
use Rattle.format.specs.Node.{Entry, entry, at_place}
use Rattle.format.specs.Read.{type_in, framed, record_fault, Seen, seen_as, push, walk}
use Rattle.laws.proofs.Finds.{unless-given}
use Rattle.marks.specs.Marks.{noted, Every}
use Rattle.marks.proofs.Laws.{noted-keeps}
use Rattle.frames.specs.Frames.{ahead, frames_of, Passed, refers, record_in}
use Rattle.frames.proofs.Places.{framed_then, record_at, next, ahead-end, ahead-bad, ahead-next, room, Came, start, more, came-refers}
use Rattle.frames.proofs.Marks.{came-passed}
use Rattle.rows.specs.Rows.{sound_as}
use Rattle.read.specs.Places.{refs_in, judged_at, counted}
use Rattle.read.proofs.Refs.{fault-is}

-- ---- a record's fault depends on what its test says of each reference alone

module _ (ok ok' : ℕ → ℕ → Bool) (same : (v ty : ℕ) → ok v ty ≡ ok' v ty) where
  good-by : (i : Item) (x : ℕ) → is_good ok i x ≡ is_good ok' i x
  good-by (fix w v) x = refl
  good-by (fld w) x = refl
  good-by (two w k) x = refl
  good-by (to t) x = same x t
  good-by (or_none t) x = rw (same x t)

  refs-by : (is : List Item) (vs : List ℕ) → refs_good ok is vs ≡ refs_good ok' is vs
  unfolding refs_good
  refs-by [] vs = refl
  refs-by (i ∷ is) vs = rw (good-by i (number i vs), refs-by is (drop (arity i) vs))

  fault-by : (o : Option Row) (bs : List ℕ) → record_fault ok o bs ≡ record_fault ok' o bs
  unfolding record_fault
  fault-by none bs = refl
  fault-by (some r) bs = rw (refs-by (layout (form_in r bs)))

-- ---- the loop

module _ (t : Table) (c : List ℕ) (rev mask : ℕ) where
  abbrev fault : (ℕ → ℕ → Bool) → ℕ → ℕ
  fault ok p = record_fault ok (known mask (row_of t rev (type_in t (record_at t c p)) (record_at t c p))) (record_at t c p)

  -- a record that is passed has a frame, and the next place is behind it
  pub judged-given : (p q : ℕ) → judged_at t c rev mask p ≡ given q → (framed t (drop p c) ≡ true) × (q ≡ next t c p)
  unfolding judged_at
  judged-given p q e = by (framed t (drop p c)) refl e
    where
      by : (x : Bool) → framed t (drop p c) ≡ x → pick x (unless (fault (refers t c p) p) p (given (p + length (record_at t c p)))) (refused 25 p) ≡ given q
          → (framed t (drop p c) ≡ true) × (q ≡ next t c p)
      by true f e =
          let h : given (p + length (record_at t c p)) ≡ given q = (unless-given (fault (refers t c p) p) p (given (p + length (record_at t c p))) e).1 in
          (f, cc)
      by false f e = absurd (let z : ◌≡◌ {A = ℕ} 0 1 = cc in omega arith)

  -- the judgement of the record bs, of the row o, at the front of what stands from p on, by its tests
  pub judged-by : (p : ℕ) (s bs : List ℕ) (m o : Option Row) (x y z : Bool) → s ≡ drop p c → bs ≡ record_in t s → m ≡ row_of t rev (type_in t bs) bs → o ≡ known mask m
      → x ≡ framed t s → y ≡ sound_as o bs → z ≡ refs_in (refers t c p) o bs
      → judged_at t c rev mask p ≡ pick x (pick y (pick z (given (p + length bs)) (refused 27 p)) (refused 26 p)) (refused 25 p)
  unfolding judged_at
  judged-by p s bs m o x y z e i r k u v w = rw (← e, ← i, ← r, ← k, fault-is (refers t c p) o bs, ← u, ← v, ← w) (by x y z)
    where
      by : (x y z : Bool) → pick x (unless (pick y (pick z 0 27) 26) p (given (p + length bs))) (refused 25 p)
          ≡ pick x (pick y (pick z (given (p + length bs)) (refused 27 p)) (refused 26 p)) (refused 25 p)
      by false y z = refl
      by true false z = refl
      by true true false = refl
      by true true true = refl

  -- what is still to come from p, with these records before
  abbrev rest : List Entry → ℕ → Answer (List Seen)
  rest es p = walk t rev mask es (ahead t c p)

  -- the record at p, and what is to come from q on
  abbrev onward : List Entry → ℕ → ℕ → Answer (List Seen)
  onward es p q = push (seen_as t rev mask p (record_at t c p)) (rest (entry p (type_in t (record_at t c p)) (length (record_at t c p)) ∷ es) q)

  unless-then : (k p q : ℕ) (f : ℕ → Answer (List Seen)) → unless k p (f q) ≡ and_then (unless k p (given q)) f
  unless-then k p q f = by (eqb k 0)
    where
      by : (x : Bool) → pick x (f q) (refused k p) ≡ and_then (pick x (given q) (refused k p)) f
      by true = refl
      by false = refl

  -- one record is judged, and then those behind it
  pub step : (p : ℕ) (es : List Entry) → Came t c p es → p < length c → rest es p ≡ and_then (judged_at t c rev mask p) (onward es p)
  unfolding judged_at walk
  step p es w l = by (framed t (drop p c)) refl
    where
      by : (x : Bool) → framed t (drop p c) ≡ x → rest es p ≡ and_then (pick x (unless (fault (refers t c p) p) p (given (p + length (record_at t c p)))) (refused 25 p)) (onward es p)
      by false f = rw (ahead-bad t c p l f)
      by true f =
          rw (ahead-next t c p f, fault-by (at_place es) (refers t c p) (λ v ty. came-refers t c v ty w) _ (record_at t c p))
          (unless-then (fault (refers t c p) p) p (next t c p) (onward es p))

  -- the number of all records
  abbrev pub Whole : Answer ℕ
  Whole = counted (walk t rev mask [] (frames_of t c))

  -- n records, and those of w behind them
  abbrev plus : ℕ → Answer (List Seen) → Answer ℕ
  plus n w = and_then w (λ ss. given (n + length ss))

  plus-push : (n : ℕ) (s : Seen) (w : Answer (List Seen)) → plus n (push s w) ≡ plus (n + 1) w
  plus-push n s (refused k p) = refl
  plus-push n s (given ss) = let e : n + suc (length ss) ≡ n + 1 + length ss = omega arith in rw e

  -- the loop has come to p, past n records
  abbrev pub Scanning : ℕ → ℕ → Type 0
  Scanning p n = (es : List Entry) × Came t c p es × (n ≡ length es) × (Whole ≡ plus n (rest es p))

  pub scan-first : Scanning (front t) 0
  scan-first = ([], start, refl, by (walk t rev mask [] (frames_of t c)))
    where
      by : (w : Answer (List Seen)) → counted w ≡ plus 0 w
      by (refused k p) = refl
      by (given ss) = rw zero-add

  module _ (p n : ℕ) (came : Scanning p n) where
    -- where the loop is can be marked
    scan-passed : Passed t c (record { nodes = n; place = p })
    scan-passed = rw came.2 (came-passed t c came.1)

    pub scan-noted : (shift key : ℕ) (ms ms' : List ℕ) → p < 4294967296 → ms' ≡ noted (record { nodes = n; place = p }) shift key ms → Every (Passed t c) ms → Every (Passed t c) ms'
    scan-noted shift key ms ms' l e h = rw e (noted-keeps (Passed t c) (record { nodes = n; place = p }) shift key ms l scan-passed h)

    pub scan-end : length c ≤ p → given n ≡ Whole
    unfolding walk
    scan-end l = sym (came.3 ∙ rw (ahead-end t c p l, add-zero))

    module _ (l : p < length c) where
      pub scan-bad : (k q : ℕ) → refused k q ≡ judged_at t c rev mask p → refused k q ≡ Whole
      scan-bad k q e = sym (came.3 ∙ rw (step p came.0 came.1 l, ← e))

      pub scan-moves : (q : ℕ) → given q ≡ judged_at t c rev mask p → (p < q) × (q ≤ length c)
      scan-moves q e =
          let (f, z) = judged-given p q (sym e) in
          let F = framed_then t (drop p c) f in
          (omega (arith, F.some, F.long), omega (arith, (room t c p f).1))

      pub scan-next : (q : ℕ) → given q ≡ judged_at t c rev mask p → Scanning q (n + 1)
      scan-next q e =
          let (f, z) = judged-given p q (sym e) in
          let es : List Entry = entry p (type_in t (record_at t c p)) (length (record_at t c p)) ∷ came.0 in
          (es, rw z (more came.1 f), omega (arith, came.2), came.3 ∙ rw (step p came.0 came.1 l, ← e) (plus-push n (seen_as t rev mask p (record_at t c p)) (rest es q)))
