-- The round trips. What a recipe means is meant by its table and by its normal form; what a table means is meant by its recipe, and is this table's.
use mathlib.Core.Path.{◌≡◌, refl, sym, ap, ◌∙◌}
use Prim.Native.Nat.{ℕ, ◌+◌, ◌%◌, ◌≤◌, ◌<◌}
use mathlib.Core.List.{List, [], ◌∷◌, ◌++◌, append_assoc}
use mathlib.Core.Bool.{Bool, true, false, not}
use mathlib.Core.Option.{none, some}
use native.Mathlib.Omega.{arith}
use native.Mathlib.Nat.{add-zero}
use lib.ListN.{length, take, drop, length-drop, take-append-drop}
use lib.Seq.{length-take-le, drop-drop, drop-cons, take-take, get_or-take}
use lib.Dec.{eqb, leb, ltb}
use borrow.Author.Tests.{eqb-true, leb-true, not-false}
use Rattle.format.specs.Bytes.{pick, both, all, find, Bytes, at, le, value, part, sum, same, refused, given, and_then, or_refused, unless, unless_found}
use Rattle.format.specs.Layout.{width, lay, fields_with, fixed_ok}
use Rattle.format.specs.Table.{Table, pptt, srat, hmat, cedt, tables, sign, revision, tail, told, front, limit, head_of}
use Rattle.format.specs.Row.{is_retired}
use Rattle.format.specs.Node.{sizes, starts}
use Rattle.format.specs.Recipe.{Meaning, means, meaning}
use Rattle.format.specs.Normal.{recipe_of, normal}
use Rattle.format.specs.Build.{records, header, check_of, summed, table_from, length_of}
use Rattle.format.specs.Read.{signed, length_in, own, head_fault, judge_head, Seen, walked}
use Rattle.format.specs.Out.{every, nodes_from, old, head_in, out_of, meaning_of}
use Rattle.laws.proofs.Bytes.{le-value, bytes_take, bytes_drop, bytes-at, bytes-part, part-take, length_part}
use Rattle.laws.proofs.Checks.{derived}
use Rattle.laws.proofs.Finds.{found-test, none_first, then-given, or-given, unless-given, found-given}
use Rattle.laws.proofs.Words.{found_none}
use Rattle.laws.proofs.Lays.{both_true, lay-fields}
use Rattle.laws.proofs.Heads.{sum-header, length-records}
use Rattle.laws.proofs.Builds.{meaning-good}
use Rattle.laws.proofs.Settings.{meaning-back}
use Rattle.laws.proofs.Walks.{walk-found}

-- ---- from a recipe

pub normal-means : (r : List ℕ) (m : Meaning) → Bytes r → meaning r ≡ given m → meaning (recipe_of m) ≡ given m
normal-means r m b e =
    let x = meaning-good r m b e in
    let h = x.head in
    let y = meaning-back m.head.table m.head.identity m.nodes x.identity x.good x.short in
    rw (← h) at y

-- the normal form means the same
pub normal-same : (r : List ℕ) (m : Meaning) → Bytes r → meaning r ≡ given m → meaning (normal r) ≡ given m
unfolding normal
normal-same r m b e = rw e (normal-means r m b e)

-- ---- the header of an accepted table

pub same_true : (xs ys : List ℕ) → same xs ys ≡ true → xs ≡ ys
unfolding same
same_true [] [] e = refl
same_true [] (y ∷ ys) e = cc
same_true (x ∷ xs) [] e = cc
same_true (x ∷ xs) (y ∷ ys) e =
    let p = both_true (eqb x y) (same xs ys) e in
    let q = eqb-true x y p.0 in
    let s = same_true xs ys p.1 in
    cc

-- what a header has where none of 20 to 24 is given
pub record Headed (t : Table) (b : List ℕ) : Type 0 where
  pub signed : take 4 b ≡ sign t
  pub long : front t ≤ length_in b
  pub lent : length_in b ≤ length b
  pub short : length_in b ≤ limit
  pub summed : sum (own b) % 256 ≡ 0
  pub tailed : fixed_ok (tail t) (drop 36 b) ≡ true

pub judged : (b : List ℕ) (t : Table) → judge_head b ≡ given t → Headed t b
unfolding judge_head head_fault
judged b t e = by (ltb (length b) 36) e
  where
    by : (x : Bool) → pick x (refused 20 0) (and_then (or_refused 21 0 (signed b)) (λ u. unless (head_fault u b) 0 (given u))) ≡ given t → Headed t b
    by true e = absurd (let z : ◌≡◌ {A = ℕ} 0 1 = cc in omega arith)
    by false e =
        let (u, o, f) = then-given (or_refused 21 0 (signed b)) (λ u. unless (head_fault u b) 0 (given u)) e in
        let (z, g) = unless-given (head_fault u b) 0 (given u) f in
        let same-table : u ≡ t = cc in
        let s : find (λ u. same (take 4 b) (sign u)) tables ≡ some u = or-given 21 0 (signed b) o in
        let long = all (leb (front u) (length_in b) ∷ leb (length_in b) (length b) ∷ leb (length_in b) limit ∷ []) in
        let (x, (y, (w, end))) = none_first ((not long, 22) ∷ (not (eqb (sum (own b) % 256) 0), 23) ∷ (not (fixed_ok (tail u) (drop 36 b)), 24) ∷ []) (search arith) z in
        let p = both_true (leb (front u) (length_in b)) (both (leb (length_in b) (length b)) (leb (length_in b) limit)) (not-false _ x) in
        let q = both_true (leb (length_in b) (length b)) (leb (length_in b) limit) p.1 in
        let H : Headed u b = record {
          signed = same_true (take 4 b) (sign u) (found-test (λ u. same (take 4 b) (sign u)) tables u s);
          long = leb-true (front u) (length_in b) p.0;
          lent = leb-true (length_in b) (length b) q.0;
          short = leb-true (length_in b) limit q.1;
          summed = eqb-true (sum (own b) % 256) 0 (not-false _ y);
          tailed = not-false _ w;
        } in
        rw same-table at H

-- so all bytes are there that its length covers
pub own-whole : {t : Table} {b : List ℕ} → Headed t b → length (own b) ≡ length_in b
own-whole {t} {b} H = length-take-le (length_in b) b H.lent

pub front-is : (t : Table) → front t ≡ 36 + width (tail t)
unfolding width
front-is pptt = refl
front-is srat = refl
front-is hmat = refl
front-is cedt = refl

-- what follows the header is fixed, whatever the number of records
tail-laid : (t : Table) (n : ℕ) (bs : List ℕ) → Bytes bs → width (tail t) ≤ length bs → fixed_ok (tail t) bs ≡ true → lay (tail t) (told t n) ≡ take (width (tail t)) bs
unfolding fields_with
tail-laid pptt n bs h l e = lay-fields (tail pptt) bs h l e
tail-laid srat n bs h l e = lay-fields (tail srat) bs h l e
tail-laid hmat n bs h l e = lay-fields (tail hmat) bs h l e
tail-laid cedt n bs h l e = lay-fields (tail cedt) bs h l e

module _ (t : Table) (b : List ℕ) (h : Bytes b) (H : Headed t b) (n : ℕ) where
  at_least : 36 ≤ length_in b
  at_least = omega (arith, H.long, front-is t)

  length-is : part (own b) 4 4 ≡ le 4 (length_in b)
  length-is =
      let k : length (part b 4 4) ≡ 4 = length_part b 4 4 (omega (arith, H.lent, at_least)) in
      let e : le 4 (value (part b 4 4)) ≡ part b 4 4 = rw k at (le-value (part b 4 4) (bytes-part b 4 4 h)) in
      part-take b (length_in b) 4 4 (omega (arith, at_least)) ∙ sym e

  at-is : (i : ℕ) → i < 36 → at (own b) i ≡ at b i
  at-is i l = get_or-take (length_in b) b i 0 (omega (arith, at_least))

  tail-is : take (width (tail t)) (drop 36 (own b)) ≡ lay (tail t) (told t n)
  unfolding part
  tail-is =
      part-take b (length_in b) 36 (width (tail t)) (omega (arith, H.long, front-is t))
      ∙ sym (tail-laid t n (drop 36 b) (bytes_drop 36 b h) (simp length-drop (omega (arith, H.long, H.lent, front-is t))) H.tailed)

  -- the table is its header and its records
  apart : own b ≡ header (head_in t b) n (length_in b) (at b 9) ++ drop (front t) (own b)
  unfolding header part
  apart =
      let c = own b in
      let k : 36 ≤ length c = omega (arith, own-whole H, at_least) in
      let f = front-is t in
      let d36 : drop 36 c ≡ lay (tail t) (told t n) ++ drop (front t) c = sym (take-append-drop (width (tail t)) (drop 36 c)) ∙ rw (tail-is, drop-drop, ← f) in
      let d10 : drop 10 c ≡ part b 10 26 ++ drop 36 c = sym (take-append-drop 26 (drop 10 c)) ∙ rw (part-take b (length_in b) 10 26 at_least, drop-drop 26 10 c) in
      let d9 : drop 9 c ≡ at b 9 ∷ drop 10 c = drop-cons c 9 0 (omega arith) ∙ rw (at-is 9 (omega arith)) in
      let d8 : drop 8 c ≡ at b 8 ∷ drop 9 c = drop-cons c 8 0 (omega arith) ∙ rw (at-is 8 (omega arith)) in
      let d4 : drop 4 c ≡ le 4 (length_in b) ++ drop 8 c = sym (take-append-drop 4 (drop 4 c)) ∙ rw (length-is, drop-drop 4 4 c) in
      let d0 : c ≡ sign t ++ drop 4 c = sym (take-append-drop 4 c) ∙ rw (take-take 4 (length_in b) b (omega (arith, at_least)), H.signed) in
      d0 ∙ (ap (λ (l : List ℕ). sign t ++ l) (d4 ∙ ap (λ (l : List ℕ). le 4 (length_in b) ++ l) (d8 ∙ ap (λ (l : List ℕ). at b 8 ∷ l) (d9 ∙ ap (λ (l : List ℕ). at b 9 ∷ l) (d10 ∙ ap (λ (l : List ℕ). part b 10 26 ++ l) d36)))) ∙ simp append_assoc)

  rest-length : front t + length (drop (front t) (own b)) ≡ length_in b
  rest-length = rw (length-drop, own-whole H) (omega (arith, H.long))

  check-is : check_of (sum (header (head_in t b) n (length_in b) 0 ++ drop (front t) (own b))) ≡ at b 9
  check-is =
      let x = at b 9 in
      let s0 = sum (header (head_in t b) n (length_in b) 0 ++ drop (front t) (own b)) in
      let e : sum (own b) ≡ x + s0 = ap sum apart ∙ sum-header (head_in t b) n (length_in b) x (drop (front t) (own b)) in
      sym ((derived x s0 (bytes-at b 9 h)).0 (rw e at H.summed))

  -- what is built of the head and the records
  rebuilt : summed (head_in t b) n (drop (front t) (own b)) ≡ own b
  unfolding summed
  rebuilt = rw (rest-length, check-is) (sym apart)

-- ---- from a table

pub record Rebuilt (b : List ℕ) (m : Meaning) : Type 0 where
  pub table : table_from m ≡ own b
  pub length : length_of m ≡ length_in b
  pub means : meaning (recipe_of m) ≡ given m

out-given : (t : Table) (b : List ℕ) (ss : List Seen) (m : Meaning) → out_of t b ss ≡ given m → (at b 8 ≡ revision t) × (m.head ≡ head_in t b) × (nodes_from [] [] ss ≡ given m.nodes) × (old ss ≡ none)
unfolding out_of
out-given t b ss m e = by (eqb (at b 8) (revision t)) refl e
  where
    by : (x : Bool) → eqb (at b 8) (revision t) ≡ x → pick x (and_then (nodes_from [] [] ss) (λ ns. unless_found 32 (λ s. s.place) (old ss) (given (means (head_in t b) ns)))) (refused 30 8) ≡ given m
        → (at b 8 ≡ revision t) × (m.head ≡ head_in t b) × (nodes_from [] [] ss ≡ given m.nodes) × (old ss ≡ none)
    by false v e = absurd (let z : ◌≡◌ {A = ℕ} 0 1 = cc in omega arith)
    by true v e =
        let (ns, f, g) = then-given (nodes_from [] [] ss) (λ ns. unless_found 32 (λ s. s.place) (old ss) (given (means (head_in t b) ns))) e in
        let (z, d) = found-given 32 (λ (s : Seen). s.place) (old ss) (given (means (head_in t b) ns)) g in
        let y : means (head_in t b) ns ≡ m = cc in
        (eqb-true (at b 8) (revision t) v, rw (← y), rw (← y) f, z)

own-head : (t : Table) (b : List ℕ) → at b 8 ≡ revision t → head_in t b ≡ head_of t (part b 10 26)
own-head t b v = rw v

pub second-trip : (b : List ℕ) (m : Meaning) → Bytes b → meaning_of b ≡ given m → Rebuilt b m
unfolding meaning_of walked table_from records sizes starts old
second-trip b m h e =
    let (t, j, f) = then-given (judge_head b) (λ t. and_then (walked t b every) (out_of t b)) e in
    let (ss, w, o) = then-given (walked t b every) (out_of t b) f in
    let (v, hd, ns, fresh) = out-given t b ss m o in
    let H = judged b t j in
    let bs = drop (front t) (own b) in
    let n : front t + length bs ≡ length_in b = rest-length t b h H 0 in
    let R = walk-found t (at b 8) ss [] bs m.nodes tt (bytes_drop (front t) (own b) (bytes_take (length_in b) b h)) (omega (arith, H.short)) (rw add-zero w) ns (found_none (λ s. is_retired s.row) ss fresh) in
    let rs : records t m.nodes ≡ bs = R.1 in
    let z : front t + sizes m.nodes ≡ length_in b = rw (← length-records t m.nodes, rs) n in
    let i : head_in t b ≡ head_of t (part b 10 26) = own-head t b v in
    let k : length (part b 10 26) ≡ 26 = length_part b 10 26 (omega (arith, at_least t b h H 0, H.lent)) in
    let y = meaning-back t (part b 10 26) m.nodes k R.0 (omega (arith, H.short)) in
    record {
      table = rw (hd, rs) (rebuilt t b h H (length m.nodes));
      length = rw hd z;
      means = rw (← i, ← hd) at y;
    }
