-- When build gives each answer: one law for cutting at a place, and an induction over the records before the first faulty one.
use mathlib.Core.Path.{◌≡◌, refl, sym, ap, ◌∙◌}
use mathlib.Core.Logic.{◌↔◌, ◌⊎◌, inl, inr, ⊎_elim}
use Prim.Native.Nat.{ℕ, zero, suc, ◌+◌, ◌≤◌, ◌<◌}
use mathlib.Core.List.{List, [], ◌∷◌}
use mathlib.Core.Bool.{Bool, true, false, not}
use mathlib.Core.Option.{Option, none, some}
use native.Mathlib.Omega.{arith}
use lib.ListN.{length, drop, length-drop, drop_of_length-le, get_or-eq_default}
use lib.Seq.{drop-cons, drop-drop}
use lib.Dec.{eqb, ltb}
use borrow.Author.Tests.{eqb-true, eqb-false, ne_eqb, le-ltb, lt-ltb, ltb-true, ltb-false}
use Rattle.format.specs.Bytes.{pick, first_of, Answer, refused, given, and_then, or_refused, unless, at, part}
use Rattle.format.specs.Layout.{width}
use Rattle.format.specs.Table.{Table, pptt, srat, hmat, cedt, tables, code, Head, head_of}
use Rattle.format.specs.Node.{Node}
use Rattle.format.specs.Form.{Width, byte}
use Rattle.format.specs.Kind.{Kind, WindowTarget, kind_of, no_kind, body, part_in, width_behind}
use Rattle.format.specs.Recipe.{Calls, done, bad_kind, cut_off, called, cut_as, skip, cut, newest, added, fault, lacking, Meaning, means, run, table_of, headed, meaning}
use Rattle.format.specs.Build.{length_of, fitting, build}
use Rattle.laws.specs.Words.{FirstOf, NoneOf}
use Rattle.laws.specs.Demand1.{Belongs, joins, made_at, Lacks, Ready, head_faults, record_faults, fields_at, end_of, Where, faults, Headed, OfKind, Reaches, start, next, Comes, Says, AtHead, BadKind, RetiredKind, NoKind, AtRecord, Incomplete, NoRoom, Earned, Exactly, One}
use Rattle.laws.proofs.Finds.{found-test}
use Rattle.laws.proofs.Calls.{cut-skip}
use Rattle.laws.proofs.Settings.{table-back}
use Rattle.laws.proofs.Grows.{passed, suited}
use Rattle.laws.proofs.Words.{found_none, first_one, first-none, Numbers, first-in}
use Rattle.laws.proofs.Faults.{kind-then, no_kind_lem, bad-none, retired-none, kind-is, Follows, follows_next, since-made_at, decided, faultless, faulty, fault-where, fault-place}

-- ---- cutting at a place

module _ (t : Table) (r : List ℕ) (p : ℕ) where
  -- what is cut from p on
  rest : Calls
  rest = cut t 0 p (drop p r)

  rest_end : length r ≤ p → rest ≡ done
  unfolding rest cut
  rest_end l = rw (drop_of_length-le r l)

  rest-here : (o : Option Kind) → kind_of t (at r p) ≡ o → p < length r → rest ≡ cut_as o (no_kind t (at r p)) (drop (suc p) r) p (cut t 0 (suc p + skip o) (drop (suc p + skip o) r))
  unfolding rest cut
  rest-here o e l = rw (drop-cons r p 0 l, e, cut-skip t (skip o) (suc p) (drop (suc p) r), drop-drop (skip o) (suc p) r)

  rest-bad : p < length r → kind_of t (at r p) ≡ none → rest ≡ bad_kind (no_kind t (at r p)) p
  unfolding cut_as
  rest-bad l e = rest-here none e l

  module _ (k : Kind) (o : OfKind t (at r p) k) where
    rest-cut : p < length r → length r < end_of p k → rest ≡ cut_off p k
    unfolding cut_as
    rest-cut l h =
        let d : length (drop (suc p) r) < width (body k) = rw length-drop (omega arith) in
        rest-here (some k) (kind-is t (at r p) k o) l ∙ rw (lt-ltb (length (drop (suc p) r)) (width (body k)) d)

    rest-whole : p < length r → (length r < end_of p k → ⊥) → rest ≡ called p k (fields_at r p k) (cut t 0 (end_of p k) (drop (end_of p k) r))
    unfolding cut_as
    rest-whole l h =
        let d : width (body k) ≤ length (drop (suc p) r) = rw length-drop (omega arith) in
        rest-here (some k) (kind-is t (at r p) k o) l ∙ rw (le-ltb (length (drop (suc p) r)) (width (body k)) d)

-- a kind byte stands in the recipe
is-here : (t : Table) (r : List ℕ) (p : ℕ) → Belongs t (at r p) → p < length r
is-here t r p h = by (ltb p (length r)) refl
  where
    zero-none : (t : Table) (b : ℕ) → b ≡ 0 → Belongs t b → ⊥
    zero-none pptt b z h = omega arith
    zero-none srat b z h = omega arith
    zero-none hmat b z h = omega arith
    zero-none cedt b z h = omega arith

    by : (x : Bool) → ltb p (length r) ≡ x → p < length r
    by true e = ltb-true p (length r) e
    by false e = absurd (zero-none t (at r p) (get_or-eq_default r 0 (ltb-false p (length r) e)) h)

-- past the end stands no kind
past-none : (t : Table) (r : List ℕ) (p : ℕ) → length r ≤ p → kind_of t (at r p) ≡ none
unfolding kind_of
past-none t r p l = rw (get_or-eq_default r 0 l) (by t)
  where
    by : (t : Table) → kind_of t 0 ≡ none
    by pptt = refl
    by srat = refl
    by hmat = refl
    by cedt = refl

-- ---- the records before a place

-- how wide the newest matrix's counts are written
reach-width : {t : Table} {r : List ℕ} {q w p : ℕ} {ns : List Node} → Reaches t r q w ns p → Width
reach-width start = byte
reach-width (next x y k o n) = width_behind (part_in k) (reach-width x)

module _ (t : Table) (r : List ℕ) (hd : Headed t r) where
  reach-follows : {q w p : ℕ} {ns : List Node} (x : Reaches t r q w ns p) → Follows (reach-width x) (newest ns) (at r q)
  unfolding reach-width
  reach-follows start = rw hd.0 (omega arith)
  reach-follows (next {q} {w} {p} {ns} x y k o n) =
      let vs = fields_at r p k in
      let u = reach-width x in
      let z = (faultless t u (at r q) ns k vs (reach-follows x)).1 n.1 in
      rw o.1 (follows_next u k vs ns (rw ((passed t u ns k vs z).place, suited t u ns k vs z)))

  reach-within : {q w p : ℕ} {ns : List Node} → Reaches t r q w ns p → p ≤ length r
  reach-within start = hd.1
  reach-within (next {q} {w} {p} x y k o n) = by (ltb (length r) (end_of p k)) refl
    where
      by : (y : Bool) → ltb (length r) (end_of p k) ≡ y → end_of p k ≤ length r
      by true e = absurd (n.0 (ltb-true (length r) (end_of p k) e))
      by false e = ltb-false (length r) (end_of p k) e

-- what a recipe is refused for behind its head
abbrev Faulted : List ℕ → ℕ → ℕ → Type 0
Faulted r n p = NoKind n r p ⊎ (AtRecord n r p ⊎ ((n ≡ 11) × Incomplete r p))

-- what comes of a recipe with the head h
abbrev Outcome : Head → List ℕ → Answer Meaning → Type 0
Outcome h r (refused n p) = Faulted r n p
Outcome h r (given m) = (h ≡ m.head) × ((q : ℕ) × (w : ℕ) × Reaches h.table r q w m.nodes (length r)) × (Lacks (newest m.nodes) → ⊥)

module _ (h : Head) (r : List ℕ) (hd : Headed h.table r) where
  -- ---- one record more

  -- what stands at p, if anything, comes too early
  run-early : (w : ℕ) (u : Width) (ns : List Node) (p : ℕ) → lacking (newest ns) (kind_of h.table (at r p)) ≡ 11 → run h w u ns (rest h.table r p) ≡ refused 11 w
  unfolding run cut_as
  run-early w u ns p e = by (ltb p (length r)) refl (kind_of h.table (at r p)) refl
    where
      cut-or-called : (k : Kind) (cs : Calls) (x : Bool) → lacking (newest ns) (some k) ≡ 11 → run h w u ns (pick x (cut_off p k) (called p k (fields_at r p k) cs)) ≡ refused 11 w
      cut-or-called k cs true e = rw e
      cut-or-called k cs false e = rw e

      by : (x : Bool) → ltb p (length r) ≡ x → (o : Option Kind) → kind_of h.table (at r p) ≡ o → run h w u ns (rest h.table r p) ≡ refused 11 w
      by false q o i =
          let l = ltb-false p (length r) q in
          let z : lacking (newest ns) none ≡ 11 = rw (past-none h.table r p l) at e in
          rw (rest_end h.table r p l, z)
      by true q none i =
          let z : lacking (newest ns) none ≡ 11 = rw i at e in
          rw (rest-here h.table r p none i (ltb-true p (length r) q), z)
      by true q (some k) i =
          let z : lacking (newest ns) (some k) ≡ 11 = rw i at e in
          rw (rest-here h.table r p (some k) i (ltb-true p (length r) q)) (cut-or-called k (cut h.table 0 (end_of p k) (drop (end_of p k) r)) (ltb (length (drop (suc p) r)) (width (body k))) z)

  -- what stands at p may come there
  ready-none : (ns : List Node) (p : ℕ) → Ready h.table r ns p → lacking (newest ns) (kind_of h.table (at r p)) ≡ 0
  ready-none ns p y = ⊎_elim (λ d. d.0) (λ d. absurd (d.1 y)) (decided ns h.table (at r p))

  not-ready : (ns : List Node) (p : ℕ) → (Ready h.table r ns p → ⊥) → lacking (newest ns) (kind_of h.table (at r p)) ≡ 11
  not-ready ns p n = ⊎_elim (λ d. absurd (n d.1)) (λ d. d.0) (decided ns h.table (at r p))

  module _ (q w p : ℕ) (ns : List Node) (x : Reaches h.table r q w ns p) (y : Ready h.table r ns p) where
    run-bad : p < length r → kind_of h.table (at r p) ≡ none → run h w (reach-width x) ns (rest h.table r p) ≡ refused (no_kind h.table (at r p)) p
    unfolding run
    run-bad l e = rw (rest-bad h.table r p l e, rw e at (ready-none ns p y))

    module _ (k : Kind) (o : OfKind h.table (at r p) k) where
      l : p < length r
      l = is-here h.table r p o.0

      f : Follows (reach-width x) (newest ns) (at r q)
      f = reach-follows h.table r hd x

      free : lacking (newest ns) (some k) ≡ 0
      free = rw (kind-is h.table (at r p) k o) at (ready-none ns p y)

      run-good : NoneOf (faults h.table r q ns p k)
          → run h w (reach-width x) ns (rest h.table r p) ≡ run h (made_at (joins k) p w) (width_behind (part_in k) (reach-width x)) (added k (fields_at r p k) ns) (rest h.table r (end_of p k))
      unfolding run rest
      run-good n =
          let z = (faultless h.table (reach-width x) (at r q) ns k (fields_at r p k) f).1 n.1 in
          let m = since-made_at k (fields_at r p k) ns p w (passed h.table (reach-width x) ns k (fields_at r p k) z).place in
          ap (run h w (reach-width x) ns) (rest-whole h.table r p k o l n.0) ∙ rw (free, z, m)

      run-cut : length r < end_of p k → run h w (reach-width x) ns (rest h.table r p) ≡ refused 3 p
      unfolding run
      run-cut c = rw (rest-cut h.table r p k o l c, free)

      run-whole : (m place : ℕ) → (length r < end_of p k → ⊥) → FirstOf m (record_faults h.table (at r q) ns k (fields_at r p k)) → Where m ns k (fields_at r p k) p place
          → run h w (reach-width x) ns (rest h.table r p) ≡ refused m place
      unfolding run rest
      run-whole m place c d u =
          let z : 0 < m = first-in (λ n. 0 < n) (record_faults h.table (at r q) ns k (fields_at r p k)) m d (omega arith) in
          let e : fault h.table (reach-width x) ns k (fields_at r p k) ≡ m = (faulty h.table (reach-width x) (at r q) ns k (fields_at r p k) f m z).1 d in
          ap (run h w (reach-width x) ns) (rest-whole h.table r p k o l c) ∙ rw (free, e, ne_eqb m 0 (λ i. omega arith), fault-place h.table (reach-width x) (at r q) ns k (fields_at r p k) f m p place d u)

      run-faulty : (m place : ℕ) → FirstOf m (faults h.table r q ns p k) → Where m ns k (fields_at r p k) p place → run h w (reach-width x) ns (rest h.table r p) ≡ refused m place
      run-faulty m place d u = by (eqb m 3) refl d
        where
          by : (c : Bool) → eqb m 3 ≡ c → pick c (length r < end_of p k) ((length r < end_of p k → ⊥) × FirstOf m (record_faults h.table (at r q) ns k (fields_at r p k)))
              → run h w (reach-width x) ns (rest h.table r p) ≡ refused m place
          by true e d =
              let i = eqb-true m 3 e in
              let z : place ≡ p = rw i at u in
              rw (i, z) (run-cut d)
          by false e d = run-whole m place d.0 d.1 u

  -- good records are passed
  reach-run : {q w p : ℕ} {ns : List Node} (x : Reaches h.table r q w ns p) → run h 0 byte [] (rest h.table r 28) ≡ run h w (reach-width x) ns (rest h.table r p)
  unfolding reach-width
  reach-run start = refl
  reach-run (next {q} {w} {p} {ns} x y k o n) = reach-run x ∙ run-good q w p ns x y k o n

  -- ---- what comes of the records from p on

  module _ (q w p : ℕ) (ns : List Node) (x : Reaches h.table r q w ns p) where
    at-early : (Ready h.table r ns p → ⊥) → Outcome h r (run h w (reach-width x) ns (rest h.table r p))
    at-early n = rw (run-early w (reach-width x) ns p (not-ready ns p n)) (inr (inr (refl, (h.table, q, ns, p, hd, x, n))))

    module _ (y : Ready h.table r ns p) where
      at-end : length r ≤ p → Outcome h r (run h w (reach-width x) ns (rest h.table r p))
      unfolding run
      at-end l =
          let e : p ≡ length r = omega (arith, reach-within h.table r hd x) in
          let n = past-none h.table r p l in
          let free : lacking (newest ns) none ≡ 0 = rw n at (ready-none ns p y) in
          rw (rest_end h.table r p l, free) (refl, (q, w, rw e at x), λ i. (let k = kind-is h.table (at r p) WindowTarget (y i) in let z : ◌≡◌ {A = ℕ} 0 1 = cc in omega arith))

      module _ (l : p < length r) where
        here : Comes h.table r q w ns p
        here = record { head = hd; reached = x; here = l; ready = y }

        at-record : (k : Kind) → OfKind h.table (at r p) k → (n place : ℕ) → FirstOf n (faults h.table r q ns p k) → Where n ns k (fields_at r p k) p place
            → Outcome h r (run h w (reach-width x) ns (rest h.table r p))
        at-record k o n place d u = rw (run-faulty q w p ns x y k o n place d u) (inr (inl (h.table, q, w, ns, p, k, here, o, d, u)))

        -- a whole record has a first fault, or none
        at-whole : (k : Kind) → OfKind h.table (at r p) k → (length r < end_of p k → ⊥)
            → (NoneOf (faults h.table r q ns p k) → Outcome h r (run h w (reach-width x) ns (rest h.table r p))) → Outcome h r (run h w (reach-width x) ns (rest h.table r p))
        at-whole k o c good = by (eqb n 0) refl
          where
            n : ℕ
            n = fault h.table (reach-width x) ns k (fields_at r p k)

            f : Follows (reach-width x) (newest ns) (at r q)
            f = reach-follows h.table r hd x

            by : (b : Bool) → eqb n 0 ≡ b → Outcome h r (run h w (reach-width x) ns (rest h.table r p))
            by true e = good (c, (faultless h.table (reach-width x) (at r q) ns k (fields_at r p k) f).0 (eqb-true n 0 e))
            by false e =
                let z : 0 < n = omega (arith, eqb-false n 0 e) in
                let d = (faulty h.table (reach-width x) (at r q) ns k (fields_at r p k) f n z).0 refl in
                let m : 3 < n = first-in (λ n. 3 < n) (record_faults h.table (at r q) ns k (fields_at r p k)) n d (omega arith) in
                at-record k o n _ (rw (ne_eqb n 3 (λ i. omega arith)) (c, d)) (fault-where h.table (reach-width x) (at r q) ns k (fields_at r p k) f n p d)

        at-kind : (k : Kind) → OfKind h.table (at r p) k
            → (NoneOf (faults h.table r q ns p k) → Outcome h r (run h w (reach-width x) ns (rest h.table r p))) → Outcome h r (run h w (reach-width x) ns (rest h.table r p))
        at-kind k o good = by (ltb (length r) (end_of p k)) refl
          where
            by : (c : Bool) → ltb (length r) (end_of p k) ≡ c → Outcome h r (run h w (reach-width x) ns (rest h.table r p))
            by true e = at-record k o 3 p (ltb-true (length r) (end_of p k) e) refl
            by false e = at-whole k o (λ i. omega (arith, ltb-false (length r) (end_of p k) e)) good

  -- it may come there, or not
  is-ready : (ns : List Node) (p : ℕ) → Ready h.table r ns p ⊎ (Ready h.table r ns p → ⊥)
  is-ready ns p = ⊎_elim (λ d. inl d.1) (λ d. inr d.1) (decided ns h.table (at r p))

  abbrev From : ℕ → Type 0
  From j = (q w p : ℕ) (ns : List Node) → length r ≤ p + j → (x : Reaches h.table r q w ns p) → Outcome h r (run h w (reach-width x) ns (rest h.table r p))

  -- j: as many bytes may be left
  outcome : (j : ℕ) → From j
  unfolding reach-width
  outcome zero q w p ns l x = ⊎_elim (λ y. at-end q w p ns x y (omega arith)) (at-early q w p ns x) (is-ready ns p)
  outcome (suc j) q w p ns l x = ⊎_elim (λ y. by y (ltb p (length r)) refl (outcome j)) (at-early q w p ns x) (is-ready ns p)
    where
      kind : Ready h.table r ns p → p < length r → From j → (o : Option Kind) → kind_of h.table (at r p) ≡ o → Outcome h r (run h w (reach-width x) ns (rest h.table r p))
      kind y i ih none e =
          let c = here q w p ns x y i in
          rw (run-bad q w p ns x y i e) (inl (⊎_elim (λ d. inl (d.0, (h.table, q, w, ns, c, d.1))) (λ d. inr (d.0, (h.table, q, w, ns, c, d.1))) (no_kind_lem h.table (at r p) e)))
      kind y i ih (some k) e =
          let o = kind-then h.table (at r p) k e in
          at-kind q w p ns x y i k o λ n.
          rw (run-good q w p ns x y k o n) (ih p (made_at (joins k) p w) (end_of p k) (added k (fields_at r p k) ns) (omega arith) (next x y k o n))

      by : Ready h.table r ns p → (c : Bool) → ltb p (length r) ≡ c → From j → Outcome h r (run h w (reach-width x) ns (rest h.table r p))
      by y true e ih = kind y (ltb-true p (length r) e) ih (kind_of h.table (at r p)) refl
      by y false e ih = at-end q w p ns x y (ltb-false p (length r) e)

-- ---- the head

module _ (r : List ℕ) where
  abbrev HeadOutcome : Answer Head → Type 0
  HeadOutcome (refused n p) = AtHead n r p
  HeadOutcome (given h) = Headed h.table r × (h ≡ head_of h.table (part r 2 26))

  no_table : table_of (at r 1) ≡ none → 3 < at r 1
  no_table e =
      let m = found_none (λ t. eqb (at r 1) (code t)) tables e in
      omega (arith, eqb-false (at r 1) 0 m.0, eqb-false (at r 1) 1 m.1.0, eqb-false (at r 1) 2 m.1.1.0, eqb-false (at r 1) 3 m.1.1.1.0)

  head-outcome : HeadOutcome (headed r)
  unfolding headed
  head-outcome = by (eqb (at r 0) 1) refl (ltb (length r) 28) refl (table_of (at r 1)) refl
    where
      by : (x : Bool) → eqb (at r 0) 1 ≡ x → (y : Bool) → ltb (length r) 28 ≡ y → (o : Option Table) → table_of (at r 1) ≡ o
          → HeadOutcome (unless (first_of ((not x, 1) ∷ (y, 3) ∷ [])) 0 (and_then (or_refused 5 1 o) (λ t. given (head_of t (part r 2 26)))))
      by false e y d o f = (eqb-false (at r 0) 1 e, refl)
      by true e true d o f = ((λ z. z (eqb-true (at r 0) 1 e), ltb-true (length r) 28 d), refl)
      by true e false d none f = ((λ z. z (eqb-true (at r 0) 1 e), (λ z. omega (arith, ltb-false (length r) 28 d), no_table f)), refl)
      by true e false d (some t) f =
          ((eqb-true (at r 0) 1 e, ltb-false (length r) 28 d, eqb-true (at r 1) (code t) (found-test (λ t. eqb (at r 1) (code t)) tables t f)), refl)

  code-low : (t : Table) → code t ≤ 3
  code-low pptt = omega arith
  code-low srat = omega arith
  code-low hmat = omega arith
  code-low cedt = omega arith

  head-fine : (t : Table) → Headed t r → NoneOf (head_faults r)
  head-fine t (a, l, c) = (λ z. z a, (λ z. omega arith, (λ z. omega (arith, code-low t), tt)))

  table-one : (t u : Table) → at r 1 ≡ code t → at r 1 ≡ code u → t ≡ u
  table-one t u a b = let e : some t ≡ some u = sym (table-back t) ∙ (ap table_of (sym a ∙ b) ∙ table-back u) in cc

  headed-is : (t : Table) → Headed t r → headed r ≡ given (head_of t (part r 2 26))
  headed-is t hd = by (headed r) head-outcome
    where
      by : (a : Answer Head) → HeadOutcome a → a ≡ given (head_of t (part r 2 26))
      by (refused n p) o = absurd (first-none (head_faults r) n o.0 (head-fine t hd))
      by (given h) o = let e = table-one h.table t o.0.2 hd.2 in ap given (o.1 ∙ rw e)

  headed-not : (n p : ℕ) → AtHead n r p → headed r ≡ refused n p
  headed-not n p (f, z) = by (headed r) head-outcome
    where
      by : (a : Answer Head) → HeadOutcome a → a ≡ refused n p
      by (refused m q) (g, y) = let e = first_one (head_faults r) n m f g in rw (z, y, e)
      by (given h) o = absurd (first-none (head_faults r) n f (head-fine h.table o.0))

-- ---- the whole recipe

module _ (r : List ℕ) where
  -- refused before the room is looked at
  abbrev Refused : ℕ → ℕ → Type 0
  Refused n p = AtHead n r p ⊎ Faulted r n p

  abbrev Judged : Answer Meaning → Type 0
  Judged (refused n p) = Refused n p
  Judged (given m) = Says r m

  run-judged : (h : Head) → Headed h.table r → h ≡ head_of h.table (part r 2 26) → (a : Answer Meaning) → Outcome h r a → Judged a
  run-judged h hd i (refused n p) o = inr o
  run-judged h hd i (given m) (e, (q, w, x), n) = record { head = rw e at hd; identity = rw e at i; last = q; made = w; reached = rw e at x; whole = n }

  judged : Judged (meaning r)
  unfolding meaning rest reach-width
  judged = by (headed r) (head-outcome r)
    where
      by : (a : Answer Head) → HeadOutcome r a → Judged (and_then a (λ h. run h 0 byte [] (cut h.table 0 28 (drop 28 r))))
      by (refused n p) o = inl o
      by (given h) (hd, i) = run-judged h hd i (run h 0 byte [] (rest h.table r 28)) (outcome h r hd (length r) 0 0 28 [] (omega arith) start)

  meaning-run : (t : Table) → Headed t r → meaning r ≡ run (head_of t (part r 2 26)) 0 byte [] (rest t r 28)
  unfolding meaning rest
  meaning-run t hd = rw (headed-is r t hd)

  refuses : (n p : ℕ) → Refused n p → meaning r ≡ refused n p
  unfolding meaning
  refuses n p (inl a) = rw (headed-not r n p a)
  refuses n p (inr (inl (inl (z, (t, q, w, ns, c, b))))) =
      let h = head_of t (part r 2 26) in
      let (e, k) = bad-none t (at r p) b in
      meaning-run t c.head ∙ (reach-run h r c.head c.reached ∙ (run-bad h r c.head q w p ns c.reached c.ready c.here e ∙ rw (k, z)))
  refuses n p (inr (inl (inr (z, (t, q, w, ns, c, b))))) =
      let h = head_of t (part r 2 26) in
      let (e, k) = retired-none t (at r p) b in
      meaning-run t c.head ∙ (reach-run h r c.head c.reached ∙ (run-bad h r c.head q w p ns c.reached c.ready c.here e ∙ rw (k, z)))
  refuses n place (inr (inr (inl (t, q, w, ns, p, k, c, o, d, u)))) =
      let h = head_of t (part r 2 26) in
      meaning-run t c.head ∙ (reach-run h r c.head c.reached ∙ run-faulty h r c.head q w p ns c.reached c.ready k o n place d u)
  refuses n place (inr (inr (inr (z, (t, q, ns, p, hd, x, early))))) =
      let h = head_of t (part r 2 26) in
      meaning-run t hd ∙ (reach-run h r hd x ∙ (run-early h r hd place (reach-width x) ns p (not-ready h r hd ns p early) ∙ rw z))

  gives : (m : Meaning) → Says r m → meaning r ≡ given m
  unfolding run
  gives m s =
      let t = m.head.table in
      let h = head_of t (part r 2 26) in
      let d : means h m.nodes ≡ m = rw (← s.identity) in
      let l : length r ≤ length r = omega arith in
      let free : lacking (newest m.nodes) none ≡ 0 = rw (past-none t r (length r) l) at (ready-none h r s.head m.nodes (length r) (λ i. absurd (s.whole i))) in
      meaning-run t s.head ∙ (reach-run h r s.head s.reached ∙ (rw (rest_end t r (length r) l, free) (ap given d)))

  -- what a recipe means, in words
  pub meaning-given : (m : Meaning) → (meaning r ≡ given m) ↔ Says r m
  meaning-given m = (λ e. rw e at judged, gives m)

-- ---- build

module _ (r : List ℕ) (room : ℕ) where
  earned : Earned r room (build r room)
  unfolding build
  earned = by (meaning r) (judged r)
    where
      fits : (m : Meaning) → Says r m → (x : Bool) → ltb room (length_of m) ≡ x → Earned r room (pick x (refused 9 (length_of m)) (given (length_of m)))
      fits m s true e = inr (inr (inr (inr (refl, (m, s, ltb-true room (length_of m) e, refl)))))
      fits m s false e = (m, s, ltb-false room (length_of m) e, refl)

      by : (a : Answer Meaning) → Judged r a → Earned r room (and_then a (λ m. fitting 9 room (length_of m)))
      by (refused n p) (inl a) = inl a
      by (refused n p) (inr (inl b)) = inr (inl b)
      by (refused n p) (inr (inr (inl c))) = inr (inr (inl c))
      by (refused n p) (inr (inr (inr c))) = inr (inr (inr (inl c)))
      by (given m) s = fits m s (ltb room (length_of m)) refl

  only : (a : Answer ℕ) → Earned r room a → build r room ≡ a
  unfolding build
  only (refused n p) (inl a) = rw (refuses r n p (inl a))
  only (refused n p) (inr (inl b)) = rw (refuses r n p (inr (inl b)))
  only (refused n p) (inr (inr (inl c))) = rw (refuses r n p (inr (inr (inl c))))
  only (refused n p) (inr (inr (inr (inl c)))) = rw (refuses r n p (inr (inr (inr c))))
  only (refused n p) (inr (inr (inr (inr (i, (m, s, l, z)))))) = rw (gives r m s, lt-ltb room (length_of m) l, i, z)
  only (given n) (m, s, l, z) = rw (gives r m s, le-ltb room (length_of m) l, z)

  when : (a : Answer ℕ) → (build r room ≡ a) ↔ Earned r room a
  when a = (λ e. rw e at earned, only a)

  -- ---- the numbers

  head-number : (P : ℕ → Type 0) (n p : ℕ) → Numbers P (head_faults r) → AtHead n r p → P n
  head-number P n p a h = first-in P (head_faults r) n h.0 a

  -- the numbers of a record's faults: 3 to 8 and 10
  abbrev Recorded : ℕ → Type 0
  Recorded n = (3 ≤ n) × (n ≤ 10) × (n ≡ 9 → ⊥)

  record-number : (n p : ℕ) → AtRecord n r p → Recorded n
  record-number n place (t, q, w, ns, p, k, c, o, d, u) = first-in Recorded (faults t r q ns p k) n d (omega arith)

  kind-number : (P : ℕ → Type 0) (n p : ℕ) → P 2 → P 12 → NoKind n r p → P n
  kind-number P n p a b (inl d) = rw d.0 a
  kind-number P n p a b (inr d) = rw d.0 b

  earned-number : (n p : ℕ) → Earned r room (refused n p) → (1 ≤ n) × (n ≤ 12)
  earned-number n p (inl a) = head-number (λ m. (1 ≤ m) × (m ≤ 12)) n p (omega arith) a
  earned-number n p (inr (inl b)) = kind-number (λ m. (1 ≤ m) × (m ≤ 12)) n p (omega arith) (omega arith) b
  earned-number n p (inr (inr (inl c))) = omega (arith, record-number n p c)
  earned-number n p (inr (inr (inr (inl d)))) = omega (arith, d.0)
  earned-number n p (inr (inr (inr (inr d)))) = omega (arith, d.0)

  pub one : One r room
  one = record { earned = earned; only = only; numbers = λ n p e. earned-number n p ((when (refused n p)).0 e) }

  -- a number that is given behind the head alone, or there too
  of-record : (n p : ℕ) → Recorded n → (build r room ≡ refused n p) ↔ (AtHead n r p ⊎ AtRecord n r p)
  of-record n p l =
      (λ e. by ((when (refused n p)).0 e), ⊎_elim (λ a. only (refused n p) (inl a)) (λ c. only (refused n p) (inr (inr (inl c)))))
    where
      by : Earned r room (refused n p) → AtHead n r p ⊎ AtRecord n r p
      by (inl a) = inl a
      by (inr (inl b)) = absurd (kind-number (λ m. Recorded m → ⊥) n p (λ h. omega arith) (λ h. omega arith) b l)
      by (inr (inr (inl c))) = inr c
      by (inr (inr (inr (inl d)))) = absurd (omega (arith, d.0))
      by (inr (inr (inr (inr d)))) = absurd (l.2 d.0)

  not-head : (n p : ℕ) → Recorded n → Numbers (λ m. m ≡ n → ⊥) (head_faults r) → (build r room ≡ refused n p) ↔ AtRecord n r p
  not-head n p l d = (λ e. ⊎_elim (λ a. absurd (head-number (λ m. m ≡ n → ⊥) n p d a refl)) (λ c. c) ((of-record n p l).0 e), λ c. (of-record n p l).1 (inr c))

  no-head : (p : ℕ) → Earned r room (refused 1 p) → AtHead 1 r p
  no-head p (inl a) = a
  no-head p (inr (inl b)) = absurd (kind-number (λ m. m ≡ 1 → ⊥) 1 p (λ h. omega arith) (λ h. omega arith) b refl)
  no-head p (inr (inr (inl c))) = absurd (omega (arith, record-number 1 p c))
  no-head p (inr (inr (inr (inl d)))) = absurd (omega (arith, d.0))
  no-head p (inr (inr (inr (inr d)))) = absurd (omega (arith, d.0))

  bad_kind_lem : (p : ℕ) → Earned r room (refused 2 p) → BadKind r p
  bad_kind_lem p (inl a) = absurd (head-number (λ m. m ≡ 2 → ⊥) 2 p (omega arith) a refl)
  bad_kind_lem p (inr (inl (inl b))) = b.1
  bad_kind_lem p (inr (inl (inr b))) = absurd (omega (arith, b.0))
  bad_kind_lem p (inr (inr (inl c))) = absurd (omega (arith, record-number 2 p c))
  bad_kind_lem p (inr (inr (inr (inl d)))) = absurd (omega (arith, d.0))
  bad_kind_lem p (inr (inr (inr (inr d)))) = absurd (omega (arith, d.0))

  retired : (p : ℕ) → Earned r room (refused 12 p) → RetiredKind r p
  retired p (inl a) = absurd (head-number (λ m. m ≡ 12 → ⊥) 12 p (omega arith) a refl)
  retired p (inr (inl (inl b))) = absurd (omega (arith, b.0))
  retired p (inr (inl (inr b))) = b.1
  retired p (inr (inr (inl c))) = absurd (omega (arith, record-number 12 p c))
  retired p (inr (inr (inr (inl d)))) = absurd (omega (arith, d.0))
  retired p (inr (inr (inr (inr d)))) = absurd (omega (arith, d.0))

  incomplete : (p : ℕ) → Earned r room (refused 11 p) → Incomplete r p
  incomplete p (inl a) = absurd (head-number (λ m. m ≡ 11 → ⊥) 11 p (omega arith) a refl)
  incomplete p (inr (inl b)) = absurd (kind-number (λ m. m ≡ 11 → ⊥) 11 p (λ h. omega arith) (λ h. omega arith) b refl)
  incomplete p (inr (inr (inl c))) = absurd (omega (arith, record-number 11 p c))
  incomplete p (inr (inr (inr (inl d)))) = d.1
  incomplete p (inr (inr (inr (inr d)))) = absurd (omega (arith, d.0))

  no_room_lem : (p : ℕ) → Earned r room (refused 9 p) → NoRoom r room p
  no_room_lem p (inl a) = absurd (head-number (λ m. m ≡ 9 → ⊥) 9 p (omega arith) a refl)
  no_room_lem p (inr (inl b)) = absurd (kind-number (λ m. m ≡ 9 → ⊥) 9 p (λ h. omega arith) (λ h. omega arith) b refl)
  no_room_lem p (inr (inr (inl c))) = absurd ((record-number 9 p c).2 refl)
  no_room_lem p (inr (inr (inr (inl d)))) = absurd (omega (arith, d.0))
  no_room_lem p (inr (inr (inr (inr d)))) = d.1

  pub exactly : Exactly r room
  exactly =
      record {
        no_head = λ p. (λ e. no-head p ((when (refused 1 p)).0 e), λ a. only (refused 1 p) (inl a));
        bad_kind = λ p. (λ e. bad_kind_lem p ((when (refused 2 p)).0 e), λ b. only (refused 2 p) (inr (inl (inl (refl, b)))));
        retired = λ p. (λ e. retired p ((when (refused 12 p)).0 e), λ b. only (refused 12 p) (inr (inl (inr (refl, b)))));
        cut = λ p. of-record 3 p (omega arith);
        misplaced = λ p. not-head 4 p (omega arith) (omega arith);
        bad_field = λ p. of-record 5 p (omega arith);
        forward = λ p. not-head 6 p (omega arith) (omega arith);
        wrong_kind = λ p. not-head 10 p (omega arith) (omega arith);
        full_node = λ p. not-head 7 p (omega arith) (omega arith);
        too_long = λ p. not-head 8 p (omega arith) (omega arith);
        incomplete = λ p. (λ e. incomplete p ((when (refused 11 p)).0 e), λ d. only (refused 11 p) (inr (inr (inr (inl (refl, d))))));
        no_room = λ p. (λ e. no_room_lem p ((when (refused 9 p)).0 e), λ d. only (refused 9 p) (inr (inr (inr (inr (refl, d))))));
        length = λ n. when (given n);
      }
