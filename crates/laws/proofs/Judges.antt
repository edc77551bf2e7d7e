-- The faults of a table's header and of a framed record are those that the conditions say: by the tests, and by what is known of the record's row.
use mathlib.Core.Path.{◌≡◌, refl, sym, ap, ◌∙◌}
use mathlib.Core.Logic.{◌↔◌, ⊎_elim}
use Prim.Native.Nat.{ℕ, ◌%◌, ◌<◌}
use mathlib.Core.List.{List, [], ◌∷◌}
use mathlib.Core.Bool.{Bool, true, false, not}
use mathlib.Core.Option.{Option, none, some}
use native.Mathlib.Omega.{arith}
use lib.ListN.{length, take, drop}
use lib.Dec.{eqb, leb, ltb}
use borrow.Author.Tests.{eqb-true, eqb-false, ne_eqb, ltb-true, ltb-false}
use Rattle.format.specs.Bytes.{pick, both, all, find, Answer, refused, given, and_then, or_refused, unless, sum, same}
use Rattle.format.specs.Layout.{fields, fixed_ok, refs_good}
use Rattle.format.specs.Table.{Table, pptt, srat, hmat, cedt, tables, sign, tail, front, limit}
use Rattle.format.specs.Form.{Form, layout, ranges}
use Rattle.format.specs.Row.{Row, row_of, form_in, known}
use Rattle.format.specs.Node.{Entry, at_place}
use Rattle.format.specs.Read.{signed, length_in, own, head_fault, judge_head, type_in, sound, record_fault}
use Rattle.laws.specs.Words.{FirstOf, NoneOf, Rules, Fixed, References}
use Rattle.laws.specs.Demand1Read.{Signed, Long, header_faults, Known, Sound, Starts, body_faults, Headed, AtHeader, RowIs}
use Rattle.laws.proofs.Finds.{never, All, found-test}
use Rattle.laws.proofs.Words.{Tests, found_none, among_none, among_cases, among-more, tests-leb, tests-eqb, tests-not, tests-both, tests-as, tests_same, tests-fixed, tests-every, tests-rules, tests-references, Mirrors, none_of, first-of, first_one, first-none, first-in}
use Rattle.laws.proofs.Links.{Rising}
use Rattle.laws.proofs.Masks.{row_fits, known-row}

-- ---- the header

-- the table that four bytes spell
spelt : List ℕ → Option Table
spelt s = find (λ t. same s (sign t)) tables

sign-back : (t : Table) → spelt (sign t) ≡ some t
unfolding spelt same
sign-back pptt = refl
sign-back srat = refl
sign-back hmat = refl
sign-back cedt = refl

module _ (b : List ℕ) where
  pub sign-one : (t u : Table) → Signed t b → Signed u b → t ≡ u
  sign-one t u s v = let e : some t ≡ some u = sym (sign-back t) ∙ (ap spelt (sym s ∙ v) ∙ sign-back u) in cc

  module _ (t : Table) (s : Signed t b) where
    -- a condition on the table that is spelt
    tests-spelt : (P : Table → Type 0) (x : Bool) → Tests x (P t) → Tests x ((u : Table) × Signed u b × P u)
    tests-spelt P x h = tests-as x h (λ p. (t, s, p)) (λ (u, v, p). rw (sign-one u t v s) at p)

    three : List (Bool × ℕ)
    three =
        (not (all (leb (front t) (length_in b) ∷ leb (length_in b) (length b) ∷ leb (length_in b) limit ∷ [])), 22)
        ∷ (not (eqb (sum (own b) % 256) 0), 23)
        ∷ (not (fixed_ok (tail t) (drop 36 b)), 24) ∷ []

    abbrev spelled : List (ℕ × Type 0)
    spelled =
        (22, (t : Table) × Signed t b × (Long t b → ⊥))
        ∷ (23, sum (own b) % 256 ≡ 0 → ⊥)
        ∷ (24, (t : Table) × Signed t b × (Fixed (tail t) b 36 → ⊥)) ∷ []

    three-mirrored : Mirrors spelled three
    unfolding three
    three-mirrored =
        let l = all (leb (front t) (length_in b) ∷ leb (length_in b) (length b) ∷ leb (length_in b) limit ∷ []) in
        let h : Tests l (Long t b) = tests-both (leb (front t) (length_in b)) (both (leb (length_in b) (length b)) (leb (length_in b) limit)) (tests-leb (front t) (length_in b))
        (tests-both (leb (length_in b) (length b)) (leb (length_in b) limit) (tests-leb (length_in b) (length b)) (tests-leb (length_in b) limit)) in
        let x = tests-spelt (λ t. Long t b → ⊥) (not l) (tests-not l h) in
        let y = tests-not (eqb (sum (own b) % 256) 0) (tests-eqb (sum (own b) % 256) 0) in
        let z = tests-spelt (λ t. Fixed (tail t) b 36 → ⊥) (not (fixed_ok (tail t) (drop 36 b))) (tests-not (fixed_ok (tail t) (drop 36 b)) (tests-fixed b (tail t) 36)) in
        (omega arith, refl, x.right, λ e. (x.wrong e, (omega arith, refl, y.right, λ e. (y.wrong e, (omega arith, refl, z.right, λ e. (z.wrong e, tt))))))

    spelled_none : (head_fault t b ≡ 0) ↔ NoneOf spelled
    unfolding head_fault three
    spelled_none = none_of spelled three three-mirrored

    spelled-first : (n : ℕ) → 0 < n → (head_fault t b ≡ n) ↔ FirstOf n spelled
    unfolding head_fault three
    spelled-first n z = first-of spelled three three-mirrored n z

  abbrev pub HeaderOutcome : Answer Table → Type 0
  HeaderOutcome (refused n p) = AtHeader n b p
  HeaderOutcome (given t) = Headed t b

  unsigned : signed b ≡ none → (t : Table) → Signed t b → ⊥
  unsigned e t s = by t (found_none (λ t. same (take 4 b) (sign t)) tables e) s
    where
      by : (t : Table) → All (λ t. same (take 4 b) (sign t) ≡ false) tables → Signed t b → ⊥
      by pptt m s = (tests_same (take 4 b) (sign pptt)).wrong m.0 s
      by srat m s = (tests_same (take 4 b) (sign srat)).wrong m.1.0 s
      by hmat m s = (tests_same (take 4 b) (sign hmat)).wrong m.1.1.0 s
      by cedt m s = (tests_same (take 4 b) (sign cedt)).wrong m.1.1.1.0 s

  spelled-outcome : (t : Table) → Signed t b → (length b < 36 → ⊥) → HeaderOutcome (unless (head_fault t b) 0 (given t))
  spelled-outcome t s l = by (head_fault t b) refl (eqb (head_fault t b) 0) refl
    where
      first : ((t : Table) → Signed t b → ⊥) → ⊥
      first h = h t s

      by : (n : ℕ) → head_fault t b ≡ n → (x : Bool) → eqb (head_fault t b) 0 ≡ x → HeaderOutcome (pick x (given t) (refused (head_fault t b) 0))
      by n e true q = (s, (l, (first, (spelled_none t s).0 (eqb-true (head_fault t b) 0 q))))
      by n e false q =
          let z : 0 < head_fault t b = omega (arith, eqb-false (head_fault t b) 0 q) in
          let d = (spelled-first t s (head_fault t b) z).0 refl in
          let m : 21 < head_fault t b = first-in (λ n. 21 < n) (spelled t s) (head_fault t b) d (omega arith) in
          (rw (ne_eqb (head_fault t b) 20 (λ i. omega arith), ne_eqb (head_fault t b) 21 (λ i. omega arith)) (l, (first, d)), refl)

  pub header-outcome : HeaderOutcome (judge_head b)
  unfolding judge_head
  header-outcome = by (ltb (length b) 36) refl (signed b) refl
    where
      by : (x : Bool) → ltb (length b) 36 ≡ x → (o : Option Table) → signed b ≡ o
          → HeaderOutcome (pick x (refused 20 0) (and_then (or_refused 21 0 o) (λ t. unless (head_fault t b) 0 (given t))))
      by true e o f = (ltb-true (length b) 36 e, refl)
      by false e none f = ((λ i. omega (arith, ltb-false (length b) 36 e), unsigned f), refl)
      by false e (some t) f =
          spelled-outcome t ((tests_same (take 4 b) (sign t)).right (found-test (λ t. same (take 4 b) (sign t)) tables t f)) (λ i. omega (arith, ltb-false (length b) 36 e))

  pub header_is : (t : Table) → Headed t b → judge_head b ≡ given t
  header_is t (s, h) = by (judge_head b) header-outcome
    where
      by : (a : Answer Table) → HeaderOutcome a → a ≡ given t
      by (refused n p) o = absurd (first-none (header_faults b) n o.0 h)
      by (given u) o = ap given (sign-one u t o.0 s)

  pub header-not : (n p : ℕ) → AtHeader n b p → judge_head b ≡ refused n p
  header-not n p (f, z) = by (judge_head b) header-outcome
    where
      by : (a : Answer Table) → HeaderOutcome a → a ≡ refused n p
      by (refused m q) (g, y) = let e = first_one (header_faults b) n m f g in rw (z, y, e)
      by (given t) o = absurd (first-none (header_faults b) n f o.1)

-- ---- what is known of one record

module _ (t : Table) (rev mask : ℕ) (bs : List ℕ) where
  abbrev pub row_in : Option Row
  row_in = known mask (row_of t rev (type_in t bs) bs)

  pub known-then : (r : Row) → row_in ≡ some r → Known t rev mask bs r
  known-then r e = let k = known-row mask (row_of t rev (type_in t bs) bs) r e in ((row_fits rev (type_in t bs) bs t r).0 k.0, k.1)

  pub known-when : (r : Row) → Known t rev mask bs r → row_in ≡ some r
  known-when r (f, k) = rw ((row_fits rev (type_in t bs) bs t r).1 f, k)

  pub row_is : (o : Option Row) → (row_in ≡ o) ↔ RowIs t rev mask bs o
  row_is none = (λ e r k. (let h = known-when r k in let z : ◌≡◌ {A = ℕ} 0 1 = cc in omega arith), λ h. by row_in refl h)
    where
      by : (o : Option Row) → row_in ≡ o → ((r : Row) → Known t rev mask bs r → ⊥) → o ≡ none
      by none e h = refl
      by (some r) e h = absurd (h r (known-then r e))
  row_is (some r) = (known-then r, known-when r)

  -- a condition on the known row
  tests-row : (P : Row → Type 0) (r : Row) → row_in ≡ some r → (x : Bool) → Tests x (P r) → Tests x ((r : Row) × Known t rev mask bs r × P r)
  tests-row P r e x h = tests-as x h (λ p. (r, known-then r e, p)) (λ (q, k, p). let d = known-when q k in let i : q ≡ r = cc in rw i at p)

-- ---- references

tests-sound : (f : Form) (bs : List ℕ) → Tests (sound f bs) (Sound f bs)
unfolding sound
tests-sound f bs = tests-both (fixed_ok (layout f) bs) (all (ranges f (fields (layout f) bs))) (tests-fixed bs (layout f) 0) (tests-every (ranges f (fields (layout f) bs)) (Rules f (fields (layout f) bs)) (tests-rules f (fields (layout f) bs)))

-- e starts at v, and has the type ty
abbrev Starting : ℕ → ℕ → Entry → List Entry → Type 0
Starting v ty e before = (e.offset ≡ v) × (e.type ≡ ty)

starts-below : (p : ℕ) (es : List Entry) (v ty : ℕ) → Rising p es → Starts es v ty → v < p
starts-below p [] v ty r h = absurd (among_none (Starting v ty) h)
starts-below p (e ∷ es) v ty r h = ⊎_elim (λ k. omega (arith, k.0, r.0)) (λ k. omega (arith, r.0, starts-below e.offset es v ty r.1 k)) (among_cases (Starting v ty) e es h)

tests-starts : (p : ℕ) (es : List Entry) → Rising p es → (v ty : ℕ) → Tests (at_place es v ty) (Starts es v ty)
unfolding at_place
tests-starts p [] r v ty = record { right = never; wrong = λ e. among_none (Starting v ty) }
tests-starts p (e ∷ es) r v ty = by (eqb e.offset v) refl (tests-starts e.offset es r.1 v ty)
  where
    by : (x : Bool) → eqb e.offset v ≡ x → Tests (at_place es v ty) (Starts es v ty) → Tests (pick x (eqb e.type ty) (at_place es v ty)) (Starts (e ∷ es) v ty)
    by true q ih =
        let z : e.offset ≡ v = eqb-true e.offset v q in
        record {
          right = λ i. ([], e, es, refl, (z, eqb-true e.type ty i));
          wrong = λ i h. ⊎_elim (λ k. eqb-false e.type ty i k.1) (λ k. omega (arith, starts-below e.offset es v ty r.1 k)) (among_cases (Starting v ty) e es h);
        }
    by false q ih =
        record {
          right = λ i. among-more (Starting v ty) e es (ih.right i);
          wrong = λ i h. ⊎_elim (λ k. eqb-false e.offset v q k.0) (ih.wrong i) (among_cases (Starting v ty) e es h);
        }

-- ---- all faults of a framed record

module _ (t : Table) (rev mask p : ℕ) (es : List Entry) (rising : Rising p es) (bs : List ℕ) where
  module _ (r : Row) (e : row_in t rev mask bs ≡ some r) where
    two : List (Bool × ℕ)
    two = (not (sound (form_in r bs) bs), 26) ∷ (not (refs_good (at_place es) (layout (form_in r bs)) (fields (layout (form_in r bs)) bs)), 27) ∷ []

    two-mirrored : Mirrors (body_faults t rev mask es bs) two
    unfolding two
    two-mirrored =
        let f = form_in r bs in
        let vs = fields (layout f) bs in
        let x = tests-row t rev mask bs (λ r. Sound (form_in r bs) bs → ⊥) r e (not (sound f bs)) (tests-not (sound f bs) (tests-sound f bs)) in
        let y = tests-row t rev mask bs (λ r. References (Starts es) (layout (form_in r bs)) (fields (layout (form_in r bs)) bs) → ⊥) r e (not (refs_good (at_place es) (layout f) vs))
        (tests-not (refs_good (at_place es) (layout f) vs) (tests-references (at_place es) (Starts es) (tests-starts p es rising) (layout f) vs)) in
        (omega arith, refl, x.right, λ e. (x.wrong e, (omega arith, refl, y.right, λ e. (y.wrong e, tt))))

  unknown-none : row_in t rev mask bs ≡ none → NoneOf (body_faults t rev mask es bs)
  unknown-none e =
      let h = (row_is t rev mask bs none).0 e in
      (λ (r, k, d). h r k, (λ (r, k, d). h r k, tt))

  pub body-none : (record_fault (at_place es) (row_in t rev mask bs) bs ≡ 0) ↔ NoneOf (body_faults t rev mask es bs)
  unfolding record_fault two
  body-none = by (row_in t rev mask bs) refl
    where
      by : (o : Option Row) → row_in t rev mask bs ≡ o → (record_fault (at_place es) o bs ≡ 0) ↔ NoneOf (body_faults t rev mask es bs)
      by none e = (λ z. unknown-none e, λ h. refl)
      by (some r) e = none_of (body_faults t rev mask es bs) (two r e) (two-mirrored r e)

  pub body-first : (n : ℕ) → 0 < n → (record_fault (at_place es) (row_in t rev mask bs) bs ≡ n) ↔ FirstOf n (body_faults t rev mask es bs)
  unfolding record_fault two
  body-first n l = by (row_in t rev mask bs) refl
    where
      by : (o : Option Row) → row_in t rev mask bs ≡ o → (record_fault (at_place es) o bs ≡ n) ↔ FirstOf n (body_faults t rev mask es bs)
      by none e = (λ z. absurd (omega arith), λ h. absurd (first-none (body_faults t rev mask es bs) n h (unknown-none e)))
      by (some r) e = first-of (body_faults t rev mask es bs) (two r e) (two-mirrored r e) n l
