-- Tests and the conditions that they test: one law for each way to put tests together, and for the first of a list.
use mathlib.Core.Path.{◌≡◌, refl, sym, ◌∙◌}
use mathlib.Core.Logic.{◌↔◌, ◌⊎◌, inl, inr}
use Prim.Native.Nat.{ℕ, zero, suc, ◌+◌, ◌-◌, ◌*◌, ◌%◌, ◌^◌, ◌≤◌, ◌<◌}
use mathlib.Core.List.{List, [], ◌∷◌, ◌++◌}
use mathlib.Core.Bool.{Bool, true, false, not}
use mathlib.Core.Option.{none, some}
use native.Mathlib.Omega.{arith}
use lib.ListN.{length, take, drop}
use lib.Seq.{drop-drop}
use lib.Dec.{eqb, leb, ltb}
use borrow.Author.Tests.{eqb-true, eqb-false, leb-true, leb-false, ltb-true, ltb-false}
use Rattle.format.specs.Bytes.{pick, both, all, first_of, find, at, value, part, same}
use Rattle.format.specs.Layout.{Item, fix, fld, two, to, or_none, wide, fixed_ok, is_good, refs_good}
use Rattle.format.specs.Form.{Form, processor, cache, memory, acpi, pci, rintc, old_rintc, domain, matrix, side, bridge, window, xor, cache_attributes, matrix_flags, side_attributes, ways, ranges}
use Rattle.format.specs.Field.{first_bad}
use Rattle.laws.proofs.Finds.{never, All}
use Rattle.laws.specs.Words.{FirstOf, NoneOf, Every, FirstNot, Among, Attributes, Rules, Fixed, References}
use native.Mathlib.Nat.{one-le-pow}

-- a test is true where P holds, and false where it does not
pub record Tests (b : Bool) (P : Type 0) : Type 0 where
  pub right : b ≡ true → P
  pub wrong : b ≡ false → P → ⊥

pub tests-leb : (a b : ℕ) → Tests (leb a b) (a ≤ b)
tests-leb a b = record { right = leb-true a b; wrong = λ e h. omega (arith, leb-false a b e) }

pub tests-ltb : (a b : ℕ) → Tests (ltb a b) (a < b)
tests-ltb a b = record { right = ltb-true a b; wrong = λ e h. omega (arith, ltb-false a b e) }

pub tests-eqb : (a b : ℕ) → Tests (eqb a b) (a ≡ b)
tests-eqb a b = record { right = eqb-true a b; wrong = eqb-false a b }

pub tests-true : Tests true Unit
tests-true = record { right = λ e. tt; wrong = λ e. never (sym e) }

module _ {P : Type 0} where
  pub tests-not : (b : Bool) → Tests b P → Tests (not b) (P → ⊥)
  tests-not true t = record { right = never; wrong = λ e h. h (t.right refl) }
  tests-not false t = record { right = λ e. t.wrong refl; wrong = λ e. never (sym e) }

  module _ {Q : Type 0} where
    pub tests-both : (a b : Bool) → Tests a P → Tests b Q → Tests (both a b) (P × Q)
    tests-both true b s t = record { right = λ e. (s.right refl, t.right e); wrong = λ e h. t.wrong e h.1 }
    tests-both false b s t = record { right = never; wrong = λ e h. s.wrong refl h.0 }

    pub tests-as : (b : Bool) → Tests b P → (P → Q) → (Q → P) → Tests b Q
    tests-as b t f g = record { right = λ e. f (t.right e); wrong = λ e h. t.wrong e (g h) }

pub tests_same : (xs ys : List ℕ) → Tests (same xs ys) (xs ≡ ys)
unfolding same
tests_same [] [] = record { right = λ e. refl; wrong = λ e. never (sym e) }
tests_same [] (y ∷ ys) = record { right = never; wrong = λ e h. let z : ◌≡◌ {A = ℕ} 0 1 = cc in omega arith }
tests_same (x ∷ xs) [] = record { right = never; wrong = λ e h. let z : ◌≡◌ {A = ℕ} 0 1 = cc in omega arith }
tests_same (x ∷ xs) (y ∷ ys) =
    tests-as (both (eqb x y) (same xs ys)) (tests-both (eqb x y) (same xs ys) (tests-eqb x y) (tests_same xs ys)) (λ h. rw (h.0, h.1)) (λ h. (cc, cc))

-- each test tests the condition beside it
abbrev pub TestsAll : List Bool → List (Type 0) → Type 0
TestsAll [] [] = Unit
TestsAll [] (P ∷ Ps) = ⊥
TestsAll (b ∷ bs) [] = ⊥
TestsAll (b ∷ bs) (P ∷ Ps) = Tests b P × TestsAll bs Ps

pub tests-every : (bs : List Bool) (Ps : List (Type 0)) → TestsAll bs Ps → Tests (all bs) (Every Ps)
tests-every [] [] h = tests-true
tests-every [] (P ∷ Ps) h = absurd h
tests-every (b ∷ bs) [] h = absurd h
tests-every (b ∷ []) (P ∷ []) h = h.0
tests-every (b ∷ []) (P ∷ Q ∷ Ps) h = absurd h.1
tests-every (b ∷ c ∷ bs) (P ∷ []) h = absurd h.1
tests-every (b ∷ c ∷ bs) (P ∷ Q ∷ Ps) h = tests-both b (all (c ∷ bs)) h.0 (tests-every (c ∷ bs) (Q ∷ Ps) h.1)

-- a field whose flag bit is off
tests-off : (x v : ℕ) → x < 2 → Tests (pick (eqb x 1) true (eqb v 0)) (x ≡ 0 → v ≡ 0)
tests-off x v l = by (eqb x 1) refl
  where
    by : (y : Bool) → eqb x 1 ≡ y → Tests (pick y true (eqb v 0)) (x ≡ 0 → v ≡ 0)
    by true q = record { right = λ e z. omega (arith, eqb-true x 1 q); wrong = λ e. never (sym e) }
    by false q = record { right = λ e z. eqb-true v 0 e; wrong = λ e h. eqb-false v 0 e (h (omega (arith, eqb-false x 1 q))) }

a-bit : (x : ℕ) → x % 2 < 2
a-bit x = omega arith

ruleset tested = (tests-leb, tests-ltb, tests-eqb, tests-true, tests-both, tests-off, a-bit, tt)

-- where a search finds nothing, no test is true
pub found_none : {A : Type 0} (p : A → Bool) (xs : List A) → find p xs ≡ none → All (λ x. p x ≡ false) xs
found_none p [] e = tt
found_none p (x ∷ xs) e = by (p x) refl e (found_none p xs)
  where
    by : (b : Bool) → p x ≡ b → pick b (some x) (find p xs) ≡ none → (find p xs ≡ none → All (λ x. p x ≡ false) xs) → All (λ x. p x ≡ false) (x ∷ xs)
    by true q e ih = absurd (let z : ◌≡◌ {A = ℕ} 0 1 = cc in omega arith)
    by false q e ih = (q, ih e)

-- ---- lists with the newest first

module _ {A : Type 0} (P : A → List A → Type 0) where
  pub among_none : Among P [] → ⊥
  among_none (later, x, before, s, h) = by later s
    where
      by : (later : List A) → [] ≡ later ++ (x ∷ before) → ⊥
      by [] s = let z : ◌≡◌ {A = ℕ} 0 1 = cc in omega arith
      by (y ∷ later) s = let z : ◌≡◌ {A = ℕ} 0 1 = cc in omega arith

  -- it is the newest, or one of the others
  pub among_cases : (x : A) (xs : List A) → Among P (x ∷ xs) → P x xs ⊎ Among P xs
  among_cases x xs (later, y, before, s, h) = by later s
    where
      by : (later : List A) → x ∷ xs ≡ later ++ (y ∷ before) → P x xs ⊎ Among P xs
      by [] s =
          let i : x ≡ y = cc in
          let j : xs ≡ before = cc in
          inl (rw (i, j) h)
      by (z ∷ later) s = let j : xs ≡ later ++ (y ∷ before) = cc in inr (later, y, before, j, h)

  pub among-more : (x : A) (xs : List A) → Among P xs → Among P (x ∷ xs)
  among-more x xs (later, y, before, s, h) = (x ∷ later, y, before, rw s, h)

-- ---- the rules of a form

tests-attributes : (f a : ℕ) → Tests (cache_attributes f a) (Attributes f a)
unfolding cache_attributes
tests-attributes f a = search tested depth 8

-- a code that stands for ways
tests-ways : (c : ℕ) → Tests (ltb 0 (ways c)) ((c ≤ 4) ⊎ ((8 ≤ c) × (c ≤ 10)))
unfolding ways
tests-ways c = by (leb c 4) refl (both (leb 8 c) (leb c 10)) refl
  where
    by : (x : Bool) → leb c 4 ≡ x → (y : Bool) → both (leb 8 c) (leb c 10) ≡ y → Tests (ltb 0 (pick x (2 ^ c) (pick y (3 * 2 ^ (c - 8)) 0))) ((c ≤ 4) ⊎ ((8 ≤ c) × (c ≤ 10)))
    by true e y f = record { right = λ q. inl (leb-true c 4 e); wrong = λ q. absurd (let l : 1 ≤ 2 ^ c = one-le-pow c 2 (omega arith) in omega (arith, ltb-false 0 (2 ^ c) q)) }
    by false e true f =
        let h = tests-both (leb 8 c) (leb c 10) (tests-leb 8 c) (tests-leb c 10) in
        let l : 1 ≤ 2 ^ (c - 8) = one-le-pow (c - 8) 2 (omega arith) in
        record { right = λ q. inr (h.right f); wrong = λ q. absurd (omega (arith, ltb-false 0 (3 * 2 ^ (c - 8)) q)) }
    by false e false f =
        let h = tests-both (leb 8 c) (leb c 10) (tests-leb 8 c) (tests-leb c 10) in
        record { right = never; wrong = λ q. elim [ inl z ↦ absurd (omega (arith, leb-false c 4 e)) | inr z ↦ h.wrong f z ] }

pub tests-rules : (f : Form) (vs : List ℕ) → TestsAll (ranges f vs) (Rules f vs)
unfolding ranges matrix_flags side_attributes
tests-rules (processor n) vs = tt
tests-rules cache vs = (search tested, (search tested, (search tested, (search tested, (search tested, (tests-attributes (at vs 0) (at vs 5), (search tested, (search tested, tt))))))))
tests-rules memory vs = search tested
tests-rules acpi vs = search tested
tests-rules pci vs = search tested depth 8
tests-rules old_rintc vs = search tested
tests-rules rintc vs = search tested
tests-rules domain vs = tt
tests-rules (matrix i t) vs = search tested
tests-rules (side n) vs = (tests-true, (tests-true, (search tested, tt)))
tests-rules (bridge n) vs = search tested
tests-rules (window n) vs = (tests-true, (tests-true, (tests-ways (at vs 2), search tested)))
tests-rules (xor n) vs = search tested

-- ---- zeros and fixed values

module _ (bs : List ℕ) where
  pub tests-fixed : (is : List Item) (p : ℕ) → Tests (fixed_ok is (drop p bs)) (Fixed is bs p)
  unfolding fixed_ok part
  tests-fixed [] p = tests-true
  tests-fixed (fix w v ∷ is) p = rw (drop-drop w p bs) (tests-both (eqb (value (take w (drop p bs))) v) (fixed_ok is (drop (p + w) bs)) (tests-eqb (value (take w (drop p bs))) v) (tests-fixed is (p + w)))
  tests-fixed (fld w ∷ is) p = rw (drop-drop w p bs) (tests-fixed is (p + w))
  tests-fixed (two w k ∷ is) p = rw (drop-drop w p bs) (tests-fixed is (p + w))
  tests-fixed (to t ∷ is) p = rw (drop-drop 4 p bs) (tests-fixed is (p + 4))
  tests-fixed (or_none t ∷ is) p = rw (drop-drop 4 p bs) (tests-fixed is (p + 4))

-- ---- references

module _ (ok : ℕ → ℕ → Bool) (P : ℕ → ℕ → Type 0) (names : (v t : ℕ) → Tests (ok v t) (P v t)) where
  tests-none : (v t : ℕ) → Tests (pick (eqb v 0) true (ok v t)) ((v ≡ 0) ⊎ P v t)
  tests-none v t = by (eqb v 0) refl
    where
      by : (x : Bool) → eqb v 0 ≡ x → Tests (pick x true (ok v t)) ((v ≡ 0) ⊎ P v t)
      by true q = record { right = λ e. inl (eqb-true v 0 q); wrong = λ e. never (sym e) }
      by false q = record { right = λ e. inr ((names v t).right e); wrong = λ e. elim [ inl z ↦ eqb-false v 0 q z | inr h ↦ (names v t).wrong e h ] }

  pub tests-references : (is : List Item) (vs : List ℕ) → Tests (refs_good ok is vs) (References P is vs)
  unfolding refs_good
  tests-references [] vs = tests-true
  tests-references (fix w v ∷ is) vs = tests-references is vs
  tests-references (fld w ∷ is) vs = tests-references is (drop 1 vs)
  tests-references (two w k ∷ is) vs = tests-references is (drop 2 vs)
  tests-references (to t ∷ is) vs = tests-both (ok (at vs 0) t) (refs_good ok is (drop 1 vs)) (names (at vs 0) t) (tests-references is (drop 1 vs))
  tests-references (or_none t ∷ is) vs = tests-both (is_good ok (or_none t) (at vs 0)) (refs_good ok is (drop 1 vs)) (tests-none (at vs 0) t) (tests-references is (drop 1 vs))

-- ---- the first of a list

-- n is a number, and none of the tests has it
abbrev Own : ℕ → List (Bool × ℕ) → Type 0
Own n [] = 0 < n
Own n (t ∷ ts) = (t.1 ≡ n → ⊥) × Own n ts

-- each test of the second list tests the condition of the first beside it, where no test before it is true; each has a number of its own
abbrev pub Mirrors : List (ℕ × Type 0) → List (Bool × ℕ) → Type 0
Mirrors [] [] = Unit
Mirrors [] (t ∷ ts) = ⊥
Mirrors (c ∷ cs) [] = ⊥
Mirrors (c ∷ cs) (t ∷ ts) = Own t.1 ts × (c.0 ≡ t.1) × (t.0 ≡ true → c.1) × (t.0 ≡ false → (c.1 → ⊥) × Mirrors cs ts)

own-pos : (n : ℕ) (ts : List (Bool × ℕ)) → Own n ts → 0 < n
own-pos n [] o = o
own-pos n (t ∷ ts) o = own-pos n ts o.1

-- a number that no test has does not come first
not_first : (n : ℕ) (ts : List (Bool × ℕ)) → Own n ts → first_of ts ≡ n → ⊥
not_first n [] o e = omega arith
not_first n (t ∷ ts) o e = by t.0 e (not_first n ts o.1)
  where
    by : (x : Bool) → pick x t.1 (first_of ts) ≡ n → (first_of ts ≡ n → ⊥) → ⊥
    by true e ih = o.0 e
    by false e ih = ih e

pub none_of : (cs : List (ℕ × Type 0)) (ts : List (Bool × ℕ)) → Mirrors cs ts → (first_of ts ≡ 0) ↔ NoneOf cs
none_of [] [] m = (λ e. tt, λ h. refl)
none_of [] (t ∷ ts) m = absurd m
none_of (c ∷ cs) [] m = absurd m
none_of (c ∷ cs) (t ∷ ts) (o, i, r, w) = by t.0 refl (λ q. none_of cs ts (w q).1)
  where
    by : (x : Bool) → t.0 ≡ x → (t.0 ≡ false → (first_of ts ≡ 0) ↔ NoneOf cs) → (pick x t.1 (first_of ts) ≡ 0) ↔ NoneOf (c ∷ cs)
    by true q ih = (λ e. absurd (omega (arith, own-pos t.1 ts o)), λ h. absurd (h.0 (r q)))
    by false q ih = (λ e. ((w q).0, (ih q).0 e), λ h. (ih q).1 h.1)

pub first-of : (cs : List (ℕ × Type 0)) (ts : List (Bool × ℕ)) → Mirrors cs ts → (n : ℕ) → 0 < n → (first_of ts ≡ n) ↔ FirstOf n cs
first-of [] [] m n z = (λ e. absurd (omega arith), λ h. absurd h)
first-of [] (t ∷ ts) m n z = absurd m
first-of (c ∷ cs) [] m n z = absurd m
first-of (c ∷ cs) (t ∷ ts) (o, i, r, w) n z = by t.0 refl (eqb n c.0) refl (λ q. first-of cs ts (w q).1 n z)
  where
    by : (x : Bool) → t.0 ≡ x → (y : Bool) → eqb n c.0 ≡ y → (t.0 ≡ false → (first_of ts ≡ n) ↔ FirstOf n cs)
        → (pick x t.1 (first_of ts) ≡ n) ↔ pick y c.1 ((c.1 → ⊥) × FirstOf n cs)
    by true q true d ih = (λ e. r q, λ h. sym i ∙ sym (eqb-true n c.0 d))
    by true q false d ih = (λ e. absurd (eqb-false n c.0 d (sym e ∙ sym i)), λ h. absurd (h.0 (r q)))
    by false q true d ih = (λ e. absurd (not_first t.1 ts o (e ∙ (eqb-true n c.0 d ∙ i))), λ h. absurd ((w q).0 h))
    by false q false d ih = (λ e. ((w q).0, (ih q).0 e), λ h. (ih q).1 h.1)

-- ---- the first field that is bad

-- where a test fails, one is the first that does
pub first-not : (bs : List Bool) (Ps : List (Type 0)) → TestsAll bs Ps → all bs ≡ false → (j : ℕ) × FirstNot j Ps
first-not [] [] h e = never (sym e)
first-not [] (P ∷ Ps) h e = absurd h
first-not (b ∷ bs) [] h e = absurd h
first-not (true ∷ []) (P ∷ Ps) h e = never (sym e)
first-not (true ∷ c ∷ bs) (P ∷ Ps) h e = let (j, f) = first-not (c ∷ bs) Ps h.1 e in (suc j, (h.0.right refl, f))
first-not (false ∷ bs) (P ∷ Ps) h e = (0, h.0.wrong refl)

-- where the items of a layout begin that starts at p
abbrev pub offsets : ℕ → List Item → List ℕ
offsets p [] = []
offsets p (i ∷ is) = p ∷ offsets (p + wide i) is

-- its place is where its item begins
pub first-bad : (p : ℕ) (is : List Item) (bs : List Bool) (Ps : List (Type 0)) (j : ℕ) → TestsAll bs Ps → length Ps ≤ length is → FirstNot j Ps
    → first_bad p is bs ≡ at (offsets p is) j
unfolding first_bad
first-bad p is bs [] j h l f = absurd f
first-bad p [] bs (P ∷ Ps) j h l f = absurd (omega arith)
first-bad p (i ∷ is) [] (P ∷ Ps) j h l f = absurd h
first-bad p (i ∷ is) (true ∷ bs) (P ∷ Ps) zero h l f = absurd (f (h.0.right refl))
first-bad p (i ∷ is) (false ∷ bs) (P ∷ Ps) zero h l f = refl
first-bad p (i ∷ is) (true ∷ bs) (P ∷ Ps) (suc j) h l f = first-bad (p + wide i) is bs Ps j h.1 (omega arith) f.1
first-bad p (i ∷ is) (false ∷ bs) (P ∷ Ps) (suc j) h l f = absurd (h.0.wrong refl f.0)

-- ---- what stands first is one

-- P holds of the number of every condition
abbrev pub Numbers : (ℕ → Type 0) → List (ℕ × Type 0) → Type 0
Numbers P [] = Unit
Numbers P (c ∷ cs) = P c.0 × Numbers P cs

pub first_one : (cs : List (ℕ × Type 0)) (n m : ℕ) → FirstOf n cs → FirstOf m cs → n ≡ m
first_one [] n m h k = absurd h
first_one (c ∷ cs) n m h k = by (eqb n c.0) refl (eqb m c.0) refl h k (first_one cs n m)
  where
    by : (x : Bool) → eqb n c.0 ≡ x → (y : Bool) → eqb m c.0 ≡ y → pick x c.1 ((c.1 → ⊥) × FirstOf n cs) → pick y c.1 ((c.1 → ⊥) × FirstOf m cs)
        → (FirstOf n cs → FirstOf m cs → n ≡ m) → n ≡ m
    by true q true d h k ih = eqb-true n c.0 q ∙ sym (eqb-true m c.0 d)
    by true q false d h k ih = absurd (k.0 h)
    by false q true d h k ih = absurd (h.0 k)
    by false q false d h k ih = ih h.1 k.1

pub first-none : (cs : List (ℕ × Type 0)) (n : ℕ) → FirstOf n cs → NoneOf cs → ⊥
first-none [] n h k = h
first-none (c ∷ cs) n h k = by (eqb n c.0) h (first-none cs n)
  where
    by : (x : Bool) → pick x c.1 ((c.1 → ⊥) × FirstOf n cs) → (FirstOf n cs → NoneOf cs → ⊥) → ⊥
    by true h ih = k.0 h
    by false h ih = ih h.1 k.1

-- its number is among those of the list
pub first-in : (P : ℕ → Type 0) (cs : List (ℕ × Type 0)) (n : ℕ) → FirstOf n cs → Numbers P cs → P n
first-in P [] n h a = absurd h
first-in P (c ∷ cs) n h a = by (eqb n c.0) refl h (first-in P cs n)
  where
    by : (x : Bool) → eqb n c.0 ≡ x → pick x c.1 ((c.1 → ⊥) × FirstOf n cs) → (FirstOf n cs → Numbers P cs → P n) → P n
    by true q h ih = rw (eqb-true n c.0 q) a.0
    by false q h ih = ih h.1 a.1
