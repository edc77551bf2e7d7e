-- The faults of a whole record of a recipe are those that the conditions say, kind by kind: its kind, where it stands, its ranges, its references, and its node's list.
use mathlib.Core.Path.{◌≡◌, refl, sym, ap, ◌∙◌}
use mathlib.Core.Logic.{◌↔◌, ◌⊎◌, inl, inr, ⊎_elim}
use Prim.Native.Nat.{ℕ, suc, ◌+◌, ◌-◌, ◌≤◌, ◌<◌}
use mathlib.Core.List.{List, [], ◌∷◌, ◌++◌}
use mathlib.Core.Bool.{Bool, true, false, not}
use mathlib.Core.Option.{Option, none, some}
use native.Mathlib.Nat.{add-zero}
use native.Mathlib.Omega.{arith}
use lib.ListN.{length, drop, length-append}
use lib.Dec.{eqb, leb, ltb}
use borrow.Author.Tests.{eqb-true, eqb-false, eq-eqb, ne_eqb, ltb-true, ltb-false, not-false}
use Rattle.format.specs.Bytes.{pick, both, all, has, at}
use Rattle.format.specs.Layout.{refs_good}
use Rattle.format.specs.Table.{Table, pptt, srat, hmat, cedt, front, limit}
use Rattle.format.specs.Form.{Form, processor, cache, memory, acpi, pci, rintc, matrix, side, bridge, window, xor, Width, byte, pair, registers, ways, type_of}
use Rattle.format.specs.Node.{Node, node, sizes, starts, is_ordinal, at_ordinal}
use Rattle.format.specs.Kind.{Kind, Processor, Resource, Cache, Memory, Acpi, Pci, Rintc, Domain, Matrix, Initiator, Target, Cell, Side, Handle, Bridge, Window, WindowTarget, Xor, Map, matrix_number, kind_number, kinds, kind_of, retired, no_kind, is_kind, body, sets, part_in, suits, width_behind}
use Rattle.format.specs.Field.{bad_in}
use Rattle.format.specs.Recipe.{Newest, a_list, a_matrix, other, newest_as, newest, joined, setting, changes, stray, step, added, fault, lacking, since, fault_at}
use Rattle.laws.specs.Words.{FirstOf, NoneOf, FirstNot, References}
use Rattle.laws.specs.Demand1.{Belongs, Retired, joins, After, earlier, made_at, counts, Ranged, places, Full, Lacks, Backward, Names, record_faults, Where, OfKind}
use Rattle.laws.proofs.Lays.{both_true}
use Rattle.laws.proofs.Finds.{never, All, found-test, found_in}
use Rattle.laws.proofs.Words.{Tests, TestsAll, tests-every, found_none, among_none, among_cases, among-more, tests-leb, tests-ltb, tests-true, tests-not, tests-both, tests-as, tests-rules, tests-references, Mirrors, none_of, first-of, first-not, offsets, first-bad}
use Rattle.laws.proofs.Links.{length-starts}
use Rattle.laws.proofs.Grows.{View, sees_processor, sees_matrix, sees_side, sees_window, sees_xor, sees_other, view, needless, none-retired, kind-number}

-- ---- the kind of a byte

all-belong : (t : Table) → All (λ k. Belongs t (kind_number k)) (kinds t)
all-belong pptt = omega arith
all-belong srat = omega arith
all-belong hmat = omega arith
all-belong cedt = omega arith

pub kind-then : (t : Table) (b : ℕ) (k : Kind) → kind_of t b ≡ some k → OfKind t b k
unfolding kind_of
kind-then t b k e =
    let q : b ≡ kind_number k = eqb-true b (kind_number k) (found-test (λ k. eqb b (kind_number k)) (kinds t) k e) in
    (rw q (found_in (λ k. Belongs t (kind_number k)) (λ k. eqb b (kind_number k)) (kinds t) k (all-belong t) e), q)

beyond : (a b : ℕ) → a ≤ b → (b ≡ a → ⊥) → a + 1 ≤ b
beyond a b h d = omega arith

outside : (a b : ℕ) → a + 1 ≤ b → b ≤ a → ⊥
outside a b h l = omega arith

-- why a byte names no kind
pub no_kind_lem : (t : Table) (b : ℕ) → kind_of t b ≡ none → ((no_kind t b ≡ 2) × (Belongs t b → ⊥)) ⊎ ((no_kind t b ≡ 12) × Retired t b)
unfolding kind_of no_kind
no_kind_lem t b e = by t (found_none (λ k. eqb b (kind_number k)) (kinds t) e)
  where
    past : (a : ℕ) → a ≤ b → eqb b a ≡ false → a + 1 ≤ b
    past a l q = beyond a b l (eqb-false b a q)

    in-srat : All (λ k. eqb b (kind_number k) ≡ false) (kinds srat) → (x : Bool) → eqb b 35 ≡ x
        → ((◌≡◌ {A = ℕ} (pick (pick x true false) 12 2) 2) × (Belongs srat b → ⊥)) ⊎ ((◌≡◌ {A = ℕ} (pick (pick x true false) 12 2) 12) × Retired srat b)
    in-srat m true q = let i = eqb-true b 35 q in inr (refl, (omega arith, i))
    in-srat m false q =
        inl (refl, λ h. outside 36 b (past 36 (past 35 (past 34 (past 33 (past 32 h.0 m.0) m.1.0) m.1.1.0) q) m.1.1.1.0) h.1)

    by : (t : Table) → All (λ k. eqb b (kind_number k) ≡ false) (kinds t)
        → ((◌≡◌ {A = ℕ} (pick (has (retired t) b) 12 2) 2) × (Belongs t b → ⊥)) ⊎ ((◌≡◌ {A = ℕ} (pick (has (retired t) b) 12 2) 12) × Retired t b)
    by pptt m = inl (refl, λ h. outside 18 b (past 18 (past 17 (past 16 h.0 m.0) m.1.0) m.1.1.0) h.1)
    by srat m = in-srat m (eqb b 35) refl
    by hmat m =
        inl (
          refl,
          λ h. let wide = m.1.1.1.1.1.1.1 in
              let low = past 54 (past 53 (past 52 (past 51 (past 50 (past 49 (past 48 h.0 m.0) m.1.0) m.1.1.0) m.1.1.1.0) m.1.1.1.1.0) m.1.1.1.1.1.0) m.1.1.1.1.1.1.0 in
              outside 58 b (past 58 (past 57 (past 56 (past 55 low wide.0) wide.1.0) wide.1.1.0) wide.1.1.1.0) h.1,
        )
    by cedt m = inl (refl, λ h. outside 68 b (past 68 (past 67 (past 66 (past 65 (past 64 h.0 m.0) m.1.0) m.1.1.0) m.1.1.1.0) m.1.1.1.1.0) h.1)

-- no kind is retired
kind-current : (t : Table) (b : ℕ) (k : Kind) → OfKind t b k → Retired t b → ⊥
kind-current t b k o r = none-retired k (sym o.1 ∙ r.1)

pub kind-is : (t : Table) (b : ℕ) (k : Kind) → OfKind t b k → kind_of t b ≡ some k
kind-is t b k (h, q) = by (kind_of t b) refl
  where
    by : (o : Option Kind) → kind_of t b ≡ o → o ≡ some k
    by none e = absurd (⊎_elim (λ d. d.1 h) (λ d. kind-current t b k (h, q) d.1) (no_kind_lem t b e))
    by (some j) e = ap some (kind-number j k (sym (kind-then t b j e).1 ∙ q))

pub bad-none : (t : Table) (b : ℕ) → (Belongs t b → ⊥) → (kind_of t b ≡ none) × (no_kind t b ≡ 2)
bad-none t b h = by (kind_of t b) refl
  where
    by : (o : Option Kind) → kind_of t b ≡ o → (o ≡ none) × (no_kind t b ≡ 2)
    by none e = (refl, ⊎_elim (λ d. d.0) (λ d. absurd (h d.1.0)) (no_kind_lem t b e))
    by (some k) e = absurd (h (kind-then t b k e).0)

pub retired-none : (t : Table) (b : ℕ) → Retired t b → (kind_of t b ≡ none) × (no_kind t b ≡ 12)
retired-none t b r = by (kind_of t b) refl
  where
    by : (o : Option Kind) → kind_of t b ≡ o → (o ≡ none) × (no_kind t b ≡ 12)
    by none e = (refl, ⊎_elim (λ d. absurd (d.1 r.0)) (λ d. d.0) (no_kind_lem t b e))
    by (some k) e = absurd (kind-current t b k (kind-then t b k e) r)

-- ---- the newest node, and the kind byte of the record directly before

-- b is a kind byte of records that the newest node is made of, or no node that is joined; w: how wide the newest matrix's counts are written
abbrev pub Follows : Width → Newest → ℕ → Type 0
Follows w (a_list k least most n f us ns) b = After (joins k) b
Follows w (a_matrix i t us ns) b = (matrix_number w ≤ b) × (b ≤ matrix_number w + 3)
Follows w other b = ((16 ≤ b) × (b ≤ 17) → ⊥) × ((49 ≤ b) × (b ≤ 58) → ⊥) × ((65 ≤ b) × (b ≤ 68) → ⊥)

matrix-numbers : (w : Width) → (49 ≤ matrix_number w) × (matrix_number w ≤ 55)
matrix-numbers byte = omega arith
matrix-numbers pair = omega arith

tests-no : {P : Type 0} → (P → ⊥) → Tests false P
tests-no h = record { right = never; wrong = λ e. h }

tests-so : {P : Type 0} → P → Tests true P
tests-so h = record { right = λ e. h; wrong = λ e. never (sym e) }

module _ (w : Width) (b : ℕ) (vs : List ℕ) where
  resource-placed : {ns : List Node} {x : Newest} → View ns x → Follows w x b → Tests (both (joined Resource vs x).placed true) (After (joins Resource) b)
  unfolding joined
  resource-placed sees_processor f = tests-so f
  resource-placed sees_matrix f = tests-no λ h. omega (arith, matrix-numbers w)
  resource-placed sees_side f = tests-no λ h. omega arith
  resource-placed sees_window f = tests-no λ h. omega arith
  resource-placed sees_xor f = tests-no λ h. omega arith
  resource-placed sees_other f = tests-no λ h. f.0 h

  handle-placed : {ns : List Node} {x : Newest} → View ns x → Follows w x b → Tests (both (joined Handle vs x).placed true) (After (joins Handle) b)
  unfolding joined
  handle-placed sees_processor f = tests-no λ h. omega arith
  handle-placed sees_matrix f = by w f
    where
      by : (w : Width) → (matrix_number w ≤ b) × (b ≤ matrix_number w + 3) → Tests false (After (joins Handle) b)
      by byte f = tests-no λ h. omega arith
      by pair f = tests-no λ h. omega arith
  handle-placed sees_side f = tests-so f
  handle-placed sees_window f = tests-no λ h. omega arith
  handle-placed sees_xor f = tests-no λ h. omega arith
  handle-placed sees_other f = tests-no λ h. f.1 (omega arith)

  target-placed : {ns : List Node} {x : Newest} → View ns x → Follows w x b → Tests (both (joined WindowTarget vs x).placed true) (After (joins WindowTarget) b)
  unfolding joined
  target-placed sees_processor f = tests-no λ h. omega arith
  target-placed sees_matrix f = tests-no λ h. omega (arith, matrix-numbers w)
  target-placed sees_side f = tests-no λ h. omega arith
  target-placed sees_window f = tests-so f
  target-placed sees_xor f = tests-no λ h. omega arith
  target-placed sees_other f = tests-no λ h. f.2 (omega arith)

  map-placed : {ns : List Node} {x : Newest} → View ns x → Follows w x b → Tests (both (joined Map vs x).placed true) (After (joins Map) b)
  unfolding joined
  map-placed sees_processor f = tests-no λ h. omega arith
  map-placed sees_matrix f = tests-no λ h. omega (arith, matrix-numbers w)
  map-placed sees_side f = tests-no λ h. omega arith
  map-placed sees_window f = tests-no λ h. omega arith
  map-placed sees_xor f = tests-so f
  map-placed sees_other f = tests-no λ h. f.2 (omega arith)

  setting-placed : (o : Width) (tests : ℕ → ℕ → List Bool) (field : ℕ → ℕ → ℕ) (v : ℕ) {ns : List Node} {x : Newest} → View ns x → Follows w x b
      → Tests (both (setting tests field v x).placed (suits (sets o) w)) ((matrix_number o ≤ b) × (b ≤ matrix_number o + 3))
  unfolding setting
  setting-placed o tests field v sees_processor f = tests-no λ h. omega (arith, matrix-numbers o)
  setting-placed o tests field v sees_matrix f = by o w f
    where
      by : (o w : Width) → (matrix_number w ≤ b) × (b ≤ matrix_number w + 3) → Tests (suits (sets o) w) ((matrix_number o ≤ b) × (b ≤ matrix_number o + 3))
      by byte byte f = tests-so f
      by byte pair f = tests-no λ h. omega arith
      by pair byte f = tests-no λ h. omega arith
      by pair pair f = tests-so f
  setting-placed byte tests field v sees_side f = tests-no λ h. omega arith
  setting-placed pair tests field v sees_side f = tests-no λ h. omega arith
  setting-placed o tests field v sees_window f = tests-no λ h. omega (arith, matrix-numbers o)
  setting-placed o tests field v sees_xor f = tests-no λ h. omega (arith, matrix-numbers o)
  setting-placed o tests field v sees_other f = tests-no λ h. f.1 (omega (arith, matrix-numbers o))

module _ (w : Width) (b : ℕ) where
  tests-placed : (k : Kind) (vs : List ℕ) (ns : List Node) → Follows w (newest ns) b → Tests (both (step k vs ns).placed (suits (part_in k) w)) (After (joins k) b)
  unfolding step
  tests-placed Processor vs ns f = tests-true
  tests-placed Resource vs ns f = resource-placed w b vs (view ns) f
  tests-placed Cache vs ns f = tests-true
  tests-placed Memory vs ns f = tests-true
  tests-placed Acpi vs ns f = tests-true
  tests-placed Pci vs ns f = tests-true
  tests-placed Rintc vs ns f = tests-true
  tests-placed Domain vs ns f = tests-true
  tests-placed (Matrix o) vs ns f = tests-true
  tests-placed (Initiator o) vs ns f = setting-placed w b vs o _ _ _ (view ns) f
  tests-placed (Target o) vs ns f = setting-placed w b vs o _ _ _ (view ns) f
  tests-placed (Cell o) vs ns f = setting-placed w b vs o _ _ _ (view ns) f
  tests-placed Side vs ns f = tests-true
  tests-placed Handle vs ns f = handle-placed w b vs (view ns) f
  tests-placed Bridge vs ns f = tests-true
  tests-placed Window vs ns f = tests-true
  tests-placed WindowTarget vs ns f = target-placed w b vs (view ns) f
  tests-placed Xor vs ns f = tests-true
  tests-placed Map vs ns f = map-placed w b vs (view ns) f

-- where a record is placed, the newest node with it is of its kind
list-next : (w : Width) (k j : Kind) (least most n : ℕ) (f : Form) (us vs : List ℕ) (ns : List Node) → Follows w (newest_as f (us ++ vs) ns) (kind_number j)
    → (joined k vs (a_list j least most n f us ns)).placed ≡ true → Follows w (newest (joined k vs (a_list j least most n f us ns)).nodes) (kind_number k)
unfolding joined
list-next w k j least most n f us vs ns h e = by (eqb (kind_number k) (kind_number j)) refl e
  where
    by : (x : Bool) → eqb (kind_number k) (kind_number j) ≡ x → (pick x (changes [] (leb most n) (node f (us ++ vs)) ns) stray).placed ≡ true
        → Follows w (newest (pick x (changes [] (leb most n) (node f (us ++ vs)) ns) stray).nodes) (kind_number k)
    by true q e = rw (eqb-true (kind_number k) (kind_number j) q) h
    by false q e = never e

joined-next : (w : Width) (k : Kind) (vs : List ℕ) {ns : List Node} {x : Newest} → View ns x → (joined k vs x).placed ≡ true → Follows w (newest (joined k vs x).nodes) (kind_number k)
unfolding joined
joined-next w k vs (sees_processor {n} {us} {ns}) e = list-next w k Resource 0 58 n (processor (suc n)) us vs ns (omega arith) e
joined-next w k vs sees_matrix e = never e
joined-next w k vs (sees_side {n} {us} {ns}) e = list-next w k Handle 0 65535 n (side (suc n)) us vs ns (omega arith) e
joined-next w k vs (sees_window {n} {us} {ns}) e = list-next w k WindowTarget n n (length us - 7) (window n) us vs ns (omega arith) e
joined-next w k vs (sees_xor {n} {us} {ns}) e = list-next w k Map 0 255 n (xor (suc n)) us vs ns (omega arith) e
joined-next w k vs sees_other e = never e

-- settings that suit have indices as wide as the counts
pub same_width : (o w : Width) → suits (sets o) w ≡ true → o ≡ w
same_width byte byte e = refl
same_width byte pair e = never e
same_width pair byte e = never e
same_width pair pair e = refl

setting-next : (o w : Width) (tests : ℕ → ℕ → List Bool) (field : ℕ → ℕ → ℕ) (v : ℕ) (x : Newest) (n : ℕ) → n ≤ 3
    → both (setting tests field v x).placed (suits (sets o) w) ≡ true → Follows w (newest (setting tests field v x).nodes) (matrix_number o + n)
unfolding setting
setting-next o w tests field v (a_list k least most m f us ns) n h e = never e
setting-next o w tests field v (a_matrix i t us ns) n h e = rw (same_width o w e) (omega arith)
setting-next o w tests field v other n h e = never e

pub follows_next : (w : Width) (k : Kind) (vs : List ℕ) (ns : List Node) → both (step k vs ns).placed (suits (part_in k) w) ≡ true
    → Follows (width_behind (part_in k) w) (newest (added k vs ns)) (kind_number k)
unfolding step
follows_next w Processor vs ns e = omega arith
follows_next w Resource vs ns e = joined-next w Resource vs (view ns) (both_true (step Resource vs ns).placed true e).0
follows_next w Cache vs ns e = omega arith
follows_next w Memory vs ns e = omega arith
follows_next w Acpi vs ns e = omega arith
follows_next w Pci vs ns e = omega arith
follows_next w Rintc vs ns e = omega arith
follows_next w Domain vs ns e = omega arith
follows_next w (Matrix o) vs ns e = omega arith
follows_next w (Initiator o) vs ns e = setting-next o w _ _ _ (newest ns) 1 (omega arith) e
follows_next w (Target o) vs ns e = setting-next o w _ _ _ (newest ns) 2 (omega arith) e
follows_next w (Cell o) vs ns e = setting-next o w _ _ _ (newest ns) 3 (omega arith) e
follows_next w Side vs ns e = omega arith
follows_next w Handle vs ns e = joined-next w Handle vs (view ns) (both_true (step Handle vs ns).placed true e).0
follows_next w Bridge vs ns e = omega arith
follows_next w Window vs ns e = omega arith
follows_next w WindowTarget vs ns e = joined-next w WindowTarget vs (view ns) (both_true (step WindowTarget vs ns).placed true e).0
follows_next w Xor vs ns e = omega arith
follows_next w Map vs ns e = joined-next w Map vs (view ns) (both_true (step Map vs ns).placed true e).0

-- ---- the record that made the newest node

-- one that joins adds no node
joined-since : (k : Kind) (vs : List ℕ) (p w : ℕ) {ns : List Node} {x : Newest} → View ns x → (joined k vs x).placed ≡ true → since ns (joined k vs x).nodes p w ≡ w
unfolding joined
joined-since k vs p w v e = by-view v e
  where
    by : (j : Kind) (most n : ℕ) (f : Form) (us : List ℕ) (m : Node) (ns : List Node) (x : Bool) → (pick x (changes [] (leb most n) (node f (us ++ vs)) ns) stray).placed ≡ true
        → since (m ∷ ns) (pick x (changes [] (leb most n) (node f (us ++ vs)) ns) stray).nodes p w ≡ w
    by j most n f us m ns true e = rw (eq-eqb (suc (length ns)) (suc (length ns)) refl)
    by j most n f us m ns false e = never e

    by-view : {ns : List Node} {x : Newest} → View ns x → (joined k vs x).placed ≡ true → since ns (joined k vs x).nodes p w ≡ w
    by-view (sees_processor {n} {us} {ns}) e = by Resource 58 n (processor (suc n)) us (node (processor n) us) ns (eqb (kind_number k) 17) e
    by-view sees_matrix e = never e
    by-view (sees_side {n} {us} {ns}) e = by Handle 65535 n (side (suc n)) us (node (side n) us) ns (eqb (kind_number k) 54) e
    by-view (sees_window {n} {us} {ns}) e = by WindowTarget n (length us - 7) (window n) us (node (window n) us) ns (eqb (kind_number k) 66) e
    by-view (sees_xor {n} {us} {ns}) e = by Map 255 n (xor (suc n)) us (node (xor n) us) ns (eqb (kind_number k) 68) e
    by-view sees_other e = never e

setting-since : (tests : ℕ → ℕ → List Bool) (field : ℕ → ℕ → ℕ) (v p w : ℕ) {ns : List Node} {x : Newest} → View ns x → (setting tests field v x).placed ≡ true → since ns (setting tests field v x).nodes p w ≡ w
unfolding setting
setting-since tests field v p w sees_processor e = never e
setting-since tests field v p w (sees_matrix {i} {t} {us} {ns}) e = rw (eq-eqb (suc (length ns)) (suc (length ns)) refl)
setting-since tests field v p w sees_side e = never e
setting-since tests field v p w sees_window e = never e
setting-since tests field v p w sees_xor e = never e
setting-since tests field v p w sees_other e = never e

-- one that makes a node adds one
made-since : (ns : List Node) (p w : ℕ) → pick (eqb (suc (length ns)) (length ns)) w p ≡ p
made-since ns p w = rw (ne_eqb (suc (length ns)) (length ns) (λ i. omega arith))

pub since-made_at : (k : Kind) (vs : List ℕ) (ns : List Node) (p w : ℕ) → (step k vs ns).placed ≡ true → since ns (added k vs ns) p w ≡ made_at (joins k) p w
unfolding step
since-made_at Processor vs ns p w e = made-since ns p w
since-made_at Resource vs ns p w e = joined-since Resource vs p w (view ns) e
since-made_at Cache vs ns p w e = made-since ns p w
since-made_at Memory vs ns p w e = made-since ns p w
since-made_at Acpi vs ns p w e = made-since ns p w
since-made_at Pci vs ns p w e = made-since ns p w
since-made_at Rintc vs ns p w e = made-since ns p w
since-made_at Domain vs ns p w e = made-since ns p w
since-made_at (Matrix x) vs ns p w e = made-since ns p w
since-made_at (Initiator x) vs ns p w e = setting-since _ _ _ p w (view ns) e
since-made_at (Target x) vs ns p w e = setting-since _ _ _ p w (view ns) e
since-made_at (Cell x) vs ns p w e = setting-since _ _ _ p w (view ns) e
since-made_at Side vs ns p w e = made-since ns p w
since-made_at Handle vs ns p w e = joined-since Handle vs p w (view ns) e
since-made_at Bridge vs ns p w e = made-since ns p w
since-made_at Window vs ns p w e = made-since ns p w
since-made_at WindowTarget vs ns p w e = joined-since WindowTarget vs p w (view ns) e
since-made_at Xor vs ns p w e = made-since ns p w
since-made_at Map vs ns p w e = joined-since Map vs p w (view ns) e

-- ---- ranges

joined-ranged : (k : Kind) (vs : List ℕ) (x : Newest) → (joined k vs x).ranges ≡ []
unfolding joined
joined-ranged k vs (a_list j least most n f us ns) = by (eqb (kind_number k) (kind_number j))
  where
    by : (x : Bool) → (pick x (changes [] (leb most n) (node f (us ++ vs)) ns) stray).ranges ≡ []
    by true = refl
    by false = refl
joined-ranged k vs (a_matrix i t us ns) = refl
joined-ranged k vs other = refl

setting-ranged : (tests : ℕ → ℕ → List Bool) (field : ℕ → ℕ → ℕ) (v : ℕ) (P : ℕ → ℕ → List (Type 0)) → ((i t : ℕ) → TestsAll (tests i t) (P i t))
    → (x : Newest) → (setting tests field v x).placed ≡ true → TestsAll (setting tests field v x).ranges (P (counts x).0 (counts x).1)
unfolding setting
setting-ranged tests field v P h (a_list k least most n f us ns) e = never e
setting-ranged tests field v P h (a_matrix i t us ns) e = h i t
setting-ranged tests field v P h other e = never e

tests-ranged : (k : Kind) (vs : List ℕ) (ns : List Node) → (step k vs ns).placed ≡ true → TestsAll (step k vs ns).ranges (Ranged k vs (newest ns))
unfolding step
tests-ranged Processor vs ns e = tt
tests-ranged Resource vs ns e = rw (joined-ranged Resource vs (newest ns)) tt
tests-ranged Cache vs ns e = tests-rules cache vs
tests-ranged Memory vs ns e = tests-rules memory vs
tests-ranged Acpi vs ns e = tests-rules acpi vs
tests-ranged Pci vs ns e = tests-rules pci vs
tests-ranged Rintc vs ns e = tests-rules rintc vs
tests-ranged Domain vs ns e = tt
tests-ranged (Matrix w) vs ns e = tests-rules (matrix (at vs 4) (at vs 5)) vs
tests-ranged (Initiator w) vs ns e = setting-ranged _ _ _ (λ i t. (at vs 0 < i) ∷ []) (λ i t. (tests-ltb (at vs 0) i, tt)) (newest ns) e
tests-ranged (Target w) vs ns e = setting-ranged _ _ _ (λ i t. (at vs 0 < t) ∷ []) (λ i t. (tests-ltb (at vs 0) t, tt)) (newest ns) e
tests-ranged (Cell w) vs ns e =
    setting-ranged _ _ _ (λ i t. (at vs 0 < i) ∷ (at vs 1 < t) ∷ []) (λ i t. (tests-ltb (at vs 0) i, (tests-ltb (at vs 1) t, tt))) (newest ns) e
tests-ranged Side vs ns e = tests-rules (side 0) vs
tests-ranged Handle vs ns e = rw (joined-ranged Handle vs (newest ns)) tt
tests-ranged Bridge vs ns e = tests-rules (bridge (registers (at vs 1))) vs
tests-ranged Window vs ns e = tests-rules (window (ways (at vs 2))) vs
tests-ranged WindowTarget vs ns e = rw (joined-ranged WindowTarget vs (newest ns)) tt
tests-ranged Xor vs ns e = tests-rules (xor 0) vs
tests-ranged Map vs ns e = rw (joined-ranged Map vs (newest ns)) tt

-- a condition for each field at most
few-ranged : (k : Kind) (vs : List ℕ) (n : Newest) → length (Ranged k vs n) ≤ length (body k)
unfolding body
few-ranged Processor vs n = omega arith
few-ranged Resource vs n = omega arith
few-ranged Cache vs n = omega arith
few-ranged Memory vs n = omega arith
few-ranged Acpi vs n = omega arith
few-ranged Pci vs n = omega arith
few-ranged Rintc vs n = omega arith
few-ranged Domain vs n = omega arith
few-ranged (Matrix w) vs n = omega arith
few-ranged (Initiator w) vs n = omega arith
few-ranged (Target w) vs n = omega arith
few-ranged (Cell w) vs n = omega arith
few-ranged Side vs n = omega arith
few-ranged Handle vs n = omega arith
few-ranged Bridge vs n = omega arith
few-ranged Window vs n = omega arith
few-ranged WindowTarget vs n = omega arith
few-ranged Xor vs n = omega arith
few-ranged Map vs n = omega arith

-- where the fields are said to begin, the items of the body do
places-body : (k : Kind) → offsets 1 (body k) ≡ places k
unfolding body
places-body Processor = refl
places-body Resource = refl
places-body Cache = refl
places-body Memory = refl
places-body Acpi = refl
places-body Pci = refl
places-body Rintc = refl
places-body Domain = refl
places-body (Matrix w) = refl
places-body (Initiator w) = refl
places-body (Target w) = refl
places-body (Cell w) = refl
places-body Side = refl
places-body Handle = refl
places-body Bridge = refl
places-body Window = refl
places-body WindowTarget = refl
places-body Xor = refl
places-body Map = refl

-- ---- a full list

module _ (vs : List ℕ) where
  resource-full : {ns : List Node} {x : Newest} → View ns x → (joined Resource vs x).placed ≡ true → Tests (joined Resource vs x).full (Full Resource x)
  unfolding joined
  resource-full (sees_processor {n} {us}) e = tests-leb 58 n
  resource-full sees_matrix e = never e
  resource-full sees_side e = never e
  resource-full sees_window e = never e
  resource-full sees_xor e = never e
  resource-full sees_other e = never e

  handle-full : {ns : List Node} {x : Newest} → View ns x → (joined Handle vs x).placed ≡ true → Tests (joined Handle vs x).full (Full Handle x)
  unfolding joined
  handle-full sees_processor e = never e
  handle-full sees_matrix e = never e
  handle-full (sees_side {n} {us}) e = tests-leb 65535 n
  handle-full sees_window e = never e
  handle-full sees_xor e = never e
  handle-full sees_other e = never e

  target-full : {ns : List Node} {x : Newest} → View ns x → (joined WindowTarget vs x).placed ≡ true → Tests (joined WindowTarget vs x).full (Full WindowTarget x)
  unfolding joined
  target-full sees_processor e = never e
  target-full sees_matrix e = never e
  target-full sees_side e = never e
  target-full (sees_window {n} {us}) e = tests-leb n (length us - 7)
  target-full sees_xor e = never e
  target-full sees_other e = never e

  map-full : {ns : List Node} {x : Newest} → View ns x → (joined Map vs x).placed ≡ true → Tests (joined Map vs x).full (Full Map x)
  unfolding joined
  map-full sees_processor e = never e
  map-full sees_matrix e = never e
  map-full sees_side e = never e
  map-full sees_window e = never e
  map-full (sees_xor {n} {us}) e = tests-leb 255 n
  map-full sees_other e = never e

setting-full : (tests : ℕ → ℕ → List Bool) (field : ℕ → ℕ → ℕ) (v : ℕ) (x : Newest) → (setting tests field v x).full ≡ false
unfolding setting
setting-full tests field v (a_list k least most n f us ns) = refl
setting-full tests field v (a_matrix i t us ns) = refl
setting-full tests field v other = refl

tests-full : (k : Kind) (vs : List ℕ) (ns : List Node) → (step k vs ns).placed ≡ true → Tests (step k vs ns).full (Full k (newest ns))
unfolding step
tests-full Processor vs ns e = tests-no λ h. h
tests-full Resource vs ns e = resource-full vs (view ns) e
tests-full Cache vs ns e = tests-no λ h. h
tests-full Memory vs ns e = tests-no λ h. h
tests-full Acpi vs ns e = tests-no λ h. h
tests-full Pci vs ns e = tests-no λ h. h
tests-full Rintc vs ns e = tests-no λ h. h
tests-full Domain vs ns e = tests-no λ h. h
tests-full (Matrix w) vs ns e = tests-no λ h. h
tests-full (Initiator w) vs ns e = rw setting-full (tests-no λ h. h)
tests-full (Target w) vs ns e = rw setting-full (tests-no λ h. h)
tests-full (Cell w) vs ns e = rw setting-full (tests-no λ h. h)
tests-full Side vs ns e = tests-no λ h. h
tests-full Handle vs ns e = handle-full vs (view ns) e
tests-full Bridge vs ns e = tests-no λ h. h
tests-full Window vs ns e = tests-no λ h. h
tests-full WindowTarget vs ns e = target-full vs (view ns) e
tests-full Xor vs ns e = tests-no λ h. h
tests-full Map vs ns e = map-full vs (view ns) e

-- ---- references

-- n is the one that v names, of the type ty
abbrev Named : ℕ → ℕ → Node → List Node → Type 0
Named v ty n before = (v ≡ suc (length before)) × (type_of n.form ≡ ty)

named-below : (ns : List Node) (v ty : ℕ) → Names ns v ty → v ≤ length ns
named-below ns v ty (later, n, before, s, q) = omega (arith, simp length-append at (ap length s), q.0)

tests-names : (t : Table) (ns : List Node) (v ty : ℕ) → Tests (at_ordinal (starts t ns) v ty) (Names ns v ty)
unfolding starts at_ordinal
tests-names t [] v ty = record { right = never; wrong = λ e. among_none (Named v ty) }
tests-names t (n ∷ ns) v ty = by (eqb (suc (length (starts t ns))) v) refl (tests-names t ns v ty)
  where
    l : length (starts t ns) ≡ length ns
    l = length-starts t ns

    by : (x : Bool) → eqb (suc (length (starts t ns))) v ≡ x → Tests (at_ordinal (starts t ns) v ty) (Names ns v ty) → Tests (pick x (eqb (type_of n.form) ty) (at_ordinal (starts t ns) v ty)) (Names (n ∷ ns) v ty)
    by true q ih =
        let z : suc (length (starts t ns)) ≡ v = eqb-true (suc (length (starts t ns))) v q in
        record {
          right = λ e. ([], n, ns, refl, (omega (arith, l), eqb-true (type_of n.form) ty e));
          wrong = λ e h. ⊎_elim (λ k. eqb-false (type_of n.form) ty e k.1) (λ k. omega (arith, l, named-below ns v ty k)) (among_cases (Named v ty) n ns h);
        }
    by false q ih =
        record {
          right = λ e. among-more (Named v ty) n ns (ih.right e);
          wrong = λ e h. ⊎_elim (λ k. eqb-false (suc (length (starts t ns))) v q (omega (arith, l, k.0))) (ih.wrong e) (among_cases (Named v ty) n ns h);
        }

tests-backward : (ns : List Node) (v ty : ℕ) → Tests (is_ordinal (length ns) v ty) (Backward ns v ty)
unfolding is_ordinal
tests-backward ns v ty =
    tests-as (both (leb 1 v) (leb v (length ns))) (tests-both (leb 1 v) (leb v (length ns)) (tests-leb 1 v) (tests-leb v (length ns))) (λ h. omega (arith, h)) (λ h. omega (arith, h))

-- a resource's own node is the newest
resource-earlier : (vs : List ℕ) {ns : List Node} {x : Newest} → View ns x → (joined Resource vs x).placed ≡ true → (joined Resource vs x).earlier ≡ drop 1 ns
unfolding joined
resource-earlier vs sees_processor e = refl
resource-earlier vs sees_matrix e = never e
resource-earlier vs sees_side e = never e
resource-earlier vs sees_window e = never e
resource-earlier vs sees_xor e = never e
resource-earlier vs sees_other e = never e

-- a test of references, by the nodes before the record's own
module _ (ok : List Node → ℕ → ℕ → Bool) (P : List Node → ℕ → ℕ → Type 0) (names : (ns : List Node) (v ty : ℕ) → Tests (ok ns v ty) (P ns v ty)) (vs : List ℕ) where
  tests-refer : (k : Kind) (ns : List Node) → Tests (refs_good (ok ns) (body k) vs) (References (P ns) (body k) vs)
  tests-refer k ns = tests-references (ok ns) (P ns) (names ns) (body k) vs

  tests-refs : (k : Kind) (ns : List Node) → (step k vs ns).placed ≡ true
      → Tests (refs_good (ok (step k vs ns).earlier) (body k) vs) (References (P (earlier (joins k) ns)) (body k) vs)
  unfolding step body refs_good
  tests-refs Processor ns e = tests-refer Processor ns
  tests-refs Resource ns e = rw (resource-earlier vs (view ns) e) (tests-refer Resource (drop 1 ns))
  tests-refs Cache ns e = tests-refer Cache ns
  tests-refs Memory ns e = tests-true
  tests-refs Acpi ns e = tests-true
  tests-refs Pci ns e = tests-true
  tests-refs Rintc ns e = tests-true
  tests-refs Domain ns e = tests-true
  tests-refs (Matrix w) ns e = tests-true
  tests-refs (Initiator w) ns e = tests-true
  tests-refs (Target w) ns e = tests-true
  tests-refs (Cell w) ns e = tests-true
  tests-refs Side ns e = tests-true
  tests-refs Handle ns e = tests-true
  tests-refs Bridge ns e = tests-true
  tests-refs Window ns e = tests-true
  tests-refs WindowTarget ns e = tests-true
  tests-refs Xor ns e = tests-true
  tests-refs Map ns e = tests-true

-- ---- what comes behind a node that lacks entries

-- o is the kind that b names in table t, or none
target-comes : (t : Table) (b : ℕ) → Tests (is_kind WindowTarget (kind_of t b)) (OfKind t b WindowTarget)
target-comes t b = by (kind_of t b) refl
  where
    by : (o : Option Kind) → kind_of t b ≡ o → Tests (is_kind WindowTarget o) (OfKind t b WindowTarget)
    by none e = tests-no λ h. ⊎_elim (λ d. d.1 h.0) (λ d. kind-current t b WindowTarget h d.1) (no_kind_lem t b e)
    by (some k) e =
        let o = kind-then t b k e in
        record { right = λ q. (o.0, o.1 ∙ eqb-true (kind_number k) 66 q); wrong = λ q h. eqb-false (kind_number k) 66 q (sym o.1 ∙ h.1) }

-- the newest node lacks entries and none comes: 11; or not
abbrev pub Decided : Newest → Table → ℕ → Type 0
Decided x t b = ((lacking x (kind_of t b) ≡ 0) × (Lacks x → OfKind t b WindowTarget)) ⊎ ((lacking x (kind_of t b) ≡ 11) × ((Lacks x → OfKind t b WindowTarget) → ⊥))

ready-view : {ns : List Node} {x : Newest} → View ns x → (t : Table) (b : ℕ) → Decided x t b
unfolding lacking
ready-view (sees_processor {n} {us} {ns}) t b = inl (needless Resource 58 n (processor (suc n)) us ns (kind_of t b), λ l. absurd (omega arith))
ready-view sees_matrix t b = inl (refl, λ l. absurd (omega arith))
ready-view (sees_side {n} {us} {ns}) t b = inl (needless Handle 65535 n (side (suc n)) us ns (kind_of t b), λ l. absurd (omega arith))
ready-view (sees_window {n} {us} {ns}) t b = by (ltb (length us - 7) n) refl (is_kind WindowTarget (kind_of t b)) refl
  where
    by : (x : Bool) → ltb (length us - 7) n ≡ x → (y : Bool) → is_kind WindowTarget (kind_of t b) ≡ y
        → ((◌≡◌ {A = ℕ} (pick (both x (not y)) 11 0) 0) × (length us - 7 < n → OfKind t b WindowTarget)) ⊎ ((◌≡◌ {A = ℕ} (pick (both x (not y)) 11 0) 11) × ((length us - 7 < n → OfKind t b WindowTarget) → ⊥))
    by false q y i = inl (refl, λ l. absurd (omega (arith, ltb-false (length us - 7) n q)))
    by true q true i = inl (refl, λ l. (target-comes t b).right i)
    by true q false i = inr (refl, λ h. (target-comes t b).wrong i (h (ltb-true (length us - 7) n q)))
ready-view (sees_xor {n} {us} {ns}) t b = inl (needless Map 255 n (xor (suc n)) us ns (kind_of t b), λ l. absurd (omega arith))
ready-view sees_other t b = inl (refl, λ l. absurd (omega arith))

pub decided : (ns : List Node) (t : Table) (b : ℕ) → Decided (newest ns) t b
decided ns t b = ready-view (view ns) t b

-- ---- all faults of a whole record

module _ (t : Table) (u : Width) (b : ℕ) (ns : List Node) (k : Kind) (vs : List ℕ) (f : Follows u (newest ns) b) where
  placed : Bool
  placed = both (step k vs ns).placed (suits (part_in k) u)

  checks : List (Bool × ℕ)
  checks =
      (not placed, 4)
      ∷ (not (all (step k vs ns).ranges), 5)
      ∷ (not (refs_good (is_ordinal (length (step k vs ns).earlier)) (body k) vs), 6)
      ∷ (not (refs_good (at_ordinal (starts t (step k vs ns).earlier)) (body k) vs), 10)
      ∷ ((step k vs ns).full, 7)
      ∷ (ltb limit (front t + sizes (step k vs ns).nodes), 8) ∷ []

  mirrored : Mirrors (record_faults t b ns k vs) checks
  unfolding checks placed
  mirrored =
      let m = tests-not placed (tests-placed u b k vs ns f) in (
        omega arith,
        refl,
        m.right,
        λ e.
            let p = (both_true (step k vs ns).placed (suits (part_in k) u) (not-false placed e)).0 in
            let d = tests-not (all (step k vs ns).ranges) (tests-every (step k vs ns).ranges (Ranged k vs (newest ns)) (tests-ranged k vs ns p)) in
            let w = tests-not (refs_good (is_ordinal (length (step k vs ns).earlier)) (body k) vs) (tests-refs (λ ns. is_ordinal (length ns)) Backward tests-backward vs k ns p) in
            let r = tests-not (refs_good (at_ordinal (starts t (step k vs ns).earlier)) (body k) vs) (tests-refs (λ ns. at_ordinal (starts t ns)) Names (tests-names t) vs k ns p) in
            let l = tests-full k vs ns p in
            let x = tests-ltb limit (front t + sizes (added k vs ns)) in
            (m.wrong e, (omega arith, refl, d.right, λ e. (d.wrong e, (omega arith, refl, w.right, λ e. (w.wrong e, (omega arith, refl, r.right, λ e. (r.wrong e, (omega arith, refl, l.right, λ e. (l.wrong e, (omega arith, refl, x.right, λ e. (x.wrong e, tt))))))))))),
      )

  pub faultless : (fault t u ns k vs ≡ 0) ↔ NoneOf (record_faults t b ns k vs)
  unfolding fault checks placed
  faultless = none_of (record_faults t b ns k vs) checks mirrored

  pub faulty : (n : ℕ) → 0 < n → (fault t u ns k vs ≡ n) ↔ FirstOf n (record_faults t b ns k vs)
  unfolding fault checks placed
  faulty n z = first-of (record_faults t b ns k vs) checks mirrored n z

  -- ---- where

  -- a bad field is one of a record that stands where it may
  bad-placed : FirstOf 5 (record_faults t b ns k vs) → ((step k vs ns).placed ≡ true) × (all (step k vs ns).ranges ≡ false)
  unfolding placed
  bad-placed (a, d) = by placed refl (all (step k vs ns).ranges) refl
    where
      by : (x : Bool) → both (step k vs ns).placed (suits (part_in k) u) ≡ x → (y : Bool) → all (step k vs ns).ranges ≡ y → ((step k vs ns).placed ≡ true) × (y ≡ false)
      by false e y i = absurd (a ((tests-placed u b k vs ns f).wrong e))
      by true e true i =
          let p = (both_true (step k vs ns).placed (suits (part_in k) u) e).0 in
          absurd (d ((tests-every (step k vs ns).ranges (Ranged k vs (newest ns)) (tests-ranged k vs ns p)).right i))
      by true e false i = ((both_true (step k vs ns).placed (suits (part_in k) u) e).0, refl)

  -- of the first condition that does not hold, the field is the first bad one
  bad-at : (step k vs ns).placed ≡ true → (j : ℕ) → FirstNot j (Ranged k vs (newest ns)) → bad_in k (step k vs ns).ranges ≡ at (places k) j
  bad-at a j i =
      first-bad 1 (body k) (step k vs ns).ranges (Ranged k vs (newest ns)) j (tests-ranged k vs ns a) (few-ranged k vs (newest ns)) i ∙ ap (λ xs. at xs j) (places-body k)

  pub fault-where : (n p : ℕ) → FirstOf n (record_faults t b ns k vs) → Where n ns k vs p (p + fault_at n k (step k vs ns).ranges)
  unfolding fault_at
  fault-where n p d = by (eqb n 5) refl
    where
      by : (x : Bool) → eqb n 5 ≡ x
          → pick x ((j : ℕ) × FirstNot j (Ranged k vs (newest ns)) × (p + pick x (bad_in k (step k vs ns).ranges) 0 ≡ p + at (places k) j)) (p + pick x (bad_in k (step k vs ns).ranges) 0 ≡ p)
      by true e =
          let (a, z) = bad-placed (rw (eqb-true n 5 e) at d) in
          let (j, i) = first-not (step k vs ns).ranges (Ranged k vs (newest ns)) (tests-ranged k vs ns a) z in
          (j, i, ap (λ x. p + x) (bad-at a j i))
      by false e = add-zero p

  pub fault-place : (n p place : ℕ) → FirstOf n (record_faults t b ns k vs) → Where n ns k vs p place → p + fault_at n k (step k vs ns).ranges ≡ place
  unfolding fault_at
  fault-place n p place d w = by (eqb n 5) refl w
    where
      by : (x : Bool) → eqb n 5 ≡ x → pick x ((j : ℕ) × FirstNot j (Ranged k vs (newest ns)) × (place ≡ p + at (places k) j)) (place ≡ p)
          → p + pick x (bad_in k (step k vs ns).ranges) 0 ≡ place
      by true e (j, i, z) = ap (λ x. p + x) (bad-at (bad-placed (rw (eqb-true n 5 e) at d)).0 j i) ∙ sym z
      by false e z = add-zero p ∙ sym z
