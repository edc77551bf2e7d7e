-- Marks keep what holds of every mark, and a walk starts at none past what it looks for: by cases on the tests.
use mathlib.Core.Path.{◌≡◌, refl, sym, subst}
use mathlib.Core.Bool.{Bool, true, false}
use Prim.Native.Nat.{ℕ, zero, suc, ◌*◌, ◌+◌, ◌/◌, ◌%◌, ◌≤◌, ◌<◌}
use mathlib.Core.List.{List}
use native.Mathlib.Omega.{arith}
use lib.Dec.{eqb, ltb, leb}
use lib.ListN.{length, replicate, set}
use lib.Seq.{get_or-set_same, get_or-set_other}
use borrow.Author.Tests.{eqb-true, eqb-false, ltb-false, leb-false}
use Rattle.std.specs.Prelude.{Option, None, Some}
use Rattle.format.specs.Bytes.{pick, at}
use Rattle.marks.specs.declared.Mark.{Mark}
use Rattle.marks.specs.Marks.{kept, mark_in, slot, under, there, from_mark, noted, toward_node, toward_place, Every}

-- ---- where a walk starts

-- a walk starts at the mark that there is, unless it is past
abbrev pub start_at : Mark → (Mark → Bool) → Option Mark → Mark
start_at first past None = first
start_at first past (Some m) = pick (past m) first m

pub from_there : (first m : Mark) (past : Mark → Bool) → from_mark first m (past m) ≡ start_at first past (there m)
from_there first m past = by (eqb m.place 0)
  where
    by : (b : Bool) → pick b first (pick (past m) first m) ≡ start_at first past (pick b None (Some m))
    by true = refl
    by false = refl

-- what holds of the first and of the mark, where there is one that is not past, holds of the start
pub start-keeps : (P : Mark → Type 0) (first m : Mark) (past : Bool) → P first → ((m.place ≡ 0 → ⊥) → past ≡ false → P m) → P (from_mark first m past)
start-keeps P first m past p h = by (eqb m.place 0) refl
  where
    last : (b : Bool) → past ≡ b → (m.place ≡ 0 → ⊥) → P (pick b first m)
    last true e z = p
    last false e z = h z e

    by : (b : Bool) → eqb m.place 0 ≡ b → P (pick b first (pick past first m))
    by true e = p
    by false e = last past refl (eqb-false m.place 0 e)

pub node-keeps : (P : Mark → Type 0) (first : Mark) (shift i : ℕ) (ms : List ℕ) → P first → Every P ms → P (toward_node first shift i ms)
unfolding toward_node under
node-keeps P first shift i ms p h = start-keeps P first (under ms shift i) (ltb i (under ms shift i).nodes) p (λ z e. h (slot shift i) z)

pub node-before : (first : Mark) (shift i : ℕ) (ms : List ℕ) → first.nodes ≤ i → (toward_node first shift i ms).nodes ≤ i
unfolding toward_node
node-before first shift i ms l = start-keeps (λ m. m.nodes ≤ i) first (under ms shift i) (ltb i (under ms shift i).nodes) l (λ z e. ltb-false i (under ms shift i).nodes e)

pub place-keeps : (P : Mark → Type 0) (first : Mark) (shift v : ℕ) (ms : List ℕ) → P first → Every P ms → P (toward_place first shift v ms)
unfolding toward_place under
place-keeps P first shift v ms p h = start-keeps P first (under ms shift v) (ltb v (under ms shift v).place) p (λ z e. h (slot shift v) z)

pub place-before : (first : Mark) (shift v : ℕ) (ms : List ℕ) → first.place ≤ v → (toward_place first shift v ms).place ≤ v
unfolding toward_place
place-before first shift v ms l = start-keeps (λ m. m.place ≤ v) first (under ms shift v) (ltb v (under ms shift v).place) l (λ z e. ltb-false v (under ms shift v).place e)

-- ---- what is kept

-- a mark out of its number is the mark
pub kept-mark : (m : Mark) → m.place < 4294967296 → mark_in (kept m) ≡ m
kept-mark m l = rw (nodes-of, place_of)
  where
    nodes-of : (m.nodes * 4294967296 + m.place) / 4294967296 ≡ m.nodes
    nodes-of = omega arith

    place_of : (m.nodes * 4294967296 + m.place) % 4294967296 ≡ m.place
    place_of = omega arith

-- where nothing is kept, there is none
pub none_kept : (P : Mark → Type 0) (n : ℕ) → Every P (replicate n 0)
none_kept P n i z = absurd (z (rw (at_none n i)))
  where
    at_none : (n i : ℕ) → at (replicate n 0) i ≡ 0
    at_none zero i = refl
    at_none (suc n) zero = refl
    at_none (suc n) (suc i) = at_none n i

-- what holds of every mark holds with one more of which it holds
pub noted-keeps : (P : Mark → Type 0) (m : Mark) (shift key : ℕ) (ms : List ℕ) → m.place < 4294967296 → P m → Every P ms → Every P (noted m shift key ms)
unfolding noted
noted-keeps P m shift key ms s p h = by (leb (length ms) (slot shift key)) refl
  where
    k : ℕ
    k = slot shift key

    one : k < length ms → Every P (set ms k (kept m))
    one l i z = there (eqb i k) refl
      where
        there : (b : Bool) → eqb i k ≡ b → P (mark_in (at (set ms k (kept m)) i))
        there true e = let q : i ≡ k = eqb-true i k e in subst P (sym (rw (q, get_or-set_same ms k (kept m) 0 l) (kept-mark m s))) p
        there false e = let q = get_or-set_other ms k i (kept m) 0 (eqb-false i k e) in subst (λ (n : ℕ). P (mark_in n)) (sym q) (h i (rw q at z))

    free : (b : Bool) → k < length ms → Every P (pick b (set ms k (kept m)) ms)
    free true l = one l
    free false l = h

    by : (b : Bool) → leb (length ms) k ≡ b → Every P (pick b ms (pick (eqb (at ms k) 0) (set ms k (kept m)) ms))
    by true e = h
    by false e = free (eqb (at ms k) 0) (leb-false (length ms) k e)
