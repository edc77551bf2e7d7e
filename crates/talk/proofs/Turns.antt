-- The turns of the loops over text, and their ends.
use mathlib.Core.Path.{◌≡◌, refl}
use Prim.Native.Nat.{ℕ, ◌+◌, ◌*◌, ◌/◌, ◌≤◌, ◌<◌, min}
use mathlib.Core.List.{List, [], ◌∷◌}
use mathlib.Core.Bool.{Bool, true, false}
use native.Mathlib.Nat.{zero-add}
use native.Mathlib.Omega.{arith}
use borrow.Author.Tests.{leb-true, leb-false}
use lib.Dec.{leb}
use lib.ListN.{length, drop, set, length-drop, drop_of_length-le}
use Rattle.format.specs.Bytes.{at, over}
use Rattle.laws.proofs.Bytes.{drop-turn, over-turn, over_none, over-past}
use Rattle.talk.specs.Numbers.{step_to, onto, number_from, number_in}
use Rattle.talk.specs.Hex.{pair_of, pairs}
use Rattle.std.specs.Prelude.{Some, None}

module _ (s : List ℕ) (i : ℕ) (h : i < length s) where
  pub number-turn : (most v : ℕ) → number_from most v (drop i s) ≡ onto (step_to most v (at s i)) (λ (w : ℕ). number_from most w (drop (i + 1) s))
  unfolding number_from
  number-turn most v = rw (drop-turn s i h)

module _ (s : List ℕ) (i : ℕ) (h : length s ≤ i) where
  pub number-end : (most v : ℕ) → number_from most v (drop i s) ≡ Some v
  unfolding number_from
  number-end most v = rw (drop_of_length-le s h)

pub number-none : (most : ℕ) (s : List ℕ) → length s ≡ 0 → number_in most s ≡ None
unfolding number_in
number-none most [] h = refl
number-none most (b ∷ bs) h = absurd (omega arith)

pub number-some : (most : ℕ) (s : List ℕ) → (length s ≡ 0 → ⊥) → number_in most s ≡ number_from most 0 s
unfolding number_in
number-some most [] h = absurd (h refl)
number-some most (b ∷ bs) h = refl

module _ (text : List ℕ) (i : ℕ) (h : 2 * i + 1 < length text) where
  pairs-turn : pairs (drop (2 * i) text) ≡ pair_of (at text (2 * i)) (at text (2 * i + 1)) ∷ pairs (drop (2 * (i + 1)) text)
  unfolding pairs
  pairs-turn =
      let k : 2 * i < length text = omega arith in
      let e : 2 * (i + 1) ≡ 2 * i + 1 + 1 = omega arith in
      rw (drop-turn text (2 * i) k, drop-turn text (2 * i + 1) h, e)

  pub unhex-turn : (out : List ℕ) → over (set out i (pair_of (at text (2 * i)) (at text (2 * i + 1)))) (i + 1) (pairs (drop (2 * (i + 1)) text)) ≡ over out i (pairs (drop (2 * i) text))
  unhex-turn out = simp zero-add at (over-turn out 0 i _ _ _ pairs-turn)

pairs-short : (s : List ℕ) → length s ≤ 1 → pairs s ≡ []
unfolding pairs
pairs-short [] h = refl
pairs-short (a ∷ []) h = refl
pairs-short (a ∷ b ∷ bs) h = absurd (omega arith)

-- nothing is still to come where the digits end, or the room
pub unhex-end : (text out : List ℕ) (i : ℕ) → min (length out) (length text / 2) ≤ i → over out i (pairs (drop (2 * i) text)) ≡ out
unhex-end text out i h = by (leb (length out) i) refl
  where
    by : (b : Bool) → leb (length out) i ≡ b → over out i (pairs (drop (2 * i) text)) ≡ out
    by true l = over-past out i _ (leb-true (length out) i l)
    by false l =
        let m = leb-false (length out) i l in
        rw (pairs-short (drop (2 * i) text) (simp length-drop (omega arith))) (over_none out i [] (omega arith))
