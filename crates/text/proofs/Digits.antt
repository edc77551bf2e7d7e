-- What is written of numbers and bytes, one piece after the other: a number's last digit stands behind those of its tenth.
use mathlib.Core.Path.{◌≡◌, refl, ◌∙◌}
use Prim.Native.Nat.{ℕ, zero, suc, ◌+◌, ◌/◌, ◌%◌, ◌^◌, ◌≤◌, ◌<◌}
use mathlib.Core.List.{List, [], ◌∷◌, ◌++◌}
use mathlib.Core.Bool.{Bool, true, false}
use native.Mathlib.Nat.{pow-succ', mul_comm, div-lt_iff_lt-mul, zero-lt-suc, mod-eq_of_lt}
use native.Mathlib.Omega.{arith}
use borrow.Author.Tests.{lt-ltb, le-ltb}
use lib.Dec.{ltb}
use lib.ListN.{length, drop, length-append, drop_of_length-le}
use Rattle.format.specs.Bytes.{pick, at}
use Rattle.format.specs.Listing.{digits}
use Rattle.laws.proofs.Bytes.{drop-turn}
use Rattle.text.specs.Text.{glyph, pairs, hexed, others, listed}

-- ---- decimal digits

tenth : (k v : ℕ) → v < 10 ^ suc k → v / 10 < 10 ^ k
tenth k v h = (div-lt_iff_lt-mul (zero-lt-suc 9)).1 (rw (pow-succ', mul_comm 10) at h)

-- room for more digits than there are changes nothing
enough : (k v : ℕ) → v < 10 ^ suc k → digits (suc k) v ≡ digits (suc (suc k)) v
unfolding digits
enough zero v h = rw (lt-ltb v 10 (omega arith))
enough (suc k) v h = rw (enough k (v / 10) (tenth (suc k) v h))

pub digits-one : (v : ℕ) → v < 10 → digits 20 v ≡ (48 + v) ∷ []
unfolding digits
digits-one v h = rw (lt-ltb v 10 h, mod-eq_of_lt h)

last : (k v : ℕ) → 10 ≤ v → digits (suc k) v ≡ digits k (v / 10) ++ ((48 + v % 10) ∷ [])
unfolding digits
last k v h = rw (le-ltb v 10 h)

pub digits_more : (k v : ℕ) → 10 ≤ v → v < 10 ^ suc (suc k) → digits (suc (suc k)) v ≡ digits (suc (suc k)) (v / 10) ++ ((48 + v % 10) ∷ [])
digits_more k v h l = last (suc k) v h ∙ rw (enough k (v / 10) (tenth (suc k) v l))

-- 20 digits are enough for a number that fits 64 bits
pub digits-short : (v : ℕ) → v < 10 ^ 20 → digits 20 v ≡ digits 22 v
digits-short v h = enough 19 v h ∙ enough 20 v (omega arith)

one_more : (x : Bool) (ds : List ℕ) (c n : ℕ) → length ds ≤ n → length (pick x [] ds ++ (c ∷ [])) ≤ suc n
one_more true ds c n h = omega arith
one_more false ds c n h = simp length-append (omega arith)

-- no more digits than there is room for
pub digits-most : (k v : ℕ) → length (digits k v) ≤ k
unfolding digits
digits-most zero v = omega arith
digits-most (suc k) v = one_more (ltb v 10) (digits k (v / 10)) (48 + v % 10) k (digits-most k (v / 10))

-- nor than the number has
pub digits-few : (k j v : ℕ) → v < 10 ^ suc j → length (digits k v) ≤ suc j
unfolding digits
digits-few zero j v h = omega arith
digits-few (suc k) zero v h = rw (lt-ltb v 10 (omega arith)) (omega arith)
digits-few (suc k) (suc j) v h = one_more (ltb v 10) (digits k (v / 10)) (48 + v % 10) (suc j) (digits-few k j (v / 10) (tenth (suc j) v h))

-- ---- the first of a list, or none

pub hexed-none : (s : List ℕ) → length s ≡ 0 → hexed s ≡ 45 ∷ []
unfolding hexed
hexed-none [] h = refl
hexed-none (b ∷ bs) h = absurd (omega arith)

pub hexed-some : (s : List ℕ) → (length s ≡ 0 → ⊥) → hexed s ≡ pairs s
unfolding hexed
hexed-some [] h = absurd (h refl)
hexed-some (b ∷ bs) h = refl

pub listed-none : (vs : List ℕ) → length vs ≡ 0 → listed vs ≡ []
unfolding listed
listed-none [] h = refl
listed-none (v ∷ vs) h = absurd (omega arith)

-- ---- loops

pub pairs-turn : (s : List ℕ) (i : ℕ) → i < length s → pairs (drop i s) ≡ glyph (at s i / 16) ∷ glyph (at s i) ∷ pairs (drop (i + 1) s)
unfolding pairs
pairs-turn s i h = rw (drop-turn s i h)

pub pairs_end : (s : List ℕ) (i : ℕ) → length s ≤ i → pairs (drop i s) ≡ []
unfolding pairs
pairs_end s i h = rw (drop_of_length-le s h)

pub others-turn : (vs : List ℕ) (i : ℕ) → i < length vs → others (drop i vs) ≡ 44 ∷ (digits 20 (at vs i) ++ others (drop (i + 1) vs))
unfolding others
others-turn vs i h = rw (drop-turn vs i h)

pub others-end : (vs : List ℕ) (i : ℕ) → length vs ≤ i → others (drop i vs) ≡ []
unfolding others
others-end vs i h = rw (drop_of_length-le vs h)
