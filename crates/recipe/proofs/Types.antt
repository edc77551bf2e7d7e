-- The types of nodes as bits in words of 64: a bit is read back, and a type more is one sum in one word. Lists by induction, words by where the list ends.
use mathlib.Core.Path.{◌≡◌, refl, sym, ap, ◌∙◌}
use Prim.Native.Nat.{ℕ, zero, suc, ◌+◌, ◌*◌, ◌/◌, ◌%◌, ◌^◌, ◌≤◌, ◌<◌}
use mathlib.Core.List.{List, [], ◌∷◌, ◌++◌}
use mathlib.Core.Bool.{Bool, true, false}
use native.Mathlib.Nat.{add-zero, zero-mul, one-mul, mul_left_comm, pow-succ', zero-div, div-one, div-div-eq-div-mul, div-add-mod}
use native.Mathlib.Omega.{arith}
use lib.ListN.{length, take, drop, set, replicate, length-append, length-drop, drop_of_length-le}
use lib.Seq.{get_or-drop, drop-append-le, take-append-le, take_all, take-nil, drop-nil, get_or-set_same, get_or-set_other}
use lib.Dec.{eqb, ltb}
use lib.Pow.{pow_pos}
use borrow.Author.Tests.{eqb-true, eqb-false, ltb-true, ltb-false}
use Rattle.format.specs.Bytes.{at}
use Rattle.recipe.specs.Machine.{Bits, bits_in, bit_at, Typed, Clear}

-- ---- lists of bits

bits-append : (bs cs : List ℕ) → Bits bs → Bits cs → Bits (bs ++ cs)
bits-append [] cs h l = l
bits-append (b ∷ bs) cs h l = (h.0, bits-append bs cs h.1 l)

pub bits-parts : (bs cs : List ℕ) → Bits (bs ++ cs) → Bits bs × Bits cs
bits-parts [] cs h = (tt, h)
bits-parts (b ∷ bs) cs h = let (x, y) = bits-parts bs cs h.1 in ((h.0, x), y)

bits-drop : (n : ℕ) (bs : List ℕ) → Bits bs → Bits (drop n bs)
bits-drop zero bs h = h
bits-drop (suc n) [] h = h
bits-drop (suc n) (b ∷ bs) h = bits-drop n bs h.1

-- the bits behind the first
half : (b x : ℕ) → b < 2 → (b + 2 * x) / 2 ≡ x
half b x h = omega arith

-- bit i of the first n
read-bit : (n : ℕ) (bs : List ℕ) (i : ℕ) → i < n → Bits bs → bits_in (take n bs) / 2 ^ i % 2 ≡ at bs i
unfolding bits_in
read-bit zero bs i l h = absurd (omega arith)
read-bit (suc n) [] i l h = rw zero-div
read-bit (suc n) (b ∷ bs) zero l h = let q : b < 2 = h.0 in rw div-one (omega arith)
read-bit (suc n) (b ∷ bs) (suc i) l h = rw (pow-succ', ← div-div-eq-div-mul, half b (bits_in (take n bs)) h.0) (read-bit n bs i (omega arith) h.1)

-- the first n are small
bits-low : (n : ℕ) (bs : List ℕ) → Bits bs → bits_in (take n bs) < 2 ^ length bs
unfolding bits_in
bits-low zero bs h = pow_pos (length bs)
bits-low (suc n) [] h = omega arith
bits-low (suc n) (b ∷ bs) h = let q : b < 2 = h.0 in rw pow-succ' (omega (arith, bits-low n bs h.1))

-- one more, behind
bits-more : (bs : List ℕ) (b : ℕ) → bits_in (bs ++ (b ∷ [])) ≡ bits_in bs + b * 2 ^ length bs
unfolding bits_in
bits-more [] b = omega arith
bits-more (c ∷ bs) b = rw (pow-succ', bits-more bs b, mul_left_comm b 2) (omega arith)

-- ---- words

-- words that are 0 hold no type yet
pub typed-none : (n : ℕ) → Typed (replicate n 0) []
unfolding bits_in
typed-none n = record { two = tt; bits = λ j. zero-at n j ∙ sym (ap bits_in (ap (take 64) (drop-nil (64 * j)) ∙ take-nil 64)) }
  where
    zero-at : (n j : ℕ) → at (replicate n 0) j ≡ 0
    zero-at zero j = refl
    zero-at (suc n) zero = refl
    zero-at (suc n) (suc j) = zero-at n j

module _ (ws ts : List ℕ) (w : Typed ws ts) where
  -- the word that the list ends in
  abbrev last : ℕ
  last = length ts / 64

  pub read-type : (i : ℕ) → bit_at ws i ≡ at ts i
  read-type i =
      rw (w.bits (i / 64), read-bit 64 (drop (64 * (i / 64)) ts) (i % 64) (omega arith) (bits-drop (64 * (i / 64)) ts w.two), get_or-drop (64 * (i / 64)) ts (i % 64) 0, div-add-mod)

  -- so many of its bits are taken
  length_last : length (drop (64 * last) ts) ≡ length ts % 64
  length_last = rw length-drop (omega arith)

  pub clear_next : length ts < 64 * length ws → Clear ws (length ts)
  clear_next l =
      record { there = omega arith; low = rw (w.bits last, ← length_last) (bits-low 64 (drop (64 * last) ts) (bits-drop (64 * last) ts w.two)) }

  -- one type more is in the last word alone
  module _ (b : ℕ) where
    other_word : (j : ℕ) → (j ≡ last → ⊥) → take 64 (drop (64 * j) (ts ++ (b ∷ []))) ≡ take 64 (drop (64 * j) ts)
    other_word j ne = by (ltb j last) refl
      where
        by : (x : Bool) → ltb j last ≡ x → take 64 (drop (64 * j) (ts ++ (b ∷ []))) ≡ take 64 (drop (64 * j) ts)
        by true e =
            let l : j < last = ltb-true j last e in
            rw (drop-append-le (64 * j) ts (b ∷ []) (omega arith), take-append-le 64 (drop (64 * j) ts) (b ∷ []) (rw length-drop (omega arith)))
        by false e =
            let l : last ≤ j = ltb-false j last e in
            let m : length (ts ++ (b ∷ [])) ≤ 64 * j = rw length-append (omega (arith, ne)) in
            let n : length ts ≤ 64 * j = omega (arith, ne) in
            rw (drop_of_length-le (ts ++ (b ∷ [])) m, drop_of_length-le ts n)

    last_word : bits_in (take 64 (drop (64 * last) (ts ++ (b ∷ [])))) ≡ at ws last + b * 2 ^ (length ts % 64)
    last_word =
        rw (
          drop-append-le (64 * last) ts (b ∷ []) (omega arith),
          take_all 64 (drop (64 * last) ts ++ (b ∷ [])) (rw (length-append, length_last) (omega arith)),
          bits-more (drop (64 * last) ts) b,
          length_last,
          w.bits last,
          take_all 64 (drop (64 * last) ts) (rw length_last (omega arith)),
        )

  pub typed-zero : Typed ws (ts ++ (0 ∷ []))
  typed-zero = record { two = bits-append ts (0 ∷ []) w.two (omega arith, tt); bits = λ j. by j (eqb j last) refl }
    where
      by : (j : ℕ) (x : Bool) → eqb j last ≡ x → at ws j ≡ bits_in (take 64 (drop (64 * j) (ts ++ (0 ∷ []))))
      by j true e = rw (eqb-true j last e, last_word 0, zero-mul, add-zero)
      by j false e = w.bits j ∙ sym (ap bits_in (other_word 0 j (eqb-false j last e)))

  pub typed_one : last < length ws → Typed (set ws last (at ws last + 2 ^ (length ts % 64))) (ts ++ (1 ∷ []))
  typed_one l = record { two = bits-append ts (1 ∷ []) w.two (omega arith, tt); bits = λ j. by j (eqb j last) refl }
    where
      v : ℕ
      v = at ws last + 2 ^ (length ts % 64)

      by : (j : ℕ) (x : Bool) → eqb j last ≡ x → at (set ws last v) j ≡ bits_in (take 64 (drop (64 * j) (ts ++ (1 ∷ []))))
      by j true e = rw (eqb-true j last e, last_word 1, one-mul) (get_or-set_same ws last v 0 l)
      by j false e = get_or-set_other ws last j v 0 (eqb-false j last e) ∙ w.bits j ∙ sym (ap bits_in (other_word 1 j (eqb-false j last e)))
