-- The library's bytes of a number, the lowest first, are those of `le` and `value`.
use Rattle.std.proofs.Common.{◌≡◌, ℕ, zero, suc, ◌/◌, ◌^◌, List, length, take, ap, sym, ◌∙◌, refl, arith, take_all}
use Rattle.std.specs.Int.{bytes_low_first, sum_through, byte_worth}
use native.Mathlib.Nat.{pow-suc, div-div-eq-div-mul, div-one, mul_comm, zero-add}
use native.Mathlib.Numerals.{add-one}
use Rattle.std.specs.Prelude.{replicate, drop}
use Rattle.format.specs.Bytes.{at, le, value, part, over}
use Rattle.laws.proofs.Bytes.{value-byte, value-parts, value-padded, length_over}
use lib.ListN.{length-replicate}

low-first : (i k n : ℕ) → bytes_low_first i k n ≡ le k (n / 256 ^ i)
unfolding le
low-first zero zero n = refl
low-first (suc i) zero n = refl
low-first zero (suc k) n = rw (div-one, low-first 1 k n)
low-first (suc i) (suc k) n = rw (low-first (suc (suc i)) k n, div-div-eq-div-mul, ← pow-suc)

-- the bytes of a number
pub bytes-le : (k n : ℕ) → bytes_low_first 0 k n ≡ le k n
bytes-le k n = low-first 0 k n ∙ rw div-one

worths : (xs : List ℕ) (k : ℕ) → sum_through (λ i. byte_worth i (at xs i)) k ≡ value (take (suc k) xs)
unfolding part
worths xs zero = value-byte xs 0
worths xs (suc k) =
    let p = rw (zero-add, ← value-byte, mul_comm, add-one) at (value-parts xs 0 (suc k) 1) in
    rw (worths xs k) p

-- the number that bytes stand for
pub bytes-value : (xs : List ℕ) (k : ℕ) → length xs ≡ suc k → sum_through (λ i. byte_worth i (at xs i)) k ≡ value xs
bytes-value xs k e = worths xs k ∙ ap value (take_all (suc k) xs (omega (arith, e)))

-- the number in the bytes from a place on, zeros where there are none
pub padded-value : (xs : List ℕ) (p k : ℕ) → sum_through (λ i. byte_worth i (at (over (replicate (suc k) 0) 0 (drop p xs)) i)) k ≡ value (part xs p (suc k))
unfolding part
padded-value xs p k =
    let ys : List ℕ = over (replicate (suc k) 0) 0 (drop p xs) in
    let l : length ys ≡ suc k = length_over (replicate (suc k) 0) 0 (drop p xs) ∙ length-replicate (suc k) 0 in
    bytes-value ys k l ∙ sym (ap value (take_all (suc k) ys (omega (arith, l)))) ∙ value-padded xs p (suc k) (suc k) (omega arith)
