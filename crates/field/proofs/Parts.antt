-- A whole number's two parts make it again: how often 256 goes into it, and what is left. By arithmetic.
use Rattle.std.proofs.Common.{◌≡◌, ℕ, arith}
use Rattle.field.specs.Whole.{number_of, whole_of}

pub whole-number : (n : ℕ) → number_of (whole_of n) ≡ n
whole-number n = omega arith
