-- A whole number as `Whole` holds it: how often 256 goes into it, and what is left.
use Rattle.std.specs.Prelude.{ℕ, ◌+◌, ◌*◌, ◌/◌, ◌%◌}
use Rattle.field.specs.declared.Whole.{Whole}

-- the number
abbrev pub number_of : Whole → ℕ
number_of w = 256 * w.high + w.low

-- a number's parts
abbrev pub whole_of : ℕ → Whole
whole_of n = record { high = n / 256; low = n % 256 }
