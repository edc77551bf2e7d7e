-- A place that may be missing.
use Rattle.std.specs.Prelude.{ℕ, zero, suc, Option, Some, None}

-- the place that a number stands for, where 0 stands for none
abbrev pub place_or_none : ℕ → Option ℕ
place_or_none zero = None
place_or_none (suc n) = Some (suc n)
