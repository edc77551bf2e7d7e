-- The settings of a matrix, as records of a recipe.
use Rattle.std.specs.Prelude.{ℕ, ◌+◌, ◌*◌}

-- a record of kind 50, 51 or 52, or of 56 to 58
pub data Setting : Type 0 where
  initiator : ℕ → ℕ → Setting  -- index, number
  target : ℕ → ℕ → Setting
  cell : ℕ → ℕ → ℕ → Setting  -- initiator, target, number

-- which field of an I by T matrix it sets
abbrev pub spot : ℕ → ℕ → Setting → ℕ
spot i t (initiator j v) = 4 + j
spot i t (target j v) = 4 + i + j
spot i t (cell j k v) = 4 + i + t + j * t + k

-- the number that it sets the field to
abbrev pub set_to : Setting → ℕ
set_to (initiator j v) = v
set_to (target j v) = v
set_to (cell j k v) = v
