-- What build and reading out leave in a lent buffer: a refusal writes nothing, and what is given stands at the front, with the bytes past it kept.
use Rattle.std.specs.Prelude.{◌≡◌, ℕ, ◌≤◌, List, length, take, drop}
use Rattle.format.specs.Bytes.{Answer, refused, given}

-- n bytes bs at the front of a buffer, which is otherwise as it was
pub record Front (n : ℕ) (bs buffer after : List ℕ) : Type 0 where
  pub long : length bs ≡ n
  pub room : n ≤ length buffer
  pub first : take n after ≡ bs
  pub past : drop n after ≡ drop n buffer
  pub same : length after ≡ length buffer

-- a buffer after a call whose answer is the length of what it writes, bs
abbrev pub Leaves : Answer ℕ → List ℕ → List ℕ → List ℕ → Type 0
Leaves (refused n p) bs buffer after = after ≡ buffer
Leaves (given n) bs buffer after = Front n bs buffer after
