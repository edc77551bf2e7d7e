-- Bytes laid into a buffer one behind the other.
use Rattle.std.specs.Prelude.{◌≡◌, ℕ, zero, suc, ◌+◌, ◌≤◌, List, [], ◌++◌, length}
use Rattle.format.specs.Bytes.{over}

-- of the buffer before, xs laid from place p on makes the buffer after, and the next place is q
pub record Laid (before after : List ℕ) (p : ℕ) (xs : List ℕ) (q : ℕ) : Type 0 where
  pub bytes : after ≡ over before p xs
  pub next : q ≡ p + length xs

-- what is laid for each number of a list, a few bytes
pub record Calls : Type 0 where
  pub of : ℕ → List ℕ
  pub short : (i : ℕ) → length (of i) ≤ 9

-- what a function gives for each number below n, one behind the other
unfoldable pub up_to : (ℕ → List ℕ) → ℕ → List ℕ
up_to f zero = []
up_to f (suc n) = up_to f n ++ f n
