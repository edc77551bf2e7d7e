-- Two outcomes of the call that meet its contract show the same: it equates the answer and the buffer afterwards with one pair.
use Prim.Native.Nat.{ℕ}
use mathlib.Core.List.{List}
use Rattle.laws.specs.Unique.{Fixes}
use Rattle.laws.proofs.Sole.{sole}
use Rattle.sums.proofs.lines.Reads as lines

-- what the contract fixes of the result `x` and of the parameters afterwards, `p`
pub record Unique : Type 0 where
  lines : Fixes {S = ℕ × List ℕ} lines.Learnt (λ k x p. (x, p.1.0.now))

pub unique : Unique
unique = record { lines = λ k a x y p q. sole }
