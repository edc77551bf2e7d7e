-- Two outcomes of `field` that meet its contract show the same: the contract equates the answer and the buffer afterwards with one pair.
use Prim.Native.Nat.{ℕ}
use mathlib.Core.List.{List}
use Rattle.laws.specs.Unique.{Fixes}
use Rattle.laws.proofs.Sole.{sole}
use Rattle.blames.proofs.field.Reads as field

-- for each public function: what its contract fixes of the result `x` and of the parameters afterwards, `p`
pub record Unique : Type 0 where
  field : Fixes {S = ℕ × List ℕ} field.Learnt (λ k x p. (x, p.1.1.0.now))

pub unique : Unique
unique =
    record {
      field = λ k a x y p q. sole;
    }
