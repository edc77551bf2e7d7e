-- Two outcomes of a function that meet its contract show the same: each contract equates the result, or the buffer after, with one thing.
use Rattle.laws.specs.Unique.{Fixes}
use Rattle.laws.proofs.Sole.{sole}
use Rattle.writes.proofs.change_of.Reads as change-of
use Rattle.writes.proofs.put.Reads as put

-- ---- the contracts

-- for each public function: what its contract fixes of the result `x` and of the parameters afterwards, `p`
pub record Unique : Type 0 where
  change-of : Fixes change-of.Learnt (λ k x p. x)
  put : Fixes put.Learnt (λ k x p. p.1.1.0.now)

pub unique : Unique
unique =
    record {
      change-of = λ k a x y p q. sole;
      put = λ k a x y p q. sole;
    }
