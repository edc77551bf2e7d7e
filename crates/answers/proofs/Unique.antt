-- Two outcomes of a function that meet its contract show the same text: each contract equates the answer and the text afterwards with one pair.
use Prim.Native.Nat.{ℕ}
use mathlib.Core.List.{List}
use Rattle.laws.specs.Unique.{Fixes}
use Rattle.laws.proofs.Sole.{sole}
use Rattle.answers.proofs.too_long.Reads as too_long
use Rattle.answers.proofs.answer.Reads as answer

-- ---- the contracts

-- for each public function: what its contract fixes of the result `x` and of the parameters afterwards, `p`; what is left in the other two
-- buffers that `answer` is lent is not fixed
pub record Unique : Type 0 where
  too_long : Fixes {S = ℕ × List ℕ} too_long.Learnt (λ k x p. (x, p.0.now))
  answer : Fixes {S = ℕ × List ℕ} answer.Learnt (λ k x p. (x, p.1.1.1.0.now))

pub unique : Unique
unique =
    record {
      too_long = λ k a x y p q. sole;
      answer = λ k a x y p q. sole;
    }
