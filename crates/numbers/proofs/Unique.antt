-- Two outcomes of a function that meet its contract show the same: each contract equates the buffer afterwards, or the result, with one thing.
use Rattle.laws.specs.Unique.{Fixes}
use Rattle.laws.proofs.Sole.{sole}
use Rattle.numbers.proofs.row_number.Reads as row-number
use Rattle.numbers.proofs.put_fields.Reads as put-fields
use Rattle.numbers.proofs.fields_count.Reads as fields-count

-- ---- the contracts

-- for each public function: what its contract fixes of the result `x` and of the parameters afterwards, `p`
pub record Unique : Type 0 where
  row-number : Fixes row-number.Learnt (λ k x p. x)
  put-fields : Fixes put-fields.Learnt (λ k x p. p.1.0.now)
  fields-count : Fixes fields-count.Learnt (λ k x p. x)

pub unique : Unique
unique =
    record {
      row-number = λ k a x y p q. sole;
      put-fields = λ k a x y p q. sole;
      fields-count = λ k a x y p q. sole;
    }
