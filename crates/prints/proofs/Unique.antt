-- Two outcomes of a function that meet its contract show the same: each contract says every byte of the array.
use Rattle.laws.specs.Unique.{Fixes}
use Rattle.laws.proofs.Sole.{sole}
use Rattle.prints.proofs.room.Reads as room

-- ---- the contracts

-- for each public function: what its contract fixes of the result `x` and of the parameters afterwards, `p`, at each const parameter
pub record Unique : Type 0 where
  room : (size : _) (fits : _) → Fixes (room.Learnt size fits) (λ k x p. x)

pub unique : Unique
unique =
    record {
      room = λ size fits k a x y p q l m. sole l.1 m.1;
    }
