-- Two outcomes of `item`, `bit` or `bits` that meet its contract show the same, where all could be written: the contract says the answer then.
-- What is printed no contract says.
use denote.RattleType.{RattleType}
use denote.Param.Laws.{Laws}
use Rattle.std.proofs.Common.{Ok}
use Rattle.laws.specs.Unique.{Fixes}
use Rattle.laws.proofs.Sole.{sole}
use Rattle.words.proofs.item.Reads as item
use Rattle.words.proofs.bit.Reads as bit
use Rattle.words.proofs.bits.Reads as bits

-- for each public function that answers: what its contract, met by an `Ok`, fixes of the value `x` and of the parameters afterwards, `p`,
-- whatever prints
pub record Unique : Type 2 where
  item : (R : RattleType) (laws : Laws R) (ghosts : _) (methods : _) → Fixes (λ k a x p. item.Learnt R laws ghosts methods k a (Ok x) p) (λ k x p. x)
  bit : (R : RattleType) (laws : Laws R) (ghosts : _) (methods : _) → Fixes (λ k a x p. bit.Learnt R laws ghosts methods k a (Ok x) p) (λ k x p. x)
  bits : (R : RattleType) (laws : Laws R) (ghosts : _) (methods : _) → Fixes (λ k a x p. bits.Learnt R laws ghosts methods k a (Ok x) p) (λ k x p. x)

pub unique : Unique
unique =
    record {
      item = λ R laws ghosts methods k a x y p q. sole;
      bit = λ R laws ghosts methods k a x y p q. sole;
      bits = λ R laws ghosts methods k a x y p q. sole;
    }
