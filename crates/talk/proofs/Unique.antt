-- Two outcomes of a function that meet its contract show the same: each contract equates the buffer afterwards, or the result, with one thing.
use Rattle.laws.specs.Unique.{Fixes}
use Rattle.laws.proofs.Sole.{sole}
use Rattle.talk.proofs.word.Reads as word
use Rattle.talk.proofs.behind.Reads as behind
use Rattle.talk.proofs.named.Reads as named
use Rattle.talk.proofs.decimal.Reads as decimal
use Rattle.talk.proofs.count.Reads as count
use Rattle.talk.proofs.unhex.Reads as unhex
use Rattle.talk.proofs.all_are.Reads as all_are

-- ---- the contracts

-- for each public function: what its contract fixes of the result `x` and of the parameters afterwards, `p`
pub record Unique : Type 0 where
  word : Fixes word.Learnt (λ k x p. x.now)
  behind : Fixes behind.Learnt (λ k x p. x.now)
  named : Fixes named.Learnt (λ k x p. x)
  decimal : Fixes decimal.Learnt (λ k x p. x)
  count : Fixes count.Learnt (λ k x p. x)
  unhex : Fixes unhex.Learnt (λ k x p. p.1.0.now)
  all_are : Fixes all_are.Learnt (λ k x p. x)

pub unique : Unique
unique =
    record {
      word = λ k a x y p q. sole;
      behind = λ k a x y p q. sole;
      named = λ k a x y p q. sole;
      decimal = λ k a x y p q. sole;
      count = λ k a x y p q. sole;
      unhex = λ k a x y p q. sole;
      all_are = λ k a x y p q. sole;
    }
