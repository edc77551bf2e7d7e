-- Two outcomes of a method that meet its contract show the same: each contract equates the result, or the text afterwards, with one thing.
use Rattle.laws.specs.Unique.{Fixes}
use Rattle.laws.proofs.Sole.{sole}
use Rattle.text.proofs.Text.new.Reads as new
use Rattle.text.proofs.Text.behind.Reads as behind
use Rattle.text.proofs.Text.len.Reads as len
use Rattle.text.proofs.Text.byte.Reads as byte
use Rattle.text.proofs.Text.bytes.Reads as bytes
use Rattle.text.proofs.Text.decimal.Reads as decimal
use Rattle.text.proofs.Text.spaced.Reads as spaced
use Rattle.text.proofs.Text.summed.Reads as summed
use Rattle.text.proofs.Text.refused.Reads as refused
use Rattle.text.proofs.Text.hex.Reads as hex
use Rattle.text.proofs.Text.list.Reads as list

-- for each public function: what its contract fixes of the result `x` and of the parameters afterwards, `p`
pub record Unique : Type 0 where
  Text-new : Fixes new.Learnt (λ k x p. x)
  Text-behind : Fixes behind.Learnt (λ k x p. x)
  Text-len : Fixes len.Learnt (λ k x p. x)
  Text-byte : Fixes byte.Learnt (λ k x p. p.0.now)
  Text-bytes : Fixes bytes.Learnt (λ k x p. p.0.now)
  Text-decimal : Fixes decimal.Learnt (λ k x p. p.0.now)
  Text-spaced : Fixes spaced.Learnt (λ k x p. p.0.now)
  Text-summed : Fixes summed.Learnt (λ k x p. p.0.now)
  Text-refused : Fixes refused.Learnt (λ k x p. p.0.now)
  Text-hex : Fixes hex.Learnt (λ k x p. p.0.now)
  Text-list : Fixes list.Learnt (λ k x p. p.0.now)

pub unique : Unique
unique =
    record {
      Text-new = λ k a x y p q. sole;
      Text-behind = λ k a x y p q. sole;
      Text-len = λ k a x y p q. sole;
      Text-byte = λ k a x y p q. sole;
      Text-bytes = λ k a x y p q. sole;
      Text-decimal = λ k a x y p q. sole;
      Text-spaced = λ k a x y p q. sole;
      Text-summed = λ k a x y p q. sole;
      Text-refused = λ k a x y p q. sole;
      Text-hex = λ k a x y p q. sole;
      Text-list = λ k a x y p q. sole;
    }
