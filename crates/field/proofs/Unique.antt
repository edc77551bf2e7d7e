-- Two outcomes of a function that meet its contract show the same: each contract equates the buffer afterwards, or the result, with one thing.
use Rattle.laws.specs.Unique.{Fixes}
use Rattle.laws.proofs.Sole.{sole}
use Rattle.field.proofs.behind.Reads as behind
use Rattle.field.proofs.U8Number.write.Reads as U8Number-write
use Rattle.field.proofs.U8Number.read.Reads as U8Number-read
use Rattle.field.proofs.U16Number.write.Reads as U16Number-write
use Rattle.field.proofs.U16Number.read.Reads as U16Number-read
use Rattle.field.proofs.U32Number.write.Reads as U32Number-write
use Rattle.field.proofs.U32Number.read.Reads as U32Number-read
use Rattle.field.proofs.U64Number.write.Reads as U64Number-write
use Rattle.field.proofs.U64Number.read.Reads as U64Number-read
use Rattle.field.proofs.put.Reads as put
use Rattle.field.proofs.get.Reads as get
use Rattle.field.proofs.put_all.Reads as put_all
use Rattle.field.proofs.padded.Reads as padded
use Rattle.field.proofs.part.Reads as part
use Rattle.field.proofs.rest.Reads as rest
use Rattle.field.proofs.copy.Reads as copy
use Rattle.field.proofs.fill.Reads as fill
use Rattle.field.proofs.Whole.tenth.Reads as Whole-tenth
use Rattle.field.proofs.Whole.digit.Reads as Whole-digit
use Rattle.field.proofs.u8sum.Reads as u8sum

-- ---- the contracts

-- for each public function: what its contract fixes of the result `x` and of the parameters afterwards, `p`
pub record Unique : Type 2 where
  behind : Fixes behind.Learnt (λ k x p. x)
  U8Number-write : Fixes U8Number-write.Learnt (λ k x p. p.1.0.now)
  U8Number-read : Fixes U8Number-read.Learnt (λ k x p. x)
  U16Number-write : Fixes U16Number-write.Learnt (λ k x p. p.1.0.now)
  U16Number-read : Fixes U16Number-read.Learnt (λ k x p. x)
  U32Number-write : Fixes U32Number-write.Learnt (λ k x p. p.1.0.now)
  U32Number-read : Fixes U32Number-read.Learnt (λ k x p. x)
  U64Number-write : Fixes U64Number-write.Learnt (λ k x p. p.1.0.now)
  U64Number-read : Fixes U64Number-read.Learnt (λ k x p. x)
  put : (T : _) (L : _) (C : _) (N : _) (D : _) (G : _) (E : _) → Fixes (put.Learnt T L C N D G E) (λ k x p. p.0.now)
  get : (T : _) (L : _) (C : _) (N : _) (D : _) (G : _) (E : _) → Fixes (get.Learnt T L C N D G E) (λ k x p. N.number x)
  put_all : Fixes put_all.Learnt (λ k x p. p.0.now)
  padded : (N : _) (F : _) → Fixes (padded.Learnt N F) (λ k x p. x)
  part : Fixes part.Learnt (λ k x p. x.now)
  rest : Fixes rest.Learnt (λ k x p. x.now)
  copy : (T : _) (L : _) (C : _) (G : _) (D : _) → Fixes (copy.Learnt T L C G D) (λ k x p. p.0.now)
  fill : Fixes fill.Learnt (λ k x p. p.0.now)
  Whole-tenth : Fixes Whole-tenth.Learnt (λ k x p. x)
  Whole-digit : Fixes Whole-digit.Learnt (λ k x p. x)
  u8sum : Fixes u8sum.Learnt (λ k x p. x)

pub unique : Unique
unique =
    record {
      behind = λ k a x y p q. sole;
      U8Number-write = λ k a x y p q. sole;
      U8Number-read = λ k a x y p q. sole;
      U16Number-write = λ k a x y p q. sole;
      U16Number-read = λ k a x y p q. sole;
      U32Number-write = λ k a x y p q. sole;
      U32Number-read = λ k a x y p q. sole;
      U64Number-write = λ k a x y p q. sole;
      U64Number-read = λ k a x y p q. sole;
      put = λ T L C N D G E k a x y p q. sole;
      get = λ T L C N D G E k a x y p q. sole;
      put_all = λ k a x y p q. sole;
      padded = λ N F k a x y p q. sole;
      part = λ k a x y p q. sole;
      rest = λ k a x y p q. sole;
      copy = λ T L C G D k a x y p q. sole;
      fill = λ k a x y p q. sole;
      Whole-tenth = λ k a x y p q. sole;
      Whole-digit = λ k a x y p q. sole;
      u8sum = λ k a x y p q. sole;
    }
