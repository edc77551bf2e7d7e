-- Two outcomes of `read_out` that meet its contract are equal: what an answer stands for names the answer, and the buffer afterwards is given.
use mathlib.Core.Path.{◌≡◌, refl}
use Prim.Native.Nat.{ℕ}
use mathlib.Core.List.{List}
use lib.Dec.{eqb}
use Rattle.format.specs.Bytes.{pick, Answer, refused, given}
use Rattle.laws.specs.Unique.{Fixes}
use Rattle.laws.proofs.Sole.{sole, sole-meant, sole-pair}
use Rattle.std.specs.Prelude.{Result, Ok, Err}
use Rattle.frames.specs.declared.Refusal.TheVariants.{Short, BadSign, BadLength, BadSum, BadFront, BadFrame, BadRecord, BadRef, NoRecord}
use Rattle.frames.proofs.Unique.{refusal_of}
use Rattle.readout.specs.declared.ReadOutError.{ReadOutError}
use Rattle.readout.specs.declared.ReadOutError.TheVariants.{Refused, Revision, Unknown, Retired, Room}
use Rattle.readout.specs.Answers.{shown}
use Rattle.readout.proofs.ReadOutErrorFromRefusal.from.Reads as ReadOutError-from
use Rattle.readout.proofs.ReadOutError.number.Reads as ReadOutError-number
use Rattle.readout.proofs.ReadOutError.place.Reads as ReadOutError-place
use Rattle.readout.proofs.read_out.Reads as read_out

abbrev out_of : Answer ℕ → Result ℕ ReadOutError
out_of (given n) = Ok n
out_of (refused k p) =
    pick (eqb k 29) (Err (Unknown p)) (pick (eqb k 32) (Err (Retired p)) (pick (eqb k 30) (Err Revision) (pick (eqb k 31) (Err (Room p)) (Err (Refused (refusal_of k p))))))

out-back : (a : Result ℕ ReadOutError) → out_of (shown a) ≡ a
out-back (Ok n) = refl
out-back (Err (Unknown p)) = refl
out-back (Err (Retired p)) = refl
out-back (Err Revision) = refl
out-back (Err (Room n)) = refl
out-back (Err (Refused Short)) = refl
out-back (Err (Refused BadSign)) = refl
out-back (Err (Refused BadLength)) = refl
out-back (Err (Refused BadSum)) = refl
out-back (Err (Refused BadFront)) = refl
out-back (Err (Refused (BadFrame p))) = refl
out-back (Err (Refused (BadRecord p))) = refl
out-back (Err (Refused (BadRef p))) = refl
out-back (Err (Refused (NoRecord n))) = refl

-- `read_out`
pub one_out : (a b : Result ℕ ReadOutError) (n : Answer ℕ) → shown a ≡ n → shown b ≡ n → a ≡ b
one_out = sole-meant shown out_of out-back

-- ---- the contracts

-- for each public function: what its contract fixes of the result `x` and of the parameters afterwards, `p`
pub record Unique : Type 0 where
  ReadOutError-from : Fixes ReadOutError-from.Learnt (λ k x p. x)
  ReadOutError-number : Fixes ReadOutError-number.Learnt (λ k x p. x)
  ReadOutError-place : Fixes ReadOutError-place.Learnt (λ k x p. x)
  read_out : Fixes {S = Result ℕ ReadOutError × List ℕ} read_out.Learnt (λ k x p. (x, p.1.0.now))

pub unique : Unique
unique =
    record {
      ReadOutError-from = λ k a x y p q. sole;
      ReadOutError-number = λ k a x y p q. sole;
      ReadOutError-place = λ k a x y p q. sole;
      read_out = λ k a x y p q l m. sole-pair (one_out x y _ l.0 m.0) (sole l.1 m.1);
    }
