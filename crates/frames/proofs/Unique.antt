-- Two answers that meet one contract are equal: what an answer stands for names the answer.
use mathlib.Core.Path.{◌≡◌, refl, ap}
use Prim.Native.Nat.{ℕ}
use mathlib.Core.Option.{none, some}
use mathlib.Core.Option as math
use Rattle.std.specs.Prelude.{Option, Some, None, Result, Ok, Err}
use lib.Dec.{eqb}
use Rattle.format.specs.Bytes.{pick, Answer, refused, given}
use Rattle.format.specs.Table.{Table}
use Rattle.laws.specs.Unique.{Fixes}
use Rattle.laws.proofs.Sole.{sole, sole-meant}
use Rattle.header.specs.declared.Table as header
use Rattle.header.specs.Header.{table_named}
use Rattle.header.proofs.Unique.{table-back}
use Rattle.frames.specs.declared.Refusal.{Refusal}
use Rattle.frames.specs.declared.Refusal.TheVariants.{Short, BadSign, BadLength, BadSum, BadFront, BadFrame, BadRecord, BadRef, NoRecord}
use Rattle.frames.specs.Refusals.{refusal_number, refusal_place, spelled_as, judged_as}
use Rattle.frames.proofs.Refusal.number.Reads as Refusal-number
use Rattle.frames.proofs.Refusal.place.Reads as Refusal-place
use Rattle.frames.proofs.first.Reads as first
use Rattle.frames.proofs.signed.Reads as signed
use Rattle.frames.proofs.own.Reads as own
use Rattle.frames.proofs.right.Reads as right
use Rattle.frames.proofs.judge_head.Reads as judge-head
use Rattle.frames.proofs.short_type.Reads as short-type
use Rattle.frames.proofs.long_type.Reads as long-type
use Rattle.frames.proofs.type_in.Reads as type-in
use Rattle.frames.proofs.framed.Reads as framed
use Rattle.frames.proofs.record_in.Reads as record-in
use Rattle.frames.proofs.number.Reads as number
use Rattle.frames.proofs.starts.Reads as starts

-- the refusal of a number and a place
abbrev pub refusal_of : ℕ → ℕ → Refusal
refusal_of k p =
    pick (eqb k 20) Short
    (pick (eqb k 21) BadSign
    (pick (eqb k 22) BadLength
    (pick (eqb k 23) BadSum
    (pick (eqb k 24) BadFront
    (pick (eqb k 25) (BadFrame p)
    (pick (eqb k 26) (BadRecord p)
    (pick (eqb k 27) (BadRef p) (NoRecord p))))))))

pub refusal-back : (r : Refusal) → refusal_of (refusal_number r) (refusal_place r) ≡ r
refusal-back Short = refl
refusal-back BadSign = refl
refusal-back BadLength = refl
refusal-back BadSum = refl
refusal-back BadFront = refl
refusal-back (BadFrame p) = refl
refusal-back (BadRecord p) = refl
refusal-back (BadRef p) = refl
refusal-back (NoRecord n) = refl

abbrev spelled_of : math.Option Table → Option header.Table
spelled_of none = None
spelled_of (some t) = Some (table_named t)

spelled_back : (s : Option header.Table) → spelled_of (spelled_as s) ≡ s
spelled_back (Some t) = ap (λ (u : header.Table). Some u) (table-back t)
spelled_back None = refl

abbrev judged_of : Answer Table → Result header.Table Refusal
judged_of (refused k p) = Err (refusal_of k p)
judged_of (given t) = Ok (table_named t)

judged-back : (j : Result header.Table Refusal) → judged_of (judged_as j) ≡ j
judged-back (Ok t) = ap (λ (u : header.Table). Ok u) (table-back t)
judged-back (Err r) = ap (λ (q : Refusal). Err q) (refusal-back r)

-- `signed`
one_signature : (a b : Option header.Table) (t : math.Option Table) → spelled_as a ≡ t → spelled_as b ≡ t → a ≡ b
one_signature = sole-meant spelled_as spelled_of spelled_back

-- `judge_head`
one-header : (a b : Result header.Table Refusal) (t : Answer Table) → judged_as a ≡ t → judged_as b ≡ t → a ≡ b
one-header = sole-meant judged_as judged_of judged-back

-- ---- the contracts

-- for each public function: what its contract fixes of the result `x` and of the parameters afterwards, `p`
pub record Unique : Type 0 where
  Refusal-number : Fixes Refusal-number.Learnt (λ k x p. x)
  Refusal-place : Fixes Refusal-place.Learnt (λ k x p. x)
  first : Fixes first.Learnt (λ k x p. x.now)
  signed : Fixes signed.Learnt (λ k x p. x)
  own : Fixes own.Learnt (λ k x p. x.now)
  right : Fixes right.Learnt (λ k x p. x)
  judge-head : Fixes judge-head.Learnt (λ k x p. x)
  short-type : Fixes short-type.Learnt (λ k x p. x)
  long-type : Fixes long-type.Learnt (λ k x p. x)
  type-in : Fixes type-in.Learnt (λ k x p. x)
  framed : Fixes framed.Learnt (λ k x p. x)
  record-in : Fixes record-in.Learnt (λ k x p. x.now)
  number : Fixes number.Learnt (λ k x p. x)
  starts : Fixes starts.Learnt (λ k x p. x)

pub unique : Unique
unique =
    record {
      Refusal-number = λ k a x y p q. sole;
      Refusal-place = λ k a x y p q. sole;
      first = λ k a x y p q. sole;
      signed = λ k a x y p q. one_signature x y _;
      own = λ k a x y p q. sole;
      right = λ k a x y p q. sole;
      judge-head = λ k a x y p q. one-header x y _;
      short-type = λ k a x y p q. sole;
      long-type = λ k a x y p q. sole;
      type-in = λ k a x y p q. sole;
      framed = λ k a x y p q. sole;
      record-in = λ k a x y p q. sole;
      number = λ k a x y p q. sole;
      starts = λ k a x y p q. sole;
    }
