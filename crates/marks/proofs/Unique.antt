-- Two outcomes of a function that meet its contract show the same: each contract equates the result, or the marks after, with one thing.
use Rattle.std.proofs.Common.{ℕ, List, Fits, w64}
use Rattle.laws.specs.Unique.{Fixes}
use Rattle.laws.proofs.Sole.{sole, sole-pair}
use Rattle.marks.proofs.spread.Reads as spread
use Rattle.marks.proofs.Mark.first.Reads as Mark-first
use Rattle.marks.proofs.Mark.note.Reads as Mark-note
use Rattle.marks.proofs.Mark.toward_node.Reads as Mark-toward-node
use Rattle.marks.proofs.Mark.toward_place.Reads as Mark-toward-place
use Rattle.marks.proofs.Marks.none.Reads as Marks-none
use Rattle.marks.proofs.Marks.note.Reads as Marks-note
use Rattle.marks.proofs.Marks.toward_node.Reads as Marks-toward-node
use Rattle.marks.proofs.Marks.toward_place.Reads as Marks-toward-place

-- ---- the contracts

-- for each public function: what its contract fixes of the result `x` and of the parameters afterwards, `p`
pub record Unique : Type 0 where
  spread : Fixes spread.Learnt (λ k x p. x)
  Mark-first : Fixes Mark-first.Learnt (λ k x p. x)
  Mark-note : Fixes Mark-note.Learnt (λ k x p. p.1.0.now)
  Mark-toward-node : Fixes Mark-toward-node.Learnt (λ k x p. x)
  Mark-toward-place : Fixes Mark-toward-place.Learnt (λ k x p. x)
  Marks-none : (N : ℕ) (fits : Fits w64 N) → Fixes {S = List ℕ × ℕ} (Marks-none.Learnt N fits) (λ k x p. (x.slots, x.shift))
  Marks-note : (N : ℕ) (fits : Fits w64 N) → Fixes {S = List ℕ × ℕ} (Marks-note.Learnt N fits) (λ k x p. (p.0.now.slots, p.0.now.shift))
  Marks-toward-node : (N : ℕ) (fits : Fits w64 N) → Fixes (Marks-toward-node.Learnt N fits) (λ k x p. x)
  Marks-toward-place : (N : ℕ) (fits : Fits w64 N) → Fixes (Marks-toward-place.Learnt N fits) (λ k x p. x)

pub unique : Unique
unique =
    record {
      spread = λ k a x y p q. sole;
      Mark-first = λ k a x y p q. sole;
      Mark-note = λ k a x y p q. sole;
      Mark-toward-node = λ k a x y p q. sole;
      Mark-toward-place = λ k a x y p q. sole;
      Marks-none = λ n fits k a x y p q l m. sole-pair (sole l.0 m.0) (sole l.1 m.1);
      Marks-note = λ n fits k a x y p q l m. sole-pair (sole l.0 m.0) (sole l.1 m.1);
      Marks-toward-node = λ n fits k a x y p q. sole;
      Marks-toward-place = λ n fits k a x y p q. sole;
    }
