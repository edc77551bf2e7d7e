-- Two rows that meet one contract are equal: the row that a variant stands for names the variant.
use mathlib.Core.Path.{◌≡◌, refl, ap}
use mathlib.Core.Option.{none, some}
use mathlib.Core.Option as math
use Rattle.std.specs.Prelude.{Option, Some, None}
use Rattle.format.specs.Row.{processors, caches, memories, initiators, old_rintcs, domains, matrices, sides, bridges, windows, xors, rintcs}
use Rattle.format.specs.Row as format
use Rattle.laws.specs.Unique.{Fixes}
use Rattle.laws.proofs.Sole.{sole, sole-meant}
use Rattle.hmat.specs.declared.Width.TheVariants.{Byte, Pair}
use Rattle.hmat.specs.Widths.{width_named}
use Rattle.rows.specs.declared.Row.{Row}
use Rattle.rows.specs.declared.Row.TheVariants.{Processors, Caches, Memories, Initiators, OldRintcs, Domains, Matrices, Sides, Bridges, Windows, Xors, Rintcs}
use Rattle.rows.specs.Rows.{meant_row, row_meant}
use Rattle.rows.proofs.row_of.Reads as row_of
use Rattle.rows.proofs.known.Reads as known
use Rattle.rows.proofs.sound.Reads as sound
use Rattle.rows.proofs.part.Reads as part

abbrev named_row : format.Row → Row
named_row processors = Processors
named_row caches = Caches
named_row memories = Memories
named_row initiators = Initiators
named_row old_rintcs = OldRintcs
named_row domains = Domains
named_row (matrices w) = Matrices (width_named w)
named_row sides = Sides
named_row bridges = Bridges
named_row windows = Windows
named_row xors = Xors
named_row rintcs = Rintcs

row-back : (r : Row) → named_row (meant_row r) ≡ r
row-back Processors = refl
row-back Caches = refl
row-back Memories = refl
row-back Initiators = refl
row-back OldRintcs = refl
row-back Domains = refl
row-back (Matrices Byte) = refl
row-back (Matrices Pair) = refl
row-back Sides = refl
row-back Bridges = refl
row-back Windows = refl
row-back Xors = refl
row-back Rintcs = refl

abbrev row_named : math.Option format.Row → Option Row
row_named none = None
row_named (some r) = Some (named_row r)

row_back : (o : Option Row) → row_named (row_meant o) ≡ o
row_back None = refl
row_back (Some r) = ap (λ (q : Row). Some q) (row-back r)

-- `row_of` and `known`
one-row : (a b : Option Row) (r : math.Option format.Row) → row_meant a ≡ r → row_meant b ≡ r → a ≡ b
one-row = sole-meant row_meant row_named row_back

-- ---- the contracts

-- for each public function: what its contract fixes of the result `x` and of the parameters afterwards, `p`
pub record Unique : Type 0 where
  row_of : Fixes row_of.Learnt (λ k x p. x)
  known : Fixes known.Learnt (λ k x p. x)
  sound : Fixes sound.Learnt (λ k x p. x)
  part : Fixes part.Learnt (λ k x p. x.now)

pub unique : Unique
unique =
    record {
      row_of = λ k a x y p q. one-row x y _;
      known = λ k a x y p q. one-row x y _;
      sound = λ k a x y p q. sole;
      part = λ k a x y p q. sole;
    }
