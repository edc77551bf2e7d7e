-- `hmat_row` meets its contract: each arm has the type of one row, or of the two matrices.
use mathlib.Core.Path.{refl, ◌∙◌}
use native.Mathlib.Omega.{arith}
use borrow.Author.Tests.{ne_eqb}
use Rattle.format.specs.Bytes.{part}
use Rattle.format.specs.Row.{column, matches, row_of}
use Rattle.rows.specs.declared.Row.TheVariants.{Domains, Sides}
use Rattle.rows.proofs.Matches.{by-column, by-counts}
use Rattle.rows.proofs.hmat_row.Goals as goal

pub returns-in-0 : goal.returns-in-0
unfolding column
returns-in-0 c = rw c.then_some.ensures (by-column Domains _ tt c.long_type.ensures c.in-0.is refl)

pub returns-in-1 : goal.returns-in-1
unfolding column
returns-in-1 c = c.matrix_row.ensures ∙ by-counts _ c.long_type.ensures c.in-1.is

pub returns-in-2 : goal.returns-in-2
unfolding column
returns-in-2 c = rw c.then_some-in-2.ensures (by-column Sides _ tt c.long_type.ensures c.in-2.is c.fits.ensures)

pub returns-in_default : goal.returns-in_default
unfolding row_of matches part
returns-in_default c = simp (ne_eqb c.long_type.result 0 (omega arith), ne_eqb c.long_type.result 1 (omega arith), ne_eqb c.long_type.result 2 (omega arith), ← c.long_type.ensures)
