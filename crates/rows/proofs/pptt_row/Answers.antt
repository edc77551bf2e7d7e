-- `pptt_row` meets its contract: each arm has the type of one row.
use mathlib.Core.Path.{refl}
use native.Mathlib.Omega.{arith}
use borrow.Author.Tests.{ne_eqb}
use Rattle.format.specs.Bytes.{part}
use Rattle.format.specs.Row.{column, matches, row_of}
use Rattle.rows.specs.declared.Row.TheVariants.{Processors, Caches}
use Rattle.rows.proofs.Matches.{by-column}
use Rattle.rows.proofs.pptt_row.Goals as goal

pub returns-in-0 : goal.returns-in-0
unfolding column
returns-in-0 c = rw c.then_some.ensures (by-column Processors _ tt c.short_type.ensures c.in-0.is c.fits.ensures)

pub returns-in-1 : goal.returns-in-1
unfolding column
returns-in-1 c = rw c.then_some-in-1.ensures (by-column Caches _ tt c.short_type.ensures c.in-1.is refl)

pub returns-in_default : goal.returns-in_default
unfolding row_of matches part
returns-in_default c = simp (ne_eqb c.short_type.result 0 (omega arith), ne_eqb c.short_type.result 1 (omega arith), ← c.short_type.ensures)
