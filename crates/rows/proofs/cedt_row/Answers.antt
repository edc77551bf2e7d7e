-- `cedt_row` meets its contract: each arm has the type of one row.
use native.Mathlib.Omega.{arith}
use borrow.Author.Tests.{ne_eqb}
use Rattle.format.specs.Bytes.{part}
use Rattle.format.specs.Row.{matches, row_of}
use Rattle.rows.specs.declared.Row.TheVariants.{Bridges, Windows, Xors}
use Rattle.rows.proofs.Matches.{by-column}
use Rattle.rows.proofs.cedt_row.Goals as goal

pub returns-in-0 : goal.returns-in-0
returns-in-0 c = rw c.then_some.ensures (by-column Bridges _ tt c.short_type.ensures c.in-0.is c.fits.ensures)

pub returns-in-1 : goal.returns-in-1
returns-in-1 c = rw c.then_some-in-1.ensures (by-column Windows _ tt c.short_type.ensures c.in-1.is c.fits-in-1.ensures)

pub returns-in-2 : goal.returns-in-2
returns-in-2 c = rw c.then_some-in-2.ensures (by-column Xors _ tt c.short_type.ensures c.in-2.is c.fits-in-2.ensures)

pub returns-in_default : goal.returns-in_default
unfolding row_of matches part
returns-in_default c = simp (ne_eqb c.short_type.result 0 (omega arith), ne_eqb c.short_type.result 1 (omega arith), ne_eqb c.short_type.result 2 (omega arith), ← c.short_type.ensures)
