-- `srat_row` meets its contract: each arm has the type of one row, or of the two RINTCs.
use mathlib.Core.Path.{refl, ◌∙◌}
use native.Mathlib.Omega.{arith}
use borrow.Author.Tests.{ne_eqb}
use Rattle.format.specs.Bytes.{part}
use Rattle.format.specs.Row.{column, matches, row_of}
use Rattle.rows.specs.declared.Row.TheVariants.{Memories, Initiators}
use Rattle.rows.proofs.Matches.{by-column, by-columns}
use Rattle.rows.proofs.srat_row.Goals as goal

pub returns-in-1 : goal.returns-in-1
unfolding column
returns-in-1 c = rw c.then_some.ensures (by-column Memories _ tt c.short_type.ensures c.in-1.is refl)

pub returns-in-5 : goal.returns-in-5
unfolding column
returns-in-5 c = rw c.then_some-in-5.ensures (by-column Initiators _ tt c.short_type.ensures c.in-5.is refl)

pub returns-in-7 : goal.returns-in-7
unfolding column
returns-in-7 c = c.rintc_row.ensures ∙ by-columns _ c.short_type.ensures c.in-7.is

pub returns-in_default : goal.returns-in_default
unfolding row_of matches part
returns-in_default c = simp (ne_eqb c.short_type.result 1 (omega arith), ne_eqb c.short_type.result 5 (omega arith), ne_eqb c.short_type.result 7 (omega arith), ← c.short_type.ensures)
