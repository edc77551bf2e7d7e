-- `Handle::is_fixed` meets its contract, by the handle type.
use native.Mathlib.Omega.{arith}
use borrow.Author.Tests.{ne_eqb}
use Rattle.srat.specs.Srat.{handle_fixed}
use Rattle.srat.proofs.Handle.is_fixed.Goals as goal

pub returns-in-0 : goal.returns-in-0
unfolding handle_fixed
returns-in-0 c = rw (← c.get.ensures, c.in-0.is, c.get-in-0.ensures)

pub returns-in-1 : goal.returns-in-1
unfolding handle_fixed
returns-in-1 c = rw (← c.get.ensures, c.in-1.is) c.is_pci_fixed.ensures

pub returns-in_default : goal.returns-in_default
unfolding handle_fixed
returns-in_default c = rw (← c.get.ensures, ne_eqb c.get.result 0 (omega arith), ne_eqb c.get.result 1 (omega arith))
