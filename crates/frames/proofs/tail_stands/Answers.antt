-- `tail_stands` meets its contract: each table's items are read by their places.
use mathlib.Core.Path.{sym}
use borrow.Author.Tests.{eq-eqb, ne_eqb}
use lib.Dec.{eqb}
use Rattle.laws.proofs.Offsets.{fixed-at}
use Rattle.laws.proofs.Tests.{both_right}
use Rattle.frames.proofs.tail_stands.Goals as goal

pub returns-else-get-eq1 : goal.returns-else-get-eq1
returns-else-get-eq1 c = rw (c.in-Srat.is, fixed-at, ← c.get.ensures, ne_eqb _ _ c.if-get-eq1.false)

pub returns-in-Pptt : goal.returns-in-Pptt
returns-in-Pptt c = rw (c.in-Pptt.is, fixed-at)

pub returns-then-get-eq1 : goal.returns-then-get-eq1
returns-then-get-eq1 c =
    rw (c.in-Srat.is, fixed-at, ← c.get.ensures, eq-eqb _ _ c.if-get-eq1.true, ← c.get-then-get-eq1.ensures)
    (sym (both_right (eqb c.get-then-get-eq1.result 0)))

pub returns-in-Hmat : goal.returns-in-Hmat
returns-in-Hmat c = rw (c.in-Hmat.is, fixed-at, ← c.get-in-Hmat.ensures) (sym (both_right (eqb c.get-in-Hmat.result 0)))

pub returns-in-Cedt : goal.returns-in-Cedt
returns-in-Cedt c = rw (c.in-Cedt.is, fixed-at)
