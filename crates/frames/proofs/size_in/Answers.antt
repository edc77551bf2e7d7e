-- `size_in_lem` meets its contract: the length stands behind type and reserved bytes, at the width of each table's frame.
use Rattle.frames.proofs.size_in.Goals as goal

pub returns-in-Pptt : goal.returns-in-Pptt
returns-in-Pptt c = rw c.in-Pptt.is c.get.ensures

pub returns-in-Srat : goal.returns-in-Srat
returns-in-Srat c = rw c.in-Srat.is c.get-in-Srat.ensures

pub returns-in-Hmat : goal.returns-in-Hmat
returns-in-Hmat c = rw c.in-Hmat.is c.get-in-Hmat.ensures

pub returns-in-Cedt : goal.returns-in-Cedt
returns-in-Cedt c = rw c.in-Cedt.is c.get-in-Cedt.ensures
