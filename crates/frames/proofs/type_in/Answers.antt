-- `type_in` meets its contract: the type stands at the front, at the width of each table's frame.
use Rattle.format.specs.Bytes.{part}
use Rattle.frames.proofs.type_in.Goals as goal

pub returns-in-Pptt : goal.returns-in-Pptt
unfolding part
returns-in-Pptt c = rw c.in-Pptt.is c.short_type.ensures

pub returns-in-Srat : goal.returns-in-Srat
unfolding part
returns-in-Srat c = rw c.in-Srat.is c.short_type-in-Srat.ensures

pub returns-in-Hmat : goal.returns-in-Hmat
unfolding part
returns-in-Hmat c = rw c.in-Hmat.is c.long_type.ensures

pub returns-in-Cedt : goal.returns-in-Cedt
unfolding part
returns-in-Cedt c = rw c.in-Cedt.is c.short_type-in-Cedt.ensures
