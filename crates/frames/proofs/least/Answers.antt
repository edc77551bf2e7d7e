-- `least` meets its contract: a frame's widths are added up.
use Rattle.frames.proofs.least.Goals as goal

pub returns-in-Pptt : goal.returns-in-Pptt
returns-in-Pptt c = rw c.in-Pptt.is

pub returns-in-Srat : goal.returns-in-Srat
returns-in-Srat c = rw c.in-Srat.is

pub returns-in-Hmat : goal.returns-in-Hmat
returns-in-Hmat c = rw c.in-Hmat.is

pub returns-in-Cedt : goal.returns-in-Cedt
returns-in-Cedt c = rw c.in-Cedt.is
