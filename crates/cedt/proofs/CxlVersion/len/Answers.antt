-- `CxlVersion::len` meets its contract: the registers of each version.
use Rattle.format.specs.Form.{registers}
use Rattle.cedt.proofs.CxlVersion.len.Goals as goal

pub returns-in-Cxl1_1 : goal.returns-in-Cxl1_1
unfolding registers
returns-in-Cxl1_1 c = rw c.in-Cxl1_1.is

pub returns-in-Cxl2 : goal.returns-in-Cxl2
unfolding registers
returns-in-Cxl2 c = rw c.in-Cxl2.is
