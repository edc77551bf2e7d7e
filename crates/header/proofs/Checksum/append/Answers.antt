-- `Checksum::append` meets its contract: of the whole sum only what is left modulo 256 counts.
use Rattle.std.proofs.Common.{◌∙◌, arith}
use Rattle.header.proofs.Checksum.append.Goals as goal

pub returns : goal.returns
returns c = c.add.ensures ∙ rw c.u8sum.ensures (omega arith)
