-- `TableHeader::len` meets its contract.
use Rattle.std.proofs.Common.{sym}
use Rattle.header.proofs.Laws.{length-header}
use Rattle.header.proofs.TableHeader.len.Goals as goal

pub returns : goal.returns
returns c h s = sym (length-header h s)
