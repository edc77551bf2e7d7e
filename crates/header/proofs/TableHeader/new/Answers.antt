-- `TableHeader::new` meets its contract: what the table says of itself, and the fields as they are given.
use Rattle.header.proofs.TableHeader.new.Goals as goal

pub returns : goal.returns
returns c = rw (c.signature.ensures, c.revision.ensures)
