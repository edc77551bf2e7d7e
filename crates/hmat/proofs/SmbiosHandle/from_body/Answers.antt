-- `SmbiosHandle::from_body` meets its contract: the one field stands at the start.
use Rattle.format.specs.Kind.{Handle, body}
use Rattle.laws.proofs.Fields.{fields-now}
use Rattle.hmat.proofs.SmbiosHandle.from_body.Goals as goal

pub returns : goal.returns
unfolding body
returns c = rw (fields-now Handle, c.get.ensures)
