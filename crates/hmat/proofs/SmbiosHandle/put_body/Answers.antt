-- `SmbiosHandle::put_body` meets its contract: the numbers that it writes are those of the call.
use mathlib.Core.Path.{sym}
use Rattle.format.specs.Layout.{width}
use Rattle.format.specs.Kind.{Handle, body}
use Rattle.laws.proofs.Fields.{call-join, length-call}
use Rattle.hmat.proofs.SmbiosHandle.put_body.Goals as goal

pub returns : goal.returns
unfolding body width
returns c = record { out_after = rw (call-join Handle) c.put_all.ensures; value = sym (length-call Handle _) }
