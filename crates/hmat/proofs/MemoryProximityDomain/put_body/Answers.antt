-- `MemoryProximityDomain::put_body` meets its contract: the numbers that it writes are those of the call.
use mathlib.Core.Path.{sym}
use Rattle.format.specs.Layout.{width}
use Rattle.format.specs.Kind.{Domain, body}
use Rattle.format.specs.Normal.{calls}
use Rattle.laws.proofs.Fields.{call-join, length-call}
use Rattle.hmat.proofs.MemoryProximityDomain.put_body.Goals as goal

pub returns : goal.returns
unfolding calls body width
returns c = record { out_after = rw (call-join Domain) c.put_all.ensures; value = sym (length-call Domain _) }
