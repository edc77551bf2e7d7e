-- `XorInterleaveMath::from_body` meets its contract: the one field stands at the start.
use Rattle.format.specs.Kind.{Xor, body}
use Rattle.laws.proofs.Fields.{body_at}
use Rattle.cedt.proofs.XorInterleaveMath.from_body.Goals as goal

pub returns : goal.returns
unfolding body
returns c = rw (body_at Xor, c.get.ensures)
