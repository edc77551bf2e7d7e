-- `MemoryProximityDomain::from_body` meets its contract: each field stands at its offset.
use Rattle.format.specs.Kind.{Domain, body}
use Rattle.laws.proofs.Fields.{body_at}
use Rattle.hmat.proofs.MemoryProximityDomain.from_body.Goals as goal

pub returns : goal.returns
unfolding body
returns c = rw (body_at Domain, c.get.ensures, c.get-2.ensures)
