-- `XorMap::from_body` meets its contract: the one field stands at the start.
use Rattle.format.specs.Kind.{Map, body}
use Rattle.laws.proofs.Fields.{fields-now}
use Rattle.cedt.proofs.XorMap.from_body.Goals as goal

pub returns : goal.returns
unfolding body
returns c = rw (fields-now Map, c.get.ensures)
