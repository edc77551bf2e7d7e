-- `Resource::from_body` meets its contract: its one field stands first.
use Rattle.format.specs.Kind.{Resource, body}
use Rattle.laws.proofs.Fields.{fields-now}
use Rattle.pptt.proofs.Resource.from_body.Goals as goal

pub returns : goal.returns
unfolding body
returns c = rw (fields-now Resource, c.get.ensures)
