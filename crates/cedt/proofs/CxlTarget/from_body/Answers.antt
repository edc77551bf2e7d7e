-- `CxlTarget::from_body` meets its contract: the one field stands at the start.
use Rattle.format.specs.Kind.{WindowTarget, body}
use Rattle.laws.proofs.Fields.{fields-now}
use Rattle.cedt.proofs.CxlTarget.from_body.Goals as goal

pub returns : goal.returns
unfolding body
returns c = rw (fields-now WindowTarget, c.get.ensures)
