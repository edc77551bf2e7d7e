-- `CxlHostBridge::from_body` meets its contract: each field stands at its offset.
use Rattle.format.specs.Kind.{Bridge, body}
use Rattle.laws.proofs.Fields.{fields-now}
use Rattle.cedt.proofs.CxlHostBridge.from_body.Goals as goal

pub returns : goal.returns
unfolding body
returns c = rw (fields-now Bridge, c.get.ensures, c.get-2.ensures, c.get-3.ensures)
