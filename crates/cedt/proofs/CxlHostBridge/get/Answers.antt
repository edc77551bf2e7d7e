-- `CxlHostBridge::get` meets its contract: the layout read by places.
use Rattle.format.specs.Form.{layout}
use Rattle.format.specs.Row.{form_in}
use Rattle.laws.proofs.Offsets.{node_at_lem}
use Rattle.cedt.proofs.CxlHostBridge.get.Goals as goal

pub returns : goal.returns
unfolding layout form_in
returns c =
    rw (node_at_lem, c.get.ensures, c.get-2.ensures, c.get-3.ensures, c.rest-s.ensures)
