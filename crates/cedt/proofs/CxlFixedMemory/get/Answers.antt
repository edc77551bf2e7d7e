-- `CxlFixedMemory::get` meets its contract: the layout read by places.
use Rattle.format.specs.Form.{layout}
use Rattle.format.specs.Row.{form_in}
use Rattle.laws.proofs.Offsets.{node_at_lem}
use Rattle.cedt.proofs.CxlFixedMemory.get.Goals as goal

pub returns : goal.returns
unfolding layout form_in
returns c =
    rw (node_at_lem, c.get.ensures, c.get-2.ensures, c.get-3.ensures, c.get-4.ensures, c.get-5.ensures, c.get-6.ensures, c.get-7.ensures, c.rest-s.ensures)
