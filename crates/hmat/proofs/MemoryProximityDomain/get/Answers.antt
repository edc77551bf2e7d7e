-- `MemoryProximityDomain::get` meets its contract: the layout read by places.
use Rattle.format.specs.Form.{layout}
use Rattle.laws.proofs.Offsets.{node_at_lem}
use Rattle.hmat.proofs.MemoryProximityDomain.get.Goals as goal

pub returns : goal.returns
unfolding layout
returns c = rw (node_at_lem, c.get.ensures, c.get-2.ensures, c.rest-s.ensures)
