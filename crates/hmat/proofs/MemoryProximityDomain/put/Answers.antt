-- `MemoryProximityDomain::put` meets its contract: the numbers that it writes are those of the layout.
use Rattle.format.specs.Form.{layout}
use Rattle.format.specs.Node.{bytes}
use Rattle.laws.proofs.Joins.{lay-join}
use Rattle.hmat.proofs.MemoryProximityDomain.put.Goals as goal

pub returns : goal.returns
unfolding bytes layout
returns c = rw lay-join c.put_all.ensures
