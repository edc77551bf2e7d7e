-- `XorInterleaveMath::put` meets its contract: the numbers that it writes are those of the layout.
use Rattle.format.specs.Form.{layout}
use Rattle.laws.proofs.Joins.{lay-join}
use Rattle.cedt.specs.Cedt.{maths_front}
use Rattle.cedt.proofs.XorInterleaveMath.put.Goals as goal

pub returns : goal.returns
unfolding maths_front layout
returns c =
    rw (lay-join, ← c.len.ensures) c.put_all.ensures
