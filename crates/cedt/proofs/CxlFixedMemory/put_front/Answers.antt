-- `CxlFixedMemory::put_front` meets its contract: the numbers that it writes are those of the layout.
use Rattle.format.specs.Form.{layout}
use Rattle.laws.proofs.Joins.{lay-join}
use Rattle.cedt.specs.Cedt.{window_front}
use Rattle.cedt.proofs.CxlFixedMemory.put_front.Goals as goal

pub returns : goal.returns
unfolding window_front layout
returns c =
    rw (lay-join, ← c.len.ensures) c.put_all.ensures
