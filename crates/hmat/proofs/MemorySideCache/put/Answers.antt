-- `MemorySideCache::put` meets its contract: the numbers that it writes are those of the layout.
use Rattle.format.specs.Form.{layout}
use Rattle.laws.proofs.Joins.{lay-join}
use Rattle.hmat.specs.Hmat.{side_front}
use Rattle.hmat.proofs.MemorySideCache.put.Goals as goal

pub returns : goal.returns
unfolding side_front layout
returns c =
    rw (lay-join, ← c.len.ensures) c.put_all.ensures
