-- `CacheNode::next_level_of` meets its contract: the second field of a record stands at this offset.
use Rattle.pptt.proofs.Caches.{next-record}
use Rattle.pptt.proofs.CacheNode.next_level_of.Goals as goal

pub returns : goal.returns
returns c = rw (next-record, c.get.ensures)
