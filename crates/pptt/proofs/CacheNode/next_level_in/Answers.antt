-- `CacheNode::next_level_in` meets its contract: the second field of a body stands at this offset.
use Rattle.pptt.proofs.Caches.{next-body}
use Rattle.pptt.proofs.CacheNode.next_level_in.Goals as goal

pub returns : goal.returns
returns c = rw (next-body, c.get.ensures)
