-- `CacheNode::is_good` meets its contract: a record is sound where its fixed values are, and its node has no bad field.
use Rattle.field.proofs.Places.{is_none-place}
use Rattle.laws.proofs.Fields.{failed, passed, sound-node}
use Rattle.pptt.proofs.CacheNode.is_good.Goals as goal

pub returns-then-is_fixed : goal.returns-then-is_fixed
returns-then-is_fixed c =
    rw (sound-node, passed c.is_fixed.ensures c.if-is_fixed.true, ← c.get.ensures) (is_none-place _ c.bad_field.ensures c.is_none.ensures)

pub returns-else-is_fixed : goal.returns-else-is_fixed
returns-else-is_fixed c = rw (sound-node, failed c.is_fixed.ensures c.if-is_fixed.false) c.if-is_fixed.false
