-- `ProcessorNode::parent_of` meets its contract: the second field of a record stands at this offset.
use Rattle.pptt.proofs.Processors.{parent-record}
use Rattle.pptt.proofs.ProcessorNode.parent_of.Goals as goal

pub returns : goal.returns
returns c = rw (parent-record, c.get.ensures)
