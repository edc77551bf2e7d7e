-- `ProcessorNode::parent_in` meets its contract: the second field of a body stands at this offset.
use Rattle.pptt.proofs.Processors.{parent-body}
use Rattle.pptt.proofs.ProcessorNode.parent_in.Goals as goal

pub returns : goal.returns
returns c = rw (parent-body, c.get.ensures)
