-- `ProcessorNode::from_body` meets its contract: each field stands at its offset.
use Rattle.format.specs.Kind.{Processor, body}
use Rattle.laws.proofs.Fields.{body_at}
use Rattle.pptt.proofs.Processors.{parent-body}
use Rattle.pptt.proofs.ProcessorNode.from_body.Goals as goal

pub returns : goal.returns
unfolding body
returns c = rw (body_at Processor, c.get.ensures, c.parent_in.ensures, parent-body, c.get-2.ensures)
