-- `ProcessorNode::put` meets its contract: the numbers at their widths are those of the first seven items of the layout.
use mathlib.Core.Path.{◌∙◌}
use Rattle.format.specs.Layout.{as_is}
use Rattle.format.specs.Form.{layout}
use Rattle.laws.proofs.Joins.{lay-join}
use Rattle.pptt.specs.Processor.{fixed_part}
use Rattle.pptt.proofs.ProcessorNode.put.Goals as goal

pub returns : goal.returns
unfolding fixed_part layout
returns c = c.put_all.ensures ∙ rw (lay-join as_is, c.len.ensures)
