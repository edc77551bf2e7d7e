-- `ProcessorNode::is_fixed` meets its contract: what is fixed stands in the head, and the number of resources is the one that the record has room for.
use mathlib.Core.Path.{sym, ◌∙◌}
use native.Mathlib.Omega.{arith}
use lib.Seq.{length-take-le}
use Rattle.format.specs.Row.{form_in}
use Rattle.pptt.proofs.Processors.{fixed-window}
use Rattle.pptt.proofs.ProcessorNode.is_fixed.Goals as goal

pub returns-then-row-lt-LEN : goal.returns-then-row-lt-LEN
unfolding form_in
returns-then-row-lt-LEN c = rw (← c.resources_in-n.ensures, c.is_head.ensures)

pub slice_bounds-is_head-end : goal.slice_bounds-is_head-end
slice_bounds-is_head-end c = sym (length-take-le 20 c.args.row.now (omega arith))

pub returns : goal.returns
unfolding form_in
returns c = rw (← c.resources_in-n.ensures) (c.is_head-2.ensures ∙ fixed-window _ _)
