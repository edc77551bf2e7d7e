-- `ProcessorNode::add_cache` meets its contract: three numbers laid over the record; past the end none.
use mathlib.Core.Path.{sym, ◌∙◌}
use Rattle.pptt.specs.Processor.{grown}
use Rattle.laws.proofs.Joins.{join_one}
use Rattle.pptt.proofs.Processors.{grown-past}
use Rattle.pptt.proofs.ProcessorNode.add_cache.Goals as goal

pub returns-then-out-at : goal.returns-then-out-at
returns-then-out-at c = sym (grown-past _ _ _ _ c.if-out-at.true)

pub returns : goal.returns
unfolding grown
returns c =
    c.put_resource.ensures ∙ rw (c.put_all-2.ensures, c.put_all.ensures, join_one 1, join_one 4)
