-- `ProcessorNode::put_resource` meets its contract: past the end nothing is written.
use mathlib.Core.Path.{sym}
use native.Mathlib.Omega.{arith}
use Rattle.laws.proofs.Bytes.{over-past}
use Rattle.pptt.proofs.ProcessorNode.put_resource.Goals as goal

pub returns-then-out-at : goal.returns-then-out-at
returns-then-out-at c = sym (over-past _ _ _ (omega arith))
