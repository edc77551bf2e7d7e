-- `CacheNode::put` meets its contract: the numbers at their widths are those of the layout.
use mathlib.Core.Path.{◌∙◌}
use Rattle.format.specs.Layout.{as_is}
use Rattle.format.specs.Form.{layout}
use Rattle.format.specs.Node.{bytes}
use Rattle.laws.proofs.Joins.{lay-join}
use Rattle.pptt.proofs.CacheNode.put.Goals as goal

pub returns : goal.returns
unfolding bytes layout
returns c = c.put_all.ensures ∙ rw (lay-join as_is)
