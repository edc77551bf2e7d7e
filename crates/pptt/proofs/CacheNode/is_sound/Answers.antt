-- `CacheNode::is_sound` meets its contract: a window of all bytes is all of them.
use mathlib.Core.Path.{sym}
use native.Mathlib.Omega.{arith}
use lib.Seq.{take_all, length-take-le}
use Rattle.pptt.proofs.CacheNode.is_sound.Goals as goal

pub slice_bounds-is_good-end : goal.slice_bounds-is_good-end
slice_bounds-is_good-end c = sym (length-take-le 28 c.args.row.now (omega arith))

pub returns : goal.returns
returns c = let b = c.args.row.now in rw (take_all 28 b (omega arith)) at c.is_good-2.ensures
