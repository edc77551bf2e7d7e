-- `CacheNode::is_fixed` meets its contract, test by test.
use Rattle.format.specs.Form.{layout}
use Rattle.laws.proofs.Tests.{both_right, both_false}
use Rattle.laws.proofs.Fields.{fixed-now, differs, equals}
use Rattle.pptt.proofs.CacheNode.is_fixed.Goals as goal

pub returns-then-get-ne-TYPE : goal.returns-then-get-ne-TYPE
unfolding layout
returns-then-get-ne-TYPE c = rw (fixed-now, differs c.get.ensures c.if-get-ne-TYPE.true)

pub returns-then-get-ne-LEN : goal.returns-then-get-ne-LEN
unfolding layout
returns-then-get-ne-LEN c = simp (fixed-now, differs c.get-2.ensures c.if-get-ne-LEN.true, both_false)

pub returns : goal.returns
unfolding layout
returns c =
    rw (fixed-now, equals c.get.ensures c.if-get-ne-TYPE.false, equals c.get-2.ensures c.if-get-ne-LEN.false, c.get-3.ensures, both_right)
