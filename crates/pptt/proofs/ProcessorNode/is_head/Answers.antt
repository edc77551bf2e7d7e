-- `ProcessorNode::is_head` meets its contract, test by test.
use Rattle.laws.proofs.Tests.{both_false}
use Rattle.laws.proofs.Fields.{differs, equals}
use Rattle.pptt.proofs.Processors.{processor-fixed}
use Rattle.pptt.proofs.ProcessorNode.is_head.Goals as goal

pub returns-then-get-ne-TYPE : goal.returns-then-get-ne-TYPE
returns-then-get-ne-TYPE c = rw (processor-fixed, differs c.get.ensures c.if-get-ne-TYPE.true)

pub returns-then-get-n : goal.returns-then-get-n
returns-then-get-n c = simp (processor-fixed, differs c.get-2.ensures c.if-get-n.true, both_false)

pub returns-then-get-ne0 : goal.returns-then-get-ne0
returns-then-get-ne0 c = simp (processor-fixed, differs c.get-3.ensures c.if-get-ne0.true, both_false)

pub returns : goal.returns
returns c =
    rw (processor-fixed, equals c.get.ensures c.if-get-ne-TYPE.false, equals c.get-2.ensures c.if-get-n.false, equals c.get-3.ensures c.if-get-ne0.false, c.get-4.ensures)
