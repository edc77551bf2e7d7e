-- `ProcessorNode::fits` meets its contract, test by test.
use borrow.Author.Tests.{le-leb, lt-leb}
use Rattle.format.specs.Row.{column}
use Rattle.laws.proofs.Tests.{both_false}
use Rattle.pptt.proofs.ProcessorNode.fits.Goals as goal

pub returns-then-len-lt-LEN : goal.returns-then-len-lt-LEN
unfolding column
returns-then-len-lt-LEN c = rw (lt-leb _ _ c.if-len-lt-LEN.true)

pub returns-then-len-gt-LEN_MOST : goal.returns-then-len-gt-LEN_MOST
unfolding column
returns-then-len-gt-LEN_MOST c = simp (lt-leb _ _ c.if-len-gt-LEN_MOST.true, both_false)

pub returns : goal.returns
unfolding column
returns c = rw (le-leb _ _ c.if-len-lt-LEN.false, le-leb _ _ c.if-len-gt-LEN_MOST.false)
