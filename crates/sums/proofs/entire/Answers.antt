-- `entire` meets its contract: the length, once below a header and once past the end.
use borrow.Author.Tests.{le-leb, lt-leb}
use Rattle.sums.proofs.entire.Goals as goal

pub returns-then-n-lt-LEN : goal.returns-then-n-lt-LEN
returns-then-n-lt-LEN c = rw (← c.length_in-n.ensures, lt-leb _ _ c.if-n-lt-LEN.true)

pub returns : goal.returns
returns c = rw (← c.length_in-n.ensures, le-leb _ _ c.if-n-lt-LEN.false)
