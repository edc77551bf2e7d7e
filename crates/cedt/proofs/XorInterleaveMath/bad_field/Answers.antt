-- `XorInterleaveMath::bad_field` meets its contract: the granularity alone has a range.
use borrow.Author.Tests.{le-leb, lt-leb}
use Rattle.format.specs.Form.{ranges}
use Rattle.format.specs.Kind.{body}
use Rattle.format.specs.Field.{first_bad, bad_field}
use Rattle.cedt.proofs.XorInterleaveMath.bad_field.Goals as goal

pub returns-then-self-gt-MAX : goal.returns-then-self-gt-MAX
unfolding bad_field first_bad body ranges
returns-then-self-gt-MAX c = rw (lt-leb _ 6 c.if-self-gt-MAX.true)

pub returns : goal.returns
unfolding bad_field first_bad body ranges
returns c = rw (le-leb _ 6 c.if-self-gt-MAX.false)
