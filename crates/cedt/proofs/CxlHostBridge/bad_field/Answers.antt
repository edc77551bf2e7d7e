-- `CxlHostBridge::bad_field` meets its contract: the version alone has a range.
use borrow.Author.Tests.{le-leb, lt-leb}
use Rattle.format.specs.Form.{ranges}
use Rattle.format.specs.Kind.{body}
use Rattle.format.specs.Field.{first_bad, bad_field}
use Rattle.cedt.proofs.CxlHostBridge.bad_field.Goals as goal

pub returns-then-self-gt-MAX_VERSION : goal.returns-then-self-gt-MAX_VERSION
unfolding bad_field first_bad body ranges
returns-then-self-gt-MAX_VERSION c = rw (lt-leb _ 1 c.if-self-gt-MAX_VERSION.true)

pub returns : goal.returns
unfolding bad_field first_bad body ranges
returns c = rw (le-leb _ 1 c.if-self-gt-MAX_VERSION.false)
