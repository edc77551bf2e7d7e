-- `MemoryAffinity::bad_field` meets its contract: the flags alone have a range.
use borrow.Author.Tests.{le-leb, lt-leb}
use Rattle.format.specs.Form.{ranges}
use Rattle.format.specs.Kind.{body}
use Rattle.format.specs.Field.{first_bad, bad_field}
use Rattle.srat.proofs.MemoryAffinity.bad_field.Goals as goal

pub returns-then-self-gt-FLAGS : goal.returns-then-self-gt-FLAGS
unfolding bad_field first_bad body ranges
returns-then-self-gt-FLAGS c = rw (lt-leb _ 7 c.if-self-gt-FLAGS.true)

pub returns : goal.returns
unfolding bad_field first_bad body ranges
returns c = rw (le-leb _ 7 c.if-self-gt-FLAGS.false)
