-- `row_of` meets its contract: a table of another revision has no rows.
use Rattle.header.specs.Header.{meant}
use Rattle.rows.proofs.Matches.{other-revision}
use Rattle.rows.proofs.row_of.Goals as goal

pub returns-then-revision : goal.returns-then-revision
returns-then-revision c = other-revision (meant c.args.table) c.args.body.now (rw c.revision.ensures at c.if-revision.true)
