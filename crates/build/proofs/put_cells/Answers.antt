-- `put_cells` meets its contract: cells of a width where the next record is one, and no other table has any.
use borrow.Author.Rules.{rules}
use Rattle.build.proofs.put_cells.Goals as goal

pub returns-in_default : goal.returns-in_default
returns-in_default c = (search rules, λ xs m ms h. h)

pub returns-in_default-get : goal.returns-in_default-get
returns-in_default-get c = (search rules, λ xs m ms h. h)

pub returns : goal.returns
returns c = rw c.in-Hmat.is c.put_run.ensures
