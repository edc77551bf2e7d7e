-- `part` meets its contract: of an accepted table the part of the record at its place, else nothing.
use mathlib.Core.Path.{◌∙◌}
use Rattle.read.proofs.Listing.{part-found, part-lacks, part-refused}
use Rattle.read.proofs.part.Goals as goal
use Rattle.read.proofs.part.Goals.{in_default-via-in-Ok+else-n-count, in_default-via-in_default}

pub returns-in-Ok : goal.returns-in-Ok
returns-in-Ok c =
    let a = c.args in
    (rw c.place_of.ensures at c.part_at.ensures)
    ∙ part-found a.table.now a.mask _ a.n (rw c.in-Ok.is at c.accept.ensures) c.if-n-count.true

pub returns-in_default : goal.returns-in_default
returns-in_default c =
    let a = c.args in
    elim c.in_default.branch [
      | in_default-via-in-Ok+else-n-count w ↦ part-lacks a.table.now a.mask _ a.n (rw w.in-Ok.is at c.accept.ensures) w.if-n-count.false
      | in_default-via-in_default w ↦ part-refused a.table.now a.mask _ _ a.n (rw w.in_default.is at c.accept.ensures)
    ]
