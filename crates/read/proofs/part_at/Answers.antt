-- `part_at` meets its contract: the part of what is seen at the place, of the table that is signed.
use mathlib.Core.Path.{ap, ◌∙◌}
use Rattle.format.specs.Read.{Seen, part_of}
use Rattle.read.proofs.Listing.{seen-signed, seen-unsigned}
use Rattle.read.proofs.part_at.Goals as goal

pub returns-in-Some : goal.returns-in-Some
returns-in-Some c =
    let a = c.args in
    let seen = seen-signed a.table.now a.mask a.place _ _ _ (rw c.in-Some.is at c.signed.ensures) c.revision_in.ensures c.body_at-body.ensures in
    c.part.ensures ∙ rw (c.known.ensures, c.row_of-row.ensures) (ap (λ (x : Seen). part_of x.row x.body) seen)

pub returns-in-None : goal.returns-in-None
unfolding part_of
returns-in-None c =
    let a = c.args in
    ap (λ (x : Seen). part_of x.row x.body) (seen-unsigned a.table.now a.mask a.place _ (rw c.in-None.is at c.signed.ensures) c.body_at-body.ensures)
