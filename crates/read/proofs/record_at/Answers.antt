-- `record_at` meets its contract: what is shown of the bytes at the place, of the table that is signed.
use mathlib.Core.Path.{ap, ◌∙◌}
use Rattle.format.specs.Read.{fields_of, reading_of}
use Rattle.read.proofs.Listing.{seen-signed, seen-unsigned}
use Rattle.read.proofs.record_at.Goals as goal

pub returns-in-Some : goal.returns-in-Some
returns-in-Some c count =
    let a = c.args in
    let seen = seen-signed a.table.now a.mask a.place _ _ _ (rw c.in-Some.is at c.signed.ensures) c.revision_in.ensures c.body_at-body.ensures in
    c.show.ensures count ∙ ap (reading_of count) seen

pub returns-in-None : goal.returns-in-None
unfolding fields_of
returns-in-None c count =
    let a = c.args in
    ap (reading_of count) (seen-unsigned a.table.now a.mask a.place _ (rw c.in-None.is at c.signed.ensures) c.body_at-body.ensures)
