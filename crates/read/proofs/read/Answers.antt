-- `read` meets its contract: of an accepted table the record at its place, or that there is none.
use mathlib.Core.Path.{ap, ◌∙◌}
use Rattle.std.proofs.lemmas.Result.{err_from_is_err_and}
use Rattle.format.specs.Bytes.{given}
use Rattle.format.specs.Read.{Reading}
use Rattle.read.proofs.Listing.{read_found, read-lacks, read-refused}
use Rattle.read.proofs.read.Goals as goal

pub returns-then-count-n : goal.returns-then-count-n
returns-then-count-n c =
    let a = c.args in
    read-lacks a.table.now a.mask _ a.n (rw c.in_ok-count.was at c.accept.ensures) c.if-count-n.true

pub returns : goal.returns
returns c =
    let a = c.args in
    ap (λ (x : Reading). given x) (rw c.place_of.ensures at (c.record_at-record.ensures c.in_ok-count.count))
    ∙ read_found a.table.now a.mask _ a.n (rw c.in_ok-count.was at c.accept.ensures) c.if-count-n.false

pub returns-in_err-count : goal.returns-in_err-count
returns-in_err-count c =
    let a = c.args in
    let p = err_from_is_err_and c.from_residual.result c.from_residual.ensures.1 in
    rw (p.1, p.2) (read-refused a.table.now a.mask _ _ a.n (rw c.in_err-count.was at c.accept.ensures))
