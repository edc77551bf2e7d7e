-- `MemoryProximityDomain::is_zero` meets its contract: four, eight and eight bytes are twenty.
use Rattle.laws.proofs.Tests.{both_false}
use Rattle.laws.proofs.Fields.{differs, equals, zeros-parts}
use Rattle.hmat.proofs.MemoryProximityDomain.is_zero.Goals as goal

pub returns-then-get-ne0 : goal.returns-then-get-ne0
returns-then-get-ne0 c = rw (zeros-parts c.args.row.now 20 4 16, differs c.get.ensures c.if-get-ne0.true)

pub returns-then-get-ne0-2 : goal.returns-then-get-ne0-2
returns-then-get-ne0-2 c =
    let bs = c.args.row.now in
    rw (zeros-parts bs 20 4 16, zeros-parts bs 24 8 8, differs c.get-2.ensures c.if-get-ne0-2.true, both_false)

pub returns : goal.returns
returns c =
    let bs = c.args.row.now in
    rw (zeros-parts bs 20 4 16, zeros-parts bs 24 8 8, equals c.get.ensures c.if-get-ne0.false, equals c.get-2.ensures c.if-get-ne0-2.false, c.get-3.ensures)
