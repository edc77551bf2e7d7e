-- `MemoryProximityDomain::is_fixed` meets its contract, test by test.
use Rattle.format.specs.Form.{layout}
use Rattle.laws.proofs.Tests.{both_right, both_false}
use Rattle.laws.proofs.Fields.{fixed-now, differs, equals}
use Rattle.hmat.proofs.MemoryProximityDomain.is_fixed.Goals as goal

pub returns-then-get-ne-TYPE : goal.returns-then-get-ne-TYPE
unfolding layout
returns-then-get-ne-TYPE c = rw (fixed-now, differs c.get.ensures c.if-get-ne-TYPE.true)

pub returns-then-get-ne0 : goal.returns-then-get-ne0
unfolding layout
returns-then-get-ne0 c = simp (fixed-now, differs c.get-2.ensures c.if-get-ne0.true, both_false)

pub returns-then-get-ne-LEN : goal.returns-then-get-ne-LEN
unfolding layout
returns-then-get-ne-LEN c = simp (fixed-now, differs c.get-3.ensures c.if-get-ne-LEN.true, both_false)

pub returns-then-get-ne-DOMAIN_VALID : goal.returns-then-get-ne-DOMAIN_VALID
unfolding layout
returns-then-get-ne-DOMAIN_VALID c = simp (fixed-now, differs c.get-4.ensures c.if-get-ne-DOMAIN_VALID.true, both_false)

pub returns-then-get-ne0-2 : goal.returns-then-get-ne0-2
unfolding layout
returns-then-get-ne0-2 c = simp (fixed-now, differs c.get-5.ensures c.if-get-ne0-2.true, both_false)

pub returns : goal.returns
unfolding layout
returns c =
    rw (fixed-now, equals c.get.ensures c.if-get-ne-TYPE.false, equals c.get-2.ensures c.if-get-ne0.false, equals c.get-3.ensures c.if-get-ne-LEN.false, equals c.get-4.ensures c.if-get-ne-DOMAIN_VALID.false, equals c.get-5.ensures c.if-get-ne0-2.false, c.is_zero.ensures, both_right)
