-- `CxlHostBridge::is_fixed` meets its contract, test by test.
use Rattle.laws.proofs.Tests.{both_false}
use Rattle.laws.proofs.Fields.{differs, equals}
use Rattle.cedt.proofs.Fixed.{bridge-fixed, version-known}
use Rattle.cedt.proofs.CxlHostBridge.is_fixed.Goals as goal

pub returns-then-get-ne-TYPE : goal.returns-then-get-ne-TYPE
returns-then-get-ne-TYPE c = rw (bridge-fixed, differs c.get.ensures c.if-get-ne-TYPE.true)

pub returns-then-get-ne0 : goal.returns-then-get-ne0
returns-then-get-ne0 c = simp (bridge-fixed, differs c.get-2.ensures c.if-get-ne0.true, both_false)

pub returns-then-get-ne-LEN : goal.returns-then-get-ne-LEN
returns-then-get-ne-LEN c = simp (bridge-fixed, differs c.get-3.ensures c.if-get-ne-LEN.true, both_false)

pub returns-then-get-ne0-2 : goal.returns-then-get-ne0-2
returns-then-get-ne0-2 c = simp (bridge-fixed, differs c.get-4.ensures c.if-get-ne0-2.true, both_false)

pub returns : goal.returns
returns c =
    rw (bridge-fixed, equals c.get.ensures c.if-get-ne-TYPE.false, equals c.get-2.ensures c.if-get-ne0.false, equals c.get-3.ensures c.if-get-ne-LEN.false, equals c.get-4.ensures c.if-get-ne0-2.false, ← version-known _ _ c.get-6.ensures, ← c.registers.ensures, c.get-5.ensures)
