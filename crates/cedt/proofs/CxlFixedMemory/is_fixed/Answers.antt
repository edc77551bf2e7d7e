-- `CxlFixedMemory::is_fixed` meets its contract, test by test.
use Rattle.laws.proofs.Tests.{both_false}
use Rattle.laws.proofs.Offsets.{form-known}
use Rattle.laws.proofs.Fields.{differs, equals}
use Rattle.cedt.proofs.Fixed.{window-fixed}
use Rattle.cedt.proofs.CxlFixedMemory.is_fixed.Goals as goal

pub returns-then-get-ne-TYPE : goal.returns-then-get-ne-TYPE
returns-then-get-ne-TYPE c = rw (window-fixed, differs c.get.ensures c.if-get-ne-TYPE.true)

pub returns-then-get-ne0 : goal.returns-then-get-ne0
returns-then-get-ne0 c = simp (window-fixed, differs c.get-2.ensures c.if-get-ne0.true, both_false)

pub returns-then-get-len : goal.returns-then-get-len
returns-then-get-len c =
    rw (window-fixed, ← form-known 7 _ _ c.get-4.ensures, ← c.len.ensures) (simp (differs c.get-3.ensures c.if-get-len.true, both_false))

pub returns-then-get-ne0-2 : goal.returns-then-get-ne0-2
returns-then-get-ne0-2 c = simp (window-fixed, differs c.get-5.ensures c.if-get-ne0-2.true, both_false)

pub returns : goal.returns
returns c =
    rw (window-fixed, equals c.get.ensures c.if-get-ne-TYPE.false, equals c.get-2.ensures c.if-get-ne0.false, ← form-known 7 _ _ c.get-4.ensures, ← c.len.ensures, equals c.get-3.ensures c.if-get-len.false, equals c.get-5.ensures c.if-get-ne0-2.false, c.get-6.ensures)
