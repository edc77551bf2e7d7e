-- `XorInterleaveMath::is_fixed` meets its contract, test by test.
use Rattle.laws.proofs.Tests.{both_false}
use Rattle.laws.proofs.Offsets.{form-known}
use Rattle.laws.proofs.Fields.{differs, equals}
use Rattle.cedt.proofs.Fixed.{maths-fixed}
use Rattle.cedt.proofs.XorInterleaveMath.is_fixed.Goals as goal

pub returns-then-get-ne-TYPE : goal.returns-then-get-ne-TYPE
returns-then-get-ne-TYPE c = rw (maths-fixed, differs c.get.ensures c.if-get-ne-TYPE.true)

pub returns-then-get-ne0 : goal.returns-then-get-ne0
returns-then-get-ne0 c = simp (maths-fixed, differs c.get-2.ensures c.if-get-ne0.true, both_false)

pub returns-then-get-len : goal.returns-then-get-len
returns-then-get-len c =
    rw (maths-fixed, ← form-known 1 _ _ c.get-4.ensures, ← c.len.ensures) (simp (differs c.get-3.ensures c.if-get-len.true, both_false))

pub returns : goal.returns
returns c =
    rw (maths-fixed, equals c.get.ensures c.if-get-ne-TYPE.false, equals c.get-2.ensures c.if-get-ne0.false, ← form-known 1 _ _ c.get-4.ensures, ← c.len.ensures, equals c.get-3.ensures c.if-get-len.false, c.get-5.ensures)
