-- `SystemLocality::is_fixed` meets its contract, test by test; a length of four bytes is below where `len` ends.
use Prim.Native.Nat.{◌-◌, ◌^◌}
use borrow.Author.Rules.{rules}
use Rattle.laws.proofs.Tests.{both_false}
use Rattle.laws.proofs.Offsets.{form-known}
use Rattle.laws.proofs.Fields.{differs, equals}
use Rattle.hmat.proofs.Fixed.{differs-cut, equals-cut, matrix-fixed}
use Rattle.hmat.proofs.SystemLocality.is_fixed.Goals as goal

pub returns-then-get-ne-TYPE : goal.returns-then-get-ne-TYPE
returns-then-get-ne-TYPE c w = rw (matrix-fixed w, differs c.get.ensures c.if-get-ne-TYPE.true)

pub returns-then-get-ne0 : goal.returns-then-get-ne0
returns-then-get-ne0 c w = simp (matrix-fixed w, differs c.get-2.ensures c.if-get-ne0.true, both_false)

pub returns-then-get-len : goal.returns-then-get-len
returns-then-get-len c w =
    rw (matrix-fixed w, ← form-known 4 _ _ (c.get-4.ensures w)) (simp (differs-cut _ (2 ^ 64 - 1) c.get-3.ensures c.len.ensures (search rules) c.if-get-len.true, both_false))

pub returns-then-get-ne0-2 : goal.returns-then-get-ne0-2
returns-then-get-ne0-2 c w = simp (matrix-fixed w, differs c.get-5.ensures c.if-get-ne0-2.true, both_false)

pub returns : goal.returns
returns c w =
    rw (matrix-fixed w, equals c.get.ensures c.if-get-ne-TYPE.false, equals c.get-2.ensures c.if-get-ne0.false, ← form-known 4 _ _ (c.get-4.ensures w), equals-cut _ (2 ^ 64 - 1) c.get-3.ensures c.len.ensures (search rules) c.if-get-len.false, equals c.get-5.ensures c.if-get-ne0-2.false, c.get-6.ensures)
