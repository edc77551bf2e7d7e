-- `GenericInitiator::is_fixed` meets its contract, test by test.
use mathlib.Core.Path.{sym, ◌∙◌}
use Rattle.laws.proofs.Tests.{both_false}
use Rattle.laws.proofs.Fields.{differs, equals}
use Rattle.srat.proofs.Laws.{initiator-fixed}
use Rattle.srat.proofs.GenericInitiator.is_fixed.Goals as goal

pub returns-then-get-ne-TYPE : goal.returns-then-get-ne-TYPE
returns-then-get-ne-TYPE c = rw (initiator-fixed, differs c.get.ensures c.if-get-ne-TYPE.true)

pub returns-then-get-ne-LEN : goal.returns-then-get-ne-LEN
returns-then-get-ne-LEN c = simp (initiator-fixed, differs c.get-2.ensures c.if-get-ne-LEN.true, both_false)

pub returns-then-get-ne0 : goal.returns-then-get-ne0
returns-then-get-ne0 c = simp (initiator-fixed, differs c.get-3.ensures c.if-get-ne0.true, both_false)

pub returns-then-not-is_fixed : goal.returns-then-not-is_fixed
returns-then-not-is_fixed c = simp (initiator-fixed, sym c.is_fixed.ensures ∙ c.if-not-is_fixed.true, both_false)

pub returns : goal.returns
returns c =
    rw (initiator-fixed, equals c.get.ensures c.if-get-ne-TYPE.false, equals c.get-2.ensures c.if-get-ne-LEN.false, equals c.get-3.ensures c.if-get-ne0.false, ← c.is_fixed.ensures, c.if-not-is_fixed.false, c.get-4.ensures)
