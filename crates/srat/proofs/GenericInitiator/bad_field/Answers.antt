-- `GenericInitiator::bad_field` meets its contract: the handle's fields, then the flags.
use Rattle.field.proofs.Places.{eqb-place}
use Rattle.srat.proofs.Laws.{initiator-bad, flags-placed}
use Rattle.srat.proofs.GenericInitiator.bad_field.Goals as goal

pub returns-then-is_some : goal.returns-then-is_some
returns-then-is_some c =
    rw (initiator-bad, eqb-place _ c.bad_field-bad.ensures, ← c.is_some.ensures, c.if-is_some.true) c.bad_field-bad.ensures

pub returns-then-not-is_good_flags : goal.returns-then-not-is_good_flags
returns-then-not-is_good_flags c =
    rw (initiator-bad, eqb-place _ c.bad_field-bad.ensures, ← c.is_some.ensures, c.if-is_some.false, ← c.is_good_flags.ensures, c.if-not-is_good_flags.true, flags-placed, c.flags_place.ensures)

pub returns : goal.returns
returns c =
    rw (initiator-bad, eqb-place _ c.bad_field-bad.ensures, ← c.is_some.ensures, c.if-is_some.false, ← c.is_good_flags.ensures, c.if-not-is_good_flags.false)
