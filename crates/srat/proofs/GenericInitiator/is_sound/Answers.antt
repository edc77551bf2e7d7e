-- `GenericInitiator::is_sound` meets its contract: the law of an initiator's ranges, whose byte of device and function is one of the row.
use Rattle.srat.proofs.Laws.{initiator-sound}
use Rattle.srat.proofs.GenericInitiator.is_sound.Goals as goal

pub returns-else-is_fixed : goal.returns-else-is_fixed
returns-else-is_fixed c =
    rw (initiator-sound c.args.row.now (c.type_inv.row 11).fits, ← c.is_fixed.ensures, c.if-is_fixed.false)

pub returns-then-is_fixed : goal.returns-then-is_fixed
returns-then-is_fixed c =
    rw (initiator-sound c.args.row.now (c.type_inv.row 11).fits, ← c.is_fixed.ensures, c.if-is_fixed.true, ← c.get.ensures, c.is_good_flags.ensures)
