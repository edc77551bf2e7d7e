-- `OldRintcAffinity::is_sound` meets its contract: a record is sound where its fixed values are, and its flags are in their range.
use Rattle.srat.proofs.Laws.{old-rintc-sound}
use Rattle.srat.proofs.OldRintcAffinity.is_sound.Goals as goal

pub returns-else-is_fixed : goal.returns-else-is_fixed
returns-else-is_fixed c = rw (old-rintc-sound, ← c.is_fixed.ensures, c.if-is_fixed.false)

pub returns-then-is_fixed : goal.returns-then-is_fixed
returns-then-is_fixed c =
    rw (old-rintc-sound, ← c.is_fixed.ensures, c.if-is_fixed.true, c.get.ensures)
