-- `MemorySideCache::is_sound` meets its contract: the fields that `get` reads are those that have ranges.
use Rattle.field.proofs.Places.{is_none-place}
use Rattle.laws.proofs.Fields.{sound-node}
use Rattle.hmat.proofs.Fixed.{side-bad}
use Rattle.hmat.proofs.MemorySideCache.is_sound.Goals as goal

pub returns-then-is_fixed : goal.returns-then-is_fixed
returns-then-is_fixed c =
    rw (sound-node, ← c.is_fixed.ensures, c.if-is_fixed.true, side-bad, ← c.get.ensures) (is_none-place _ c.bad_field.ensures c.is_none.ensures)

pub returns-else-is_fixed : goal.returns-else-is_fixed
returns-else-is_fixed c = rw (sound-node, ← c.is_fixed.ensures, c.if-is_fixed.false)
