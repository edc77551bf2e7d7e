-- `write` at u8 meets its contract.
use native.Mathlib.Nat.{mod-eq_of_lt}
use Rattle.format.specs.Bytes.{le}
use Rattle.field.proofs.U8Number.write.Goals as goal

pub returns : goal.returns
unfolding le
returns c = rw (c.copy.ensures, c.to_le_bytes.ensures, mod-eq_of_lt c.ranges.self.fits)
