-- `Checksum::delete` meets its contract: what a sum lacks to 0 depends on it modulo 256 alone.
use Rattle.std.proofs.Common.{◌∙◌}
use native.Mathlib.Nat.{mod-mod}
use Rattle.header.proofs.Checksum.delete.Goals as goal

pub returns : goal.returns
returns c = c.sub.ensures ∙ rw (c.u8sum.ensures, mod-mod)
