-- `MemorySideCache::smbios_handle` meets its contract: the number at its place.
use native.Mathlib.Omega.{arith}
use Rattle.laws.proofs.Over.{value-at}
use Rattle.hmat.proofs.MemorySideCache.smbios_handle.Goals as goal

pub returns : goal.returns
returns c = value-at _ _ _ _ _ _ c.get.ensures c.handle_place.ensures (omega arith)
