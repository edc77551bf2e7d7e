-- `MemorySideCache::put_handle` meets its contract: one number at its place.
use native.Mathlib.Omega.{arith}
use Rattle.laws.proofs.Over.{over-at}
use Rattle.hmat.proofs.MemorySideCache.put_handle.Goals as goal

pub returns : goal.returns
returns c = over-at _ _ _ _ _ _ c.put.ensures c.handle_place-place.ensures (omega arith)
