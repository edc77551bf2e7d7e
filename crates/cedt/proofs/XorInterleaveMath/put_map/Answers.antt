-- `XorInterleaveMath::put_map` meets its contract: one number at its place.
use native.Mathlib.Omega.{arith}
use Rattle.laws.proofs.Over.{over-at}
use Rattle.cedt.proofs.XorInterleaveMath.put_map.Goals as goal

pub returns : goal.returns
returns c = over-at _ _ _ _ _ _ c.put.ensures c.map_place-place.ensures (omega arith)
