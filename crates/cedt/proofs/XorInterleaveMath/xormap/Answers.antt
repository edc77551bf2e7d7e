-- `XorInterleaveMath::xormap` meets its contract: the number at its place.
use native.Mathlib.Omega.{arith}
use Rattle.laws.proofs.Over.{value-at}
use Rattle.cedt.proofs.XorInterleaveMath.xormap.Goals as goal

pub returns : goal.returns
returns c = value-at _ _ _ _ _ _ c.get.ensures c.map_place.ensures (omega arith)
