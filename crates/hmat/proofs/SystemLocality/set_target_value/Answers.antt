-- `SystemLocality::set_target_value` meets its contract: one number at its place.
use native.Mathlib.Omega.{arith}
use Rattle.laws.proofs.Over.{over-at}
use Rattle.hmat.proofs.SystemLocality.set_target_value.Goals as goal

pub returns : goal.returns
returns c = over-at _ _ _ _ _ _ c.put.ensures c.target_place-place.ensures (omega arith)
