-- `SystemLocality::entry_value` meets its contract: the number at its place.
use native.Mathlib.Omega.{arith}
use Rattle.laws.proofs.Over.{value-at}
use Rattle.hmat.proofs.SystemLocality.entry_value.Goals as goal

pub returns : goal.returns
returns c = value-at _ _ _ _ _ _ c.get.ensures c.cell_place-place.ensures (omega arith)
