-- `SystemLocality::put` meets its contract: the fields before the values, and the values and cells behind them.
use native.Mathlib.Omega.{arith}
use Rattle.laws.proofs.Bytes.{over-next}
use Rattle.laws.proofs.Over.{over-at}
use Rattle.hmat.proofs.Matrices.{length_front, fresh}
use Rattle.hmat.proofs.SystemLocality.put.Goals as goal

pub returns : goal.returns
returns c =
    let two = over-at _ _ _ _ _ _ c.put_unset.ensures c.saturating_add-values.ensures (omega arith) in
    rw fresh (over-next _ _ _ _ _ _ _ c.put_front.ensures two (rw length_front (omega arith)))
