-- `CxlFixedMemory::put` meets its contract: the fields before the targets, and zeros behind them.
use native.Mathlib.Omega.{arith}
use Rattle.laws.proofs.Bytes.{over-next}
use Rattle.laws.proofs.Over.{over-at}
use Rattle.cedt.proofs.Windows.{length_front, fresh}
use Rattle.cedt.proofs.CxlFixedMemory.put.Goals as goal

pub returns : goal.returns
returns c =
    let two = over-at _ _ _ _ _ _ c.fill.ensures c.target_place-targets.ensures (omega arith) in
    rw (fresh, ← c.num_interleaved_ways.ensures) (over-next _ _ _ _ _ _ _ c.put_front.ensures two (rw length_front (omega arith)))
