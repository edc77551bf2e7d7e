-- `SystemLocality::put_unset` meets its contract: the values, and the cells behind them.
use mathlib.Core.Path.{◌≡◌}
use Prim.Native.Nat.{◌*◌, min}
use native.Mathlib.Omega.{arith}
use lib.ListN.{length-replicate}
use Rattle.laws.proofs.Bytes.{over-next}
use Rattle.laws.proofs.Over.{fill-at}
use Rattle.hmat.proofs.SystemLocality.put_unset.Goals as goal

pub returns : goal.returns
returns c =
    let m = c.args.self in
    let n : c.behind-cells.result ≡ min (2 * (m.initiators * m.targets)) 18446744073709551615 = omega arith in
    let two = fill-at _ _ _ _ _ _ _ _ c.fill-2.ensures c.saturating_add-first.ensures n (omega arith) in
    over-next _ _ _ _ _ _ _ c.fill.ensures two (rw length-replicate (omega arith))
