-- `put` meets its contract: where the whole number has room, it is written there, and else as much of it as has.
use Rattle.std.proofs.Common.{arith}
use Rattle.format.specs.Bytes.{le}
use Rattle.laws.proofs.Bytes.{length-le}
use Rattle.field.proofs.Laid.{laid_over, laid_behind}
use Rattle.field.proofs.put.Goals as goal

pub returns-then-WIDTH-out : goal.returns-then-WIDTH-out
returns-then-WIDTH-out g c =
    let v = c.args.v in
    let w = g.T.Number.WIDTH in
    let n = g.T.Number.number v in
    let l = length-le w n in
    rw c.write.ensures (laid_over c.args.out.now c.args.at _ (le w n) (rw l (omega arith)) (rw l (omega arith)))

pub returns : goal.returns
returns g c =
    let a = c.args in
    rw c.write-2.ensures (laid_behind a.out.now a.at c.min-at.result _ (le g.T.Number.WIDTH (g.T.Number.number a.v)) c.min-at.ensures (omega (arith, c.min-at.ensures)))
