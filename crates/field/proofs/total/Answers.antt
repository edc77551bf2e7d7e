-- The answers that the search does not find.
use Rattle.std.proofs.Common.{arith}
use Rattle.laws.proofs.Bytes.{sum_drop, sum-drop-end}
use Rattle.field.proofs.total.Goals as goal

pub loop-w-preserved : goal.loop-w-preserved
loop-w-preserved c =
    let e = sum_drop c.args.ws.now c.loop-w.w-index c.loop-w-test.true in
    (omega arith, omega arith, omega (arith, e))

pub returns : goal.returns
returns c =
    omega (arith, sum-drop-end c.args.ws.now c.loop-w.w-index c.loop-w-test.false)
