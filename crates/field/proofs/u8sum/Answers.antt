-- The answers that the search does not find.
use Rattle.std.proofs.Common.{◌≡◌, ◌/◌, ◌%◌, arith}
use Rattle.format.specs.Bytes.{sum}
use Rattle.laws.proofs.Bytes.{sum_drop, sum-drop-end}
use Rattle.field.proofs.u8sum.Goals as goal

pub loop-b-preserved : goal.loop-b-preserved
loop-b-preserved c =
    let e = sum_drop c.args.s.now c.loop-b.b-index c.loop-b-test.true in
    (omega arith, omega arith, omega arith, omega (arith, e))

pub returns : goal.returns
returns c =
    let s = c.args.s.now in
    let e = sum-drop-end s c.loop-b.b-index c.loop-b-test.false in
    let h : c.loop-b.high ≡ sum s / 256 = omega (arith, e) in
    let r : c.loop-b.low ≡ sum s % 256 = omega (arith, e) in
    rw (h, r)
