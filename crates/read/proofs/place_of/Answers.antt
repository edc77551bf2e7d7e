-- `place_of` meets its contract: a record behind another as many times as are asked for.
use mathlib.Core.Path.{◌≡◌, sym, ap, ◌∙◌}
use Prim.Native.Nat.{◌+◌, ◌-◌}
use native.Mathlib.Omega.{arith}
use lib.ListN.{length}
use Rattle.read.proofs.Listing.{body-room, behind-next, behind-end}
use Rattle.read.proofs.place_of.Goals as goal

pub loop-preserved : goal.loop-preserved
loop-preserved c =
    let b = c.args.table.now in
    let next : c.args.n - c.loop.counter - 1 ≡ c.args.n - (c.loop.counter + 1) = omega arith in
    (omega (arith, ap length c.body_at.ensures, body-room b c.loop.p), c.loop.invariant.1 ∙ behind-next b (c.args.n - c.loop.counter) c.loop.p (omega (arith, c.loop-test.true)) ∙ rw (next, c.body_at.ensures))

pub returns : goal.returns
returns c =
    sym (c.loop.invariant.1 ∙ behind-end c.args.table.now (c.args.n - c.loop.counter) c.loop.p (omega (arith, c.loop-test.false)))
