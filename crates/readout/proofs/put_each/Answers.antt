-- `put_each` meets its contract: number by number, each of which gives nine bytes at most.
use Prim.Native.Nat.{◌+◌}
use native.Mathlib.Omega.{arith}
use Rattle.readout.specs.Laid.{up_to}
use Rattle.readout.proofs.Lists.{none-laid, next-laid, up_to-short}
use Rattle.readout.proofs.put_each.Goals as goal

pub loop-i-init : goal.loop-i-init
unfolding up_to
loop-i-init g c = none-laid _ _

pub overflow_add-p : goal.overflow_add-p
overflow_add-p g c =
    let (b, r) = c.requires.1.1.0 _ _ _ _ _ c.put-p.ensures in
    let m = next-laid g.calls.of c.loop-i.i c.loop-i.invariant b r in
    let room = c.requires.1.1.1 in
    omega (arith, m.next, up_to-short g.calls.of 9 g.calls.short (c.loop-i.i + 1), room.0, room.1)

pub loop-i-preserved : goal.loop-i-preserved
loop-i-preserved g c =
    let (b, r) = c.requires.1.1.0 _ _ _ _ _ c.put-p.ensures in
    next-laid g.calls.of c.loop-i.i c.loop-i.invariant b r
