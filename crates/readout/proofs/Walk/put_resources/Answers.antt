-- `put_resources` meets its contract: its numbers are those of the layout, each by its low bytes.
use mathlib.Core.Path.{◌≡◌}
use Prim.Native.Nat.{◌+◌}
use native.Mathlib.Omega.{arith}
use Rattle.format.specs.Layout.{width}
use Rattle.format.specs.Kind.{body}
use Rattle.header.specs.Header.{meant}
use Rattle.readout.specs.Laid.{up_to}
use Rattle.readout.specs.Places.{ordinal_at}
use Rattle.readout.proofs.Lists.{none-laid, next-laid, up_to-short}
use Rattle.readout.proofs.Records.{resource_list, resources-laid}
use Rattle.readout.proofs.Walk.put_resources.Goals as goal

pub loop-i-init : goal.loop-i-init
unfolding up_to
loop-i-init g c = none-laid _ _

pub overflow_add-p : goal.overflow_add-p
overflow_add-p g c =
    let w = c.args.self.now in
    let r = resource_list (ordinal_at (meant w.t) w.c.now w.own) c.args.body.now in
    let m = next-laid r.of c.loop-i.i c.loop-i.invariant c.put_resource-p.ensures.out_after c.put_resource-p.ensures.value in
    omega (arith, m.next, up_to-short r.of 9 r.short (c.loop-i.i + 1), c.requires.0, c.requires.1)

pub loop-i-preserved : goal.loop-i-preserved
loop-i-preserved g c =
    let w = c.args.self.now in
    let r = resource_list (ordinal_at (meant w.t) w.c.now w.own) c.args.body.now in
    next-laid r.of c.loop-i.i c.loop-i.invariant c.put_resource-p.ensures.out_after c.put_resource-p.ensures.value

pub returns : goal.returns
unfolding width body
returns g c =
    let w = c.args.self.now in
    let e : c.loop-i.i ≡ c.args.n = omega arith in
    resources-laid (ordinal_at (meant w.t) w.c.now w.own) c.args.body.now c.args.n (rw e at c.loop-i.invariant)
