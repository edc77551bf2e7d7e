-- `put_cache` meets its contract: its node, before the ordinal of its next level, is the call of its record; a window of all bytes is all of them.
use mathlib.Core.Path.{◌≡◌, sym, ◌∙◌}
use native.Mathlib.Omega.{arith}
use lib.Seq.{take_all, length-take-le}
use Rattle.format.specs.Layout.{width}
use Rattle.format.specs.Kind.{Cache, body}
use Rattle.format.specs.Normal.{calls}
use Rattle.laws.proofs.Fields.{length-call}
use Rattle.header.specs.Header.{meant}
use Rattle.readout.specs.Places.{ordinal_at}
use Rattle.readout.proofs.Lists.{put-laid}
use Rattle.readout.proofs.Records.{cache-named}
use Rattle.readout.proofs.Walk.put_cache.Goals as goal

pub slice_bounds-get-end : goal.slice_bounds-get-end
slice_bounds-get-end g c =
    sym (length-take-le 28 c.args.body.now (omega (arith, c.requires.0)))

pub overflow_add-result : goal.overflow_add-result
unfolding calls body width
overflow_add-result g c =
    let z : c.put_body.result ≡ 22 = c.put_body.ensures.value ∙ length-call Cache _ in
    omega (arith, c.requires.1)

pub returns : goal.returns
unfolding calls body width
returns g c =
    let e = rw (take_all 28 c.args.body.now (omega (arith, c.requires.0))) at c.get-node.ensures in
    let z : c.put_body.result ≡ 22 = c.put_body.ensures.value ∙ length-call Cache _ in
    let w = rw c.named.ensures at c.put_body.ensures.out_after in
    let l = rw c.named.ensures at c.put_body.ensures.value in
    let v = c.args.self.now in
    (put-laid w l (cache-named (ordinal_at (meant v.t) v.c.now v.own) c.args.body.now c.get-node.result (record { 0 = c.ordinal.result }) e c.ordinal.ensures), omega arith)
