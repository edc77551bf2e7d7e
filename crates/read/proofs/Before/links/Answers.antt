-- The answers that the search does not find.
use mathlib.Core.Path.{sym, ◌∙◌}
use native.Mathlib.Nat.{sub-zero}
use Rattle.format.specs.Table.{pptt}
use Rattle.frames.specs.Frames.{refers}
use Rattle.read.proofs.Refs.{linked-turn, linked-end}
use Rattle.read.proofs.Before.links.Goals as goal

pub loop-i-init : goal.loop-i-init
loop-i-init g c = rw sub-zero

pub returns-then-not-refers : goal.returns-then-not-refers
returns-then-not-refers g c =
    let s = c.args.self.now in
    let turn = linked-turn (refers pptt s.c.now s.own) _ c.loop-i.i c.args.resources.now c.loop-i-test.true in
    sym (c.loop-i.invariant ∙ turn ∙ rw (← c.get.ensures, ← c.refers.ensures, c.if-not-refers.true))

pub loop-i-preserved : goal.loop-i-preserved
loop-i-preserved g c =
    let s = c.args.self.now in
    let turn = linked-turn (refers pptt s.c.now s.own) _ c.loop-i.i c.args.resources.now c.loop-i-test.true in
    c.loop-i.invariant ∙ turn ∙ rw (← c.get.ensures, ← c.refers.ensures, c.if-not-refers.false)

pub returns : goal.returns
returns g c =
    let s = c.args.self.now in
    sym (c.loop-i.invariant ∙ linked-end (refers pptt s.c.now s.own) _ c.loop-i.i _ c.loop-i-test.false)
