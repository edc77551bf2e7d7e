-- The answers that the search does not find.
use Rattle.std.proofs.Common.{sym, ◌∙◌, arith}
use Rattle.talk.proofs.Turns.{unhex-turn, unhex-end}
use Rattle.talk.proofs.unhex.Goals as goal

pub loop-i-preserved : goal.loop-i-preserved
loop-i-preserved c =
    let turn = unhex-turn c.args.text.now c.loop-i.i (omega arith) c.loop-i.out in
    rw c.pair.ensures turn ∙ c.loop-i.invariant

pub returns : goal.returns
returns c =
    let l = c.loop-i in
    sym (unhex-end c.args.text.now l.out l.i (omega arith)) ∙ l.invariant
