-- The answers that the search does not find.
use Rattle.std.proofs.Common.{sym, ◌∙◌, rules}
use Rattle.talk.proofs.Turns.{number-none, number-some, number-turn, number-end}
use Rattle.talk.proofs.decimal.Goals as goal

pub returns-then-is_empty : goal.returns-then-is_empty
returns-then-is_empty c = let a = c.args in sym (number-none a.most a.text.now (search rules))

pub loop-b-init : goal.loop-b-init
loop-b-init c = let a = c.args in number-some a.most a.text.now (search rules)

pub returns-in_err-v : goal.returns-in_err-v
returns-in_err-v c =
    let a = c.args in
    let l = c.loop-b in
    c.from_residual.ensures ∙ sym (l.invariant ∙ number-turn a.text.now l.b-index c.loop-b-test.true a.most l.v ∙ rw (← c.in_err-v.ensures))

pub loop-b-preserved : goal.loop-b-preserved
loop-b-preserved c =
    let a = c.args in
    let l = c.loop-b in
    l.invariant ∙ number-turn a.text.now l.b-index c.loop-b-test.true a.most l.v ∙ rw (← c.in_ok-v.ensures)

pub returns : goal.returns
returns c =
    let a = c.args in
    let l = c.loop-b in
    sym (l.invariant ∙ number-end a.text.now l.b-index c.loop-b-test.false a.most l.v)
