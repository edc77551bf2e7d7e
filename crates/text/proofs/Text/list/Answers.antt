-- The answers that the search does not find.
use Rattle.std.proofs.Common.{sym, ◌∙◌, refl}
use Rattle.text.specs.Text.{listed}
use Rattle.text.proofs.Texts.{next, turn, end}
use Rattle.text.proofs.Digits.{listed-none, others-turn, others-end}
use Rattle.text.proofs.Text.list.Goals as goal

pub returns-in_default : goal.returns-in_default
returns-in_default c =
    sym (end c.args.self.now (listed-none c.args.vs.now c.in_default.ensures.cases))

pub loop-v-preserved : goal.loop-v-preserved
loop-v-preserved c =
    let l = c.loop-v in
    turn _ _ _ (next _ _ _ c.byte.ensures c.decimal-in-loop-v.ensures) (others-turn c.in-Some.others.now l.v-index c.loop-v-test.true) ∙ l.invariant

pub returns : goal.returns
unfolding listed
returns c =
    let l = c.loop-v in
    rw c.in-Some.ensures.cases.0 (sym (end l.self (others-end c.in-Some.others.now l.v-index c.loop-v-test.false)) ∙ l.invariant ∙ turn _ _ _ c.decimal.ensures refl)
