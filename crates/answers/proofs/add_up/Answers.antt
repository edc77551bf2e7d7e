-- `add_up` meets its contract: each way that the word can be read is the definition's.
use mathlib.Core.Path.{sym, ◌∙◌}
use Rattle.answers.specs.Lines.{adding}
use Rattle.answers.proofs.Laws.{unhexed}
use Rattle.answers.proofs.add_up.Goals as goal

pub returns-in-Ok : goal.returns-in-Ok
unfolding adding
returns-in-Ok c =
    let q = sym c.count.ensures ∙ c.in-Ok.is in
    rw (q, ← unhexed _ _ _ _ _ q c.unhex.ensures c.first.ensures) c.total.ensures

pub returns-in-Err : goal.returns-in-Err
unfolding adding
returns-in-Err c =
    rw (sym c.count.ensures ∙ c.in-Err.is) c.bad.ensures
