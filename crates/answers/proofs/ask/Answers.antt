-- `ask` meets its contract: each way that the words can be read is the definition's.
use Rattle.answers.proofs.Laws.{number-low, unhexed}
use Rattle.answers.specs.Lines.{asking}
use Rattle.talk.specs.Numbers.{number_in}
use mathlib.Core.Path.{sym, ap, ◌∙◌}
use native.Mathlib.Omega.{arith}
use Rattle.answers.proofs.ask.Goals as goal

pub returns-in_default : goal.returns-in_default
unfolding asking
returns-in_default c =
    rw (ap (number_in _) (sym c.word.ensures) ∙ sym c.decimal.ensures ∙ c.in_default.is) c.bad.ensures

pub returns-in_default-decimal : goal.returns-in_default-decimal
unfolding asking
returns-in_default-decimal c =
    rw (ap (number_in _) (sym c.word.ensures) ∙ sym c.decimal.ensures ∙ c.in-Some.is, ← c.behind-rest.ensures, ap (number_in _) (sym c.word-2.ensures) ∙ sym c.decimal-2.ensures ∙ c.in_default-decimal.is) c.bad-in_default-decimal.ensures

pub overflow_cast-mask : goal.overflow_cast-mask
overflow_cast-mask c =
    omega (arith, number-low 4294967295 _ _ (sym c.decimal.ensures ∙ c.in-Some.is))

pub returns-in-Ok : goal.returns-in-Ok
unfolding asking
returns-in-Ok c =
    let q = sym c.count.ensures ∙ c.in-Ok.is in
    rw (ap (number_in _) (sym c.word.ensures) ∙ sym c.decimal.ensures ∙ c.in-Some.is, ← c.behind-rest.ensures, ap (number_in _) (sym c.word-2.ensures) ∙ sym c.decimal-2.ensures ∙ c.in-Some-decimal.is, ← c.behind-digits.ensures, q, ← unhexed _ _ _ _ _ q c.unhex.ensures c.first.ensures)
    c.look.ensures

pub returns-in-Err : goal.returns-in-Err
unfolding asking
returns-in-Err c =
    rw (ap (number_in _) (sym c.word.ensures) ∙ sym c.decimal.ensures ∙ c.in-Some.is, ← c.behind-rest.ensures, ap (number_in _) (sym c.word-2.ensures) ∙ sym c.decimal-2.ensures ∙ c.in-Some-decimal.is, ← c.behind-digits.ensures, sym c.count.ensures ∙ c.in-Err.is)
    c.bad-in-Err.ensures
