-- `write` meets its contract: each way that the words can be read is the definition's.
use Rattle.answers.proofs.Laws.{unhexed}
use Rattle.answers.specs.Lines.{writing}
use Rattle.talk.specs.Numbers.{number_in}
use Prim.Native.Nat.{min}
use lib.ListN.{length, take}
use lib.Seq.{length-take-le}
use native.Mathlib.Omega.{arith}
use mathlib.Core.Path.{◌≡◌, sym, ap, ◌∙◌}
use Rattle.answers.proofs.write.Goals as goal

pub returns-in_default : goal.returns-in_default
unfolding writing
returns-in_default c =
    rw (ap (number_in _) (sym c.word.ensures) ∙ sym c.decimal.ensures ∙ c.in_default.is) c.bad.ensures

pub returns-in-Ok : goal.returns-in-Ok
unfolding writing
returns-in-Ok c =
    let q = sym c.count.ensures ∙ c.in-Ok.is in
    let lent = c.args.lent.now in
    let room : length (take c.min-len.result lent) ≡ min c.in-Some.room (length lent) = length-take-le c.min-len.result lent (omega arith) ∙ omega (arith, c.min-len.ensures) in
    rw (ap (number_in _) (sym c.word.ensures) ∙ sym c.decimal.ensures ∙ c.in-Some.is, ← c.behind-digits.ensures, q, ← unhexed _ _ _ _ _ q c.unhex.ensures c.first.ensures, ← room)
    c.carry_out.ensures

pub returns-in-Err : goal.returns-in-Err
unfolding writing
returns-in-Err c =
    rw (ap (number_in _) (sym c.word.ensures) ∙ sym c.decimal.ensures ∙ c.in-Some.is, ← c.behind-digits.ensures, sym c.count.ensures ∙ c.in-Err.is) c.bad-in-Err.ensures
