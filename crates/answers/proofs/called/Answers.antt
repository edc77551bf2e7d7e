-- `called` meets its contract: each call is the definition's.
use Rattle.answers.specs.Lines.{answer_to}
use Rattle.talk.specs.Words.{call_in}
use mathlib.Core.Path.{sym, ap, ◌∙◌}
use Rattle.answers.proofs.called.Goals as goal

pub returns-in-Some-Build : goal.returns-in-Some-Build
unfolding answer_to
returns-in-Some-Build c =
    rw (ap call_in (sym c.word.ensures) ∙ sym c.named.ensures ∙ c.in-Some-Build.is, c.in-Some-Build.field-0-is, ← c.behind-words.ensures) c.write.ensures

pub returns-in-Some-Out : goal.returns-in-Some-Out
unfolding answer_to
returns-in-Some-Out c =
    rw (ap call_in (sym c.word.ensures) ∙ sym c.named.ensures ∙ c.in-Some-Out.is, c.in-Some-Out.field-0-is, ← c.behind-words.ensures) c.write-in-Some-Out.ensures

pub returns-in-Some-Read : goal.returns-in-Some-Read
unfolding answer_to
returns-in-Some-Read c =
    rw (ap call_in (sym c.word.ensures) ∙ sym c.named.ensures ∙ c.in-Some-Read.is, c.in-Some-Read.field-0-is, ← c.behind-words.ensures) c.ask.ensures

pub returns-in-Some-Sum : goal.returns-in-Some-Sum
unfolding answer_to
returns-in-Some-Sum c =
    rw (ap call_in (sym c.word.ensures) ∙ sym c.named.ensures ∙ c.in-Some-Sum.is, c.in-Some-Sum.field-0-is, ← c.behind-words.ensures) c.add_up.ensures

pub returns-in-None : goal.returns-in-None
unfolding answer_to
returns-in-None c =
    rw (ap call_in (sym c.word.ensures) ∙ sym c.named.ensures ∙ c.in-None.is) c.bad.ensures
