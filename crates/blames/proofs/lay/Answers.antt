-- `lay` meets its contract: the place is laid behind a field where there is one.
use mathlib.Core.Path.{sym, ◌∙◌}
use Rattle.text.proofs.Texts.{next, end}
use Rattle.blames.proofs.Names.{words-there, words-none}
use Rattle.blames.proofs.lay.Goals as goal

pub returns-then-is_empty : goal.returns-then-is_empty
returns-then-is_empty c =
    let a = c.args in
    sym (end a.text.now (words-none a.field.now a.at (sym c.is_empty.ensures ∙ c.if-is_empty.true)))

pub returns : goal.returns
returns c =
    let a = c.args in
    rw (words-there a.field.now a.at (sym c.is_empty.ensures ∙ c.if-is_empty.false)) (next _ _ _ c.bytes.ensures (next _ _ _ c.bytes-2.ensures c.spaced.ensures))
