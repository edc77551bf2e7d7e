-- `processor` meets its contract: its parent is an earlier node, and that a processor; or none.
use mathlib.Core.Path.{sym, ◌∙◌}
use borrow.Author.Tests.{le-ltb, lt-ltb}
use Rattle.format.specs.Kind.{Processor}
use Rattle.laws.proofs.Builds.{kind-home}
use Rattle.laws.proofs.Fields.{failed, passed}
use Rattle.recipe.specs.Machine.{counts}
use Rattle.recipe.proofs.Steps.{processor-turn}
use Rattle.recipe.proofs.processor.Goals as goal

pub returns-then-own-parent : goal.returns-then-own-parent
returns-then-own-parent c t u ns p e b q w =
    let a = c.args in
    sym (processor-turn t u ns (counts a.st) e a.types.now (w.typed (sym (kind-home t b Processor q))) p a.bytes.now ∙ rw (← c.parent_in-parent.ensures, le-ltb _ _ c.if-own-parent.true))

pub returns-then-not-names_or_none : goal.returns-then-not-names_or_none
returns-then-not-names_or_none c t u ns p e b q w =
    let a = c.args in
    sym (processor-turn t u ns (counts a.st) e a.types.now (w.typed (sym (kind-home t b Processor q))) p a.bytes.now
    ∙ rw (← c.parent_in-parent.ensures, lt-ltb _ _ c.if-own-parent.false, failed c.names_or_none.ensures c.if-not-names_or_none.true))

pub returns : goal.returns
returns c t u ns p e b q w =
    let a = c.args in
    rw (c.grown.ensures p)
    (sym (processor-turn t u ns (counts a.st) e a.types.now (w.typed (sym (kind-home t b Processor q))) p a.bytes.now
    ∙ rw (← c.parent_in-parent.ensures, lt-ltb _ _ c.if-own-parent.false, passed c.names_or_none.ensures c.if-not-names_or_none.false)))
