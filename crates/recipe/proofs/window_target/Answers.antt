-- `window_target` meets its contract: behind a window that has fewer targets than ways.
use mathlib.Core.Path.{sym, ◌∙◌}
use borrow.Author.Tests.{le-leb, lt-leb}
use Rattle.format.specs.Layout.{fields}
use Rattle.format.specs.Kind.{WindowTarget, body}
use Rattle.format.specs.Recipe.{step}
use Rattle.recipe.specs.Machine.{counts}
use Rattle.recipe.proofs.Steps.{turn-judged, stray-target, target-turn}
use Rattle.recipe.proofs.window_target.Goals as goal

pub returns-in_default : goal.returns-in_default
unfolding step
returns-in_default c bs t u ns p e g = sym (turn-judged t u ns WindowTarget bs p ∙ rw (stray-target t u ns (counts c.args.st) e (fields (body WindowTarget) bs) c.in_default.not-Window))

pub returns-then-needs-has : goal.returns-then-needs-has
returns-then-needs-has c bs t u ns p e g =
    sym (target-turn t u (counts c.args.st) p bs _ _ ns e c.in-Window.is g ∙ rw (le-leb _ _ c.if-needs-has.true))

pub returns : goal.returns
returns c bs t u ns p e g =
    rw (c.grown.ensures p) (sym (target-turn t u (counts c.args.st) p bs _ _ ns e c.in-Window.is g ∙ rw (lt-leb _ _ c.if-needs-has.false)))
