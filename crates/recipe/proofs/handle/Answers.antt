-- `handle` meets its contract: behind a side cache that has fewer than 65,535 of them.
use mathlib.Core.Path.{sym, ◌∙◌}
use native.Mathlib.Omega.{arith}
use borrow.Author.Tests.{leb-false}
use Rattle.format.specs.Layout.{fields}
use Rattle.format.specs.Kind.{Handle, body}
use Rattle.format.specs.Recipe.{step}
use Rattle.recipe.specs.Machine.{counts}
use Rattle.recipe.proofs.Steps.{turn-judged, stray-handle, handle-turn}
use Rattle.recipe.proofs.handle.Goals as goal

pub returns-in_default : goal.returns-in_default
unfolding step
returns-in_default c bs t u ns p e = sym (turn-judged t u ns Handle bs p ∙ rw (stray-handle t u ns (counts c.args.st) e (fields (body Handle) bs) c.in_default.not-Side))

pub returns-then-is_full : goal.returns-then-is_full
returns-then-is_full c bs t u ns p e =
    sym (handle-turn t u (counts c.args.st) p bs _ ns e c.in-Side.is ∙ rw (sym c.is_full.ensures ∙ c.if-is_full.true))

pub overflow_add-n : goal.overflow_add-n
overflow_add-n c = record { fits = omega (arith, leb-false 65535 c.in-Side.n (sym c.is_full.ensures ∙ c.if-is_full.false)) }

pub returns : goal.returns
returns c bs t u ns p e =
    rw (c.grown.ensures p) (sym (handle-turn t u (counts c.args.st) p bs _ ns e c.in-Side.is ∙ rw (sym c.is_full.ensures ∙ c.if-is_full.false)))
