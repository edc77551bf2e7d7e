-- `map` meets its contract: behind maths that have fewer than 255 of them.
use mathlib.Core.Path.{sym, ◌∙◌}
use native.Mathlib.Omega.{arith}
use borrow.Author.Tests.{leb-false}
use Rattle.format.specs.Layout.{fields}
use Rattle.format.specs.Kind.{Map, body}
use Rattle.format.specs.Recipe.{step}
use Rattle.recipe.specs.Machine.{counts}
use Rattle.recipe.proofs.Steps.{turn-judged, stray-map, map-turn}
use Rattle.recipe.proofs.map.Goals as goal

pub returns-in_default : goal.returns-in_default
unfolding step
returns-in_default c bs t u ns p e = sym (turn-judged t u ns Map bs p ∙ rw (stray-map t u ns (counts c.args.st) e (fields (body Map) bs) c.in_default.not-Xor))

pub returns-then-is_full : goal.returns-then-is_full
returns-then-is_full c bs t u ns p e =
    sym (map-turn t u (counts c.args.st) p bs _ ns e c.in-Xor.is ∙ rw (sym c.is_full.ensures ∙ c.if-is_full.true))

pub overflow_add-n : goal.overflow_add-n
overflow_add-n c = record { fits = omega (arith, leb-false 255 c.in-Xor.n (sym c.is_full.ensures ∙ c.if-is_full.false)) }

pub returns : goal.returns
returns c bs t u ns p e =
    rw (c.grown.ensures p) (sym (map-turn t u (counts c.args.st) p bs _ ns e c.in-Xor.is ∙ rw (sym c.is_full.ensures ∙ c.if-is_full.false)))
