-- `resource` meets its contract: behind a processor that has fewer than 58 of them, an earlier node that is a cache.
use mathlib.Core.Path.{◌≡◌, sym, ap, ◌∙◌}
use native.Mathlib.Omega.{arith}
use borrow.Author.Tests.{eq-eqb, ne_eqb, le-ltb, lt-ltb, leb-false}
use Rattle.format.specs.Bytes.{at}
use Rattle.format.specs.Layout.{fields}
use Rattle.format.specs.Kind.{Resource, body}
use Rattle.format.specs.Recipe.{step}
use Rattle.recipe.specs.Machine.{counts, refers}
use Rattle.laws.proofs.Builds.{kind-home}
use Rattle.laws.proofs.Fields.{failed, passed}
use Rattle.recipe.proofs.Steps.{turn-judged, stray-resource, resource-turn}
use Rattle.recipe.proofs.resource.Goals as goal

pub returns-in_default : goal.returns-in_default
unfolding step
returns-in_default c t u ns p e b q w =
    let a = c.args in
    sym (turn-judged t u ns Resource a.bytes.now p ∙ rw (stray-resource t u ns (counts a.st) e (fields (body Resource) a.bytes.now) c.in_default.not-Processor))

pub returns-then-cache-eq0 : goal.returns-then-cache-eq0
returns-then-cache-eq0 c t u ns p e b q w =
    let a = c.args in
    let v : c.from_body.result.cache.0 ≡ refers Resource a.bytes.now = ap (λ vs. at vs 0) c.from_body.ensures in
    sym (resource-turn t u (counts a.st) p a.bytes.now _ a.types.now ns e c.in-Processor.is (w.typed (sym (kind-home t b Resource q))) ∙ rw (← v, eq-eqb _ _ c.if-cache-eq0.true))

pub returns-then-own-cache : goal.returns-then-own-cache
returns-then-own-cache c t u ns p e b q w =
    let a = c.args in
    let v : c.from_body.result.cache.0 ≡ refers Resource a.bytes.now = ap (λ vs. at vs 0) c.from_body.ensures in
    sym (resource-turn t u (counts a.st) p a.bytes.now _ a.types.now ns e c.in-Processor.is (w.typed (sym (kind-home t b Resource q)))
    ∙ rw (← v, ne_eqb _ _ c.if-cache-eq0.false, le-ltb _ _ c.if-own-cache.true))

pub names-requires : goal.names-requires
names-requires c = omega (arith, c.if-cache-eq0.false)

pub returns-then-not-names : goal.returns-then-not-names
returns-then-not-names c t u ns p e b q w =
    let a = c.args in
    let v : c.from_body.result.cache.0 ≡ refers Resource a.bytes.now = ap (λ vs. at vs 0) c.from_body.ensures in
    sym (resource-turn t u (counts a.st) p a.bytes.now _ a.types.now ns e c.in-Processor.is (w.typed (sym (kind-home t b Resource q)))
    ∙ rw (← v, ne_eqb _ _ c.if-cache-eq0.false, lt-ltb _ _ c.if-own-cache.false, failed c.names.ensures c.if-not-names.true))

pub returns-then-is_full : goal.returns-then-is_full
returns-then-is_full c t u ns p e b q w =
    let a = c.args in
    let v : c.from_body.result.cache.0 ≡ refers Resource a.bytes.now = ap (λ vs. at vs 0) c.from_body.ensures in
    sym (resource-turn t u (counts a.st) p a.bytes.now _ a.types.now ns e c.in-Processor.is (w.typed (sym (kind-home t b Resource q)))
    ∙ rw (← v, ne_eqb _ _ c.if-cache-eq0.false, lt-ltb _ _ c.if-own-cache.false, passed c.names.ensures c.if-not-names.false, sym c.is_full.ensures ∙ c.if-is_full.true))

pub overflow_add-n : goal.overflow_add-n
overflow_add-n c =
    record { fits = omega (arith, leb-false 58 c.in-Processor.n (sym c.is_full.ensures ∙ c.if-is_full.false)) }

pub returns : goal.returns
returns c t u ns p e b q w =
    let a = c.args in
    let v : c.from_body.result.cache.0 ≡ refers Resource a.bytes.now = ap (λ vs. at vs 0) c.from_body.ensures in
    rw (c.grown.ensures p)
    (sym (resource-turn t u (counts a.st) p a.bytes.now _ a.types.now ns e c.in-Processor.is (w.typed (sym (kind-home t b Resource q)))
    ∙ rw (← v, ne_eqb _ _ c.if-cache-eq0.false, lt-ltb _ _ c.if-own-cache.false, passed c.names.ensures c.if-not-names.false, sym c.is_full.ensures ∙ c.if-is_full.false)))
