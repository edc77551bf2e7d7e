-- `cache` meets its contract: its fields are good, and its next level is an earlier node, and that a cache; or none.
use mathlib.Core.Path.{◌≡◌, sym, ap, ◌∙◌}
use borrow.Author.Tests.{le-ltb, lt-ltb}
use Rattle.format.specs.Bytes.{at}
use Rattle.format.specs.Node.{Node}
use Rattle.format.specs.Kind.{Cache}
use Rattle.format.specs.Field.{bad_field}
use Rattle.field.specs.Place.{place_or_none}
use Rattle.field.proofs.Places.{none-place, some-place, some-above}
use Rattle.recipe.specs.Machine.{counts, refers}
use Rattle.laws.proofs.Builds.{kind-home}
use Rattle.laws.proofs.Fields.{failed, passed}
use Rattle.recipe.proofs.Steps.{cache-turn}
use Rattle.recipe.proofs.cache.Goals as goal

pub returns-in-Some : goal.returns-in-Some
returns-in-Some c t u ns p e b q w =
    let a = c.args in
    let h = sym c.in-Some.is ∙ c.bad_field.ensures ∙ ap (λ n. place_or_none (bad_field n)) c.from_body-node.ensures in
    sym (cache-turn t u ns (counts a.st) e a.types.now (w.typed (sym (kind-home t b Cache q))) p a.bytes.now ∙ rw (some-above _ h, some-place _ h))

pub returns-then-own-next_level : goal.returns-then-own-next_level
returns-then-own-next_level c t u ns p e b q w =
    let a = c.args in
    let v : c.from_body-node.result.next_level.0 ≡ refers Cache a.bytes.now = ap (λ (n : Node). at n.values 1) c.from_body-node.ensures in
    let h = sym c.in_default.is ∙ c.bad_field.ensures ∙ ap (λ n. place_or_none (bad_field n)) c.from_body-node.ensures in
    sym (cache-turn t u ns (counts a.st) e a.types.now (w.typed (sym (kind-home t b Cache q))) p a.bytes.now
    ∙ rw (none-place _ h, ← v, le-ltb _ _ c.if-own-next_level.true))

pub returns-then-not-names_or_none : goal.returns-then-not-names_or_none
returns-then-not-names_or_none c t u ns p e b q w =
    let a = c.args in
    let v : c.from_body-node.result.next_level.0 ≡ refers Cache a.bytes.now = ap (λ (n : Node). at n.values 1) c.from_body-node.ensures in
    let h = sym c.in_default.is ∙ c.bad_field.ensures ∙ ap (λ n. place_or_none (bad_field n)) c.from_body-node.ensures in
    sym (cache-turn t u ns (counts a.st) e a.types.now (w.typed (sym (kind-home t b Cache q))) p a.bytes.now
    ∙ rw (none-place _ h, ← v, lt-ltb _ _ c.if-own-next_level.false, failed c.names_or_none.ensures c.if-not-names_or_none.true))

pub returns : goal.returns
returns c t u ns p e b q w =
    let a = c.args in
    let v : c.from_body-node.result.next_level.0 ≡ refers Cache a.bytes.now = ap (λ (n : Node). at n.values 1) c.from_body-node.ensures in
    let h = sym c.in_default.is ∙ c.bad_field.ensures ∙ ap (λ n. place_or_none (bad_field n)) c.from_body-node.ensures in
    rw (c.grown.ensures p)
    (sym (cache-turn t u ns (counts a.st) e a.types.now (w.typed (sym (kind-home t b Cache q))) p a.bytes.now
    ∙ rw (none-place _ h, ← v, lt-ltb _ _ c.if-own-next_level.false, passed c.names_or_none.ensures c.if-not-names_or_none.false)))
