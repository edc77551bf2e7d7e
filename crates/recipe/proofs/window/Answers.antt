-- `window` meets its contract: a node without references, whose ways' code settles its length.
use mathlib.Core.Path.{◌≡◌, refl, ap, ◌∙◌}
use native.Mathlib.Omega.{arith}
use borrow.Author.Rules.{rules}
use Rattle.format.specs.Bytes.{at}
use Rattle.format.specs.Layout.{fields_with, fields, refs_good}
use Rattle.format.specs.Form.{window, ways, ranges}
use Rattle.format.specs.Node.{node}
use Rattle.format.specs.Kind.{Window, body}
use Rattle.format.specs.Recipe.{step}
use Rattle.format.specs.Field.{bad_field}
use Rattle.field.specs.Place.{place_or_none}
use Rattle.laws.proofs.Shapes.{few-ways}
use Rattle.recipe.proofs.Steps.{plain_turn}
use Rattle.recipe.proofs.window.Goals as goal

pub made-requires : goal.made-requires
made-requires c =
    (search rules, omega (arith, c.len.ensures, few-ways c.from_body-node.result.interleave_ways))

pub returns : goal.returns
unfolding body fields_with step refs_good ranges bad_field
returns c t u ns p e =
    let bs = c.args.bytes.now in
    let vs = fields (body Window) bs in
    let m = c.from_body-node.result in
    let i : m.interleave_ways ≡ at vs 2 = ap (λ vs. at vs 2) c.from_body-node.ensures in
    let bad = c.bad_field.ensures ∙ ap (λ vs. place_or_none (bad_field (node (window (ways (at vs 2))) vs))) c.from_body-node.ensures in
    rw ((c.made.ensures p), c.len.ensures, c.num_interleaved_ways.ensures, i) (plain_turn Window (window (ways (at vs 2))) bs vs refl refl (λ ms. refl) (λ ok vs. refl) t u ns p _ _ bad e)
