-- `talk::space` meets its contract: the place of the first hit is that of the first space.
use Rattle.std.proofs.Common.{rules, ◌≡◌, ◌≢◌, sym, ◌∙◌, arith}
use Rattle.std.proofs.lemmas.Iterator.{YieldsList-from_slice, IsFirst-from_position, index_from_first}
use borrow.Author.Tests.{tests}
use Rattle.talk.specs.Words.{space_in}
use Rattle.talk.proofs.Tests.{space_none, space_here, space_behind, space-most}
use Rattle.talk.proofs.space.Goals as goal

pub returns : goal.returns
returns c =
    let s = c.args.text.now in
    let first = IsFirst-from_position _ _ c.position.result (λ b. b ≡ 32) (λ b. b ≢ 32) c.position.ensures.ran (YieldsList-from_slice s cc) (λ x q k. search (rules, tests)) (λ x q k. search (rules, tests)) in
    let e = index_from_first space_in (λ b. b ≡ 32) (λ b. b ≢ 32) space_none space_here space_behind s c.position.result first in
    (c.unwrap_or.ensures ∙ sym e, omega (arith, c.unwrap_or.ensures ∙ sym e, space-most s))
