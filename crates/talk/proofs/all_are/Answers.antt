-- `talk::all_are` meets its contract: what `all` answers is the definition.
use Rattle.std.proofs.Common.{rules, ◌==◌, sym, ◌∙◌}
use Rattle.std.proofs.lemmas.Iterator.{YieldsList-from_slice}
use Rattle.std.proofs.lemmas.Iterator.Search.{all_from_yields_List}
use borrow.Author.Tests.{tests}
use Rattle.talk.proofs.Tests.{all_are-all}
use Rattle.talk.proofs.all_are.Goals as goal

pub returns : goal.returns
returns c =
    let a = c.args in
    all_from_yields_List (λ b. b == a.v) _ _ _ c.all.ensures.ran (YieldsList-from_slice a.s.now cc) (λ x b q k. search (rules, tests)) ∙ sym (all_are-all a.v a.s.now)
