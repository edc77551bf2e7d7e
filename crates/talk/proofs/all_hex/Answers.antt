-- `talk::all_hex` meets its contract: what `all` answers is the definition.
use Rattle.std.proofs.Common.{rules, is_some, sym, ◌∙◌}
use Rattle.std.proofs.lemmas.Iterator.{YieldsList-from_slice}
use Rattle.std.proofs.lemmas.Iterator.Search.{all_from_yields_List}
use borrow.Author.Tests.{tests}
use Rattle.talk.specs.Hex.{value_of}
use Rattle.talk.proofs.Tests.{all_hex-all}
use Rattle.talk.proofs.all_hex.Goals as goal

pub returns : goal.returns
returns c =
    let s = c.args.text.now in
    all_from_yields_List (λ b. is_some (value_of b)) _ _ _ c.all.ensures.ran (YieldsList-from_slice s cc) (λ x b q k. search (rules, tests)) ∙ sym (all_hex-all s)
