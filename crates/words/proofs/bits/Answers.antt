-- `words::bits` meets its contract: each turn takes the first of what is still to come, and at the end nothing is.
use Rattle.std.proofs.Common.{rules}
use Rattle.std.proofs.lemmas.List.{drop_more, drop_all}
use Rattle.words.specs.Names.{named}
use Rattle.words.proofs.bits.Goals as goal

pub loop-unit-preserved : goal.loop-unit-preserved
unfolding named
loop-unit-preserved g c = search (rules, drop_more)

pub returns : goal.returns
unfolding named
returns g c = search (rules, drop_all)
