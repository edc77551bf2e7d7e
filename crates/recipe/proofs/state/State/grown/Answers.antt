-- `State::grown` meets its contract: the length is tested before the state is made.
use borrow.Author.Tests.{le-ltb, lt-ltb}
use Rattle.recipe.proofs.state.State.grown.Goals as goal

pub returns-then-length-gt-LIMIT : goal.returns-then-length-gt-LIMIT
returns-then-length-gt-LIMIT c p = simp (lt-ltb _ _ c.if-length-gt-LIMIT.true)

pub returns : goal.returns
returns c p = simp (le-ltb _ _ c.if-length-gt-LIMIT.false)
