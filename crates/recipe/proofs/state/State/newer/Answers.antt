-- `State::newer` meets its contract: the numbers of nodes are compared.
use borrow.Author.Tests.{eq-eqb, ne_eqb}
use Rattle.recipe.proofs.state.State.newer.Goals as goal

pub returns-then-self-before : goal.returns-then-self-before
returns-then-self-before c = rw (eq-eqb _ _ c.if-self-before.true)

pub returns : goal.returns
returns c = rw (ne_eqb _ _ c.if-self-before.false)
