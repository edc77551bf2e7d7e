-- `State::made` meets its contract: a bad field is refused, else the state grows by a node.
use Rattle.recipe.proofs.state.State.made.Goals as goal

pub returns : goal.returns
returns c p = rw c.in_default.is (c.grown.ensures p)
