-- `names` meets its contract: the type of the node with that ordinal.
use Rattle.recipe.proofs.names.Goals as goal

pub returns : goal.returns
returns c = rw c.type_at.ensures
