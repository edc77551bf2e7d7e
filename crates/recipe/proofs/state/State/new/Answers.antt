-- `State::new` meets its contract: no nodes, and a table of its front alone.
use native.Mathlib.Nat.{add-zero}
use Rattle.format.specs.Node.{sizes}
use Rattle.header.proofs.Unique.{table-back}
use Rattle.recipe.proofs.state.State.new.Goals as goal

pub returns : goal.returns
unfolding sizes
returns c w = rw (table-back, add-zero, c.front.ensures)
