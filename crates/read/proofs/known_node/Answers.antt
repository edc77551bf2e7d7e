-- `known_node` meets its contract: the node of a row, and none where there is none.
use mathlib.Core.Path.{refl, ap}
use mathlib.Core.Option.{some}
use Rattle.format.specs.Row.{Row}
use Rattle.format.specs.Read.{fields_of}
use Rattle.read.proofs.known_node.Goals as goal

pub node_in-requires : goal.node_in-requires
node_in-requires c = rw c.in_ok-row.was at c.requires

pub returns-in_err-row : goal.returns-in_err-row
unfolding fields_of
returns-in_err-row c = rw (c.from_residual.ensures, c.in_err-row.was) (refl, refl)

pub returns : goal.returns
returns c = rw c.in_ok-row.was (ap (λ (r : Row). some r) c.node_in.ensures.0, c.node_in.ensures.1)
