-- `Cell::is_inside` meets its contract: no index is bad where both are below their counts.
use mathlib.Core.Path.{◌∙◌}
use Rattle.field.proofs.Places.{is_none-place}
use Rattle.hmat.proofs.Bodies.{cell-inside}
use Rattle.hmat.proofs.Cell.is_inside.Goals as goal

pub returns : goal.returns
returns c = is_none-place _ c.bad_field.ensures c.is_none.ensures ∙ cell-inside _ _ _ _ _ c.from_body.ensures
