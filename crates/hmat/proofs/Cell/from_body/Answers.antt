-- `Cell::from_body` meets its contract: each field stands at its offset, in either width.
use Rattle.hmat.proofs.Bodies.{cell-fields}
use Rattle.hmat.proofs.Cell.from_body.Goals as goal

pub returns : goal.returns
returns c =
    rw (cell-fields, c.get.ensures, c.get-2.ensures, c.target_at.ensures, c.get-3.ensures, c.value_at.ensures)
