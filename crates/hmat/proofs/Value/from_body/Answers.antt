-- `Value::from_body` meets its contract: each field stands at its offset, in either width.
use Rattle.hmat.proofs.Bodies.{value-fields}
use Rattle.hmat.proofs.Value.from_body.Goals as goal

pub returns : goal.returns
returns c =
    rw (value-fields, c.get.ensures, c.get-2.ensures, c.value_at.ensures)
