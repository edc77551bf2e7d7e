-- `Cell::put_body` meets its contract: the numbers that it writes are those of the call, in either width.
use Rattle.format.specs.Layout.{width}
use Rattle.format.specs.Kind.{Cell, body}
use Rattle.laws.proofs.Fields.{length-call}
use Rattle.hmat.proofs.Bodies.{cell_join}
use Rattle.hmat.proofs.Cell.put_body.Goals as goal

pub returns-in-Byte : goal.returns-in-Byte
unfolding width body
returns-in-Byte c =
    record { out_after = rw (cell_join _ _ _ c.kind.ensures, c.in-Byte.is) c.put_all.ensures; value = rw (length-call (Cell _), c.in-Byte.is) }

pub returns-in-Pair : goal.returns-in-Pair
unfolding width body
returns-in-Pair c =
    record { out_after = rw (cell_join _ _ _ c.kind.ensures, c.in-Pair.is) c.put_all-in-Pair.ensures; value = rw (length-call (Cell _), c.in-Pair.is) }
