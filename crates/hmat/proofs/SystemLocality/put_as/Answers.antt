-- `SystemLocality::put_as` meets its contract: the numbers that it writes are those of the call, in either width.
use Rattle.format.specs.Layout.{width}
use Rattle.format.specs.Kind.{Matrix, body}
use Rattle.laws.proofs.Fields.{length-call}
use Rattle.hmat.proofs.Bodies.{matrix-join}
use Rattle.hmat.proofs.SystemLocality.put_as.Goals as goal

pub returns-in-Byte : goal.returns-in-Byte
unfolding width body
returns-in-Byte c =
    record { out_after = rw (matrix-join _ _ _ c.kind.ensures, c.in-Byte.is) c.put_all.ensures; value = rw (length-call (Matrix _), c.in-Byte.is) }

pub returns-in-Pair : goal.returns-in-Pair
unfolding width body
returns-in-Pair c =
    record { out_after = rw (matrix-join _ _ _ c.kind.ensures, c.in-Pair.is) c.put_all-in-Pair.ensures; value = rw (length-call (Matrix _), c.in-Pair.is) }
