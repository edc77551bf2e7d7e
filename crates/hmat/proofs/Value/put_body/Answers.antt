-- `Value::put_body` meets its contract: the numbers that it writes are those of the call, in either width.
use borrow.Author.Rules.{rules}
use Rattle.format.specs.Layout.{width}
use Rattle.format.specs.Kind.{Initiator, body}
use Rattle.laws.proofs.Fields.{length-call}
use Rattle.hmat.proofs.Bodies.{value-join}
use Rattle.hmat.proofs.Value.put_body.Goals as goal

pub returns-in-Byte : goal.returns-in-Byte
unfolding width body
returns-in-Byte c =
    let a = c.args in
    record { out_after = rw (value-join _ a.kind a.self (search rules), c.in-Byte.is) c.put_all.ensures; value = rw (length-call (Initiator _), c.in-Byte.is) }

pub returns-in-Pair : goal.returns-in-Pair
unfolding width body
returns-in-Pair c =
    let a = c.args in
    record { out_after = rw (value-join _ a.kind a.self (search rules), c.in-Pair.is) c.put_all-in-Pair.ensures; value = rw (length-call (Initiator _), c.in-Pair.is) }
