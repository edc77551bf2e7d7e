-- `write` at u16 meets its contract.
use Rattle.field.proofs.Orders.{bytes-le}
use Rattle.field.proofs.U16Number.write.Goals as goal

pub returns : goal.returns
returns c = rw (c.copy.ensures, c.to_le_bytes.ensures, bytes-le 2 c.args.self)
