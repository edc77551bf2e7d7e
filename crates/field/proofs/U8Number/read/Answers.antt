-- `read` at u8 meets its contract.
use Rattle.std.proofs.Common.{◌∙◌}
use Rattle.field.proofs.Orders.{padded-value}
use Rattle.field.proofs.U8Number.read.Goals as goal

pub returns : goal.returns
returns c = rw c.padded.ensures at c.from_le_bytes.ensures ∙ padded-value c.args.s.now 0 0
