-- `put_values` meets its contract: its numbers are those of the layout.
use native.Mathlib.Omega.{arith}
use Rattle.hmat.specs.Widths.{meant_width}
use Rattle.readout.proofs.Lists.{values-laid}
use Rattle.readout.proofs.put_values.Goals as goal

pub returns : goal.returns
returns c = let a = c.args in values-laid (meant_width a.width) a.kind a.body.now a.start a.n (omega arith) c.put_each.ensures
