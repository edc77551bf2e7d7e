-- `put_row` meets its contract: its numbers are those of the layout.
use native.Mathlib.Omega.{arith}
use Rattle.hmat.specs.Widths.{meant_width}
use Rattle.readout.proofs.Lists.{cells-laid}
use Rattle.readout.proofs.put_row.Goals as goal

pub returns : goal.returns
returns c = let a = c.args in cells-laid (meant_width a.width) a.i a.body.now a.start a.t (omega arith) c.put_each.ensures
