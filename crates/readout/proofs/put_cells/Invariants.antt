-- `put_cells` meets its contract. The invariant: the cells of the rows so far are laid.
use Prim.Native.Nat.{◌*◌}
use Rattle.hmat.specs.Widths.{meant_width}
use Rattle.readout.specs.Laid.{Laid, up_to}
use Rattle.readout.proofs.Lists.{row_cells}
use Rattle.readout.proofs.put_cells.Given as goal

abbrev pub invariant-loop-row : goal.invariant-loop-row
invariant-loop-row l = Laid l.initial.out l.out l.at (up_to (row_cells (meant_width l.width) l.t l.body l.start) (l.row * l.t)) l.p
