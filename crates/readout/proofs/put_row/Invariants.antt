-- The calls that `put_row` lays.
use Rattle.hmat.specs.Widths.{meant_width}
use Rattle.readout.proofs.Lists.{cell_list}
use Rattle.readout.proofs.put_row.Given as goal

abbrev pub ghost-put_each : goal.ghost-put_each
ghost-put_each a = cell_list (meant_width a.put.0) a.put.1 a.put.2.now a.put.3
