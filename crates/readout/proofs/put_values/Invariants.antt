-- The calls that `put_values` lays.
use Rattle.hmat.specs.Widths.{meant_width}
use Rattle.readout.proofs.Lists.{value_list}
use Rattle.readout.proofs.put_values.Given as goal

abbrev pub ghost-put_each : goal.ghost-put_each
ghost-put_each a = value_list (meant_width a.put.0) a.put.1 a.put.2.now a.put.3
