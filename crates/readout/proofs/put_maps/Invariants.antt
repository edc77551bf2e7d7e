-- The calls that `put_maps` lays.
use Rattle.format.specs.Layout.{as_is, fld}
use Rattle.format.specs.Kind.{Map}
use Rattle.readout.proofs.Lists.{calls_each, map_short}
use Rattle.readout.proofs.put_maps.Given as goal

abbrev pub ghost-put_each : goal.ghost-put_each
ghost-put_each a = calls_each as_is (fld 8) a.put.0.now Map 8 as_is map_short
