-- The calls that `put_targets` lays.
use Rattle.format.specs.Layout.{as_is, fld}
use Rattle.format.specs.Kind.{WindowTarget}
use Rattle.readout.proofs.Lists.{calls_each, target_short}
use Rattle.readout.proofs.put_targets.Given as goal

abbrev pub ghost-put_each : goal.ghost-put_each
ghost-put_each a = calls_each as_is (fld 4) a.put.0.now WindowTarget 36 as_is target_short
