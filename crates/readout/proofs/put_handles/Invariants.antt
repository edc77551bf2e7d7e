-- The calls that `put_handles` lays.
use Rattle.format.specs.Layout.{as_is, fld}
use Rattle.format.specs.Kind.{Handle}
use Rattle.readout.proofs.Lists.{calls_each, handle_short}
use Rattle.readout.proofs.put_handles.Given as goal

abbrev pub ghost-put_each : goal.ghost-put_each
ghost-put_each a = calls_each as_is (fld 2) a.put.0.now Handle 32 as_is handle_short
