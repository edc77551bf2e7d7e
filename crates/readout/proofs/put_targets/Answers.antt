-- `put_targets` meets its contract: its numbers are those of the layout.
use mathlib.Core.Path.{refl}
use Rattle.format.specs.Layout.{as_is, fld, width}
use Rattle.format.specs.Kind.{WindowTarget, body}
use Rattle.readout.proofs.Lists.{each-laid}
use Rattle.readout.proofs.put_targets.Goals as goal

pub returns : goal.returns
unfolding width body
returns c = each-laid as_is (fld 4) c.args.body.now WindowTarget as_is (λ v. refl) c.args.n 36 c.put_each.ensures
