-- `put_maps` meets its contract: its numbers are those of the layout.
use mathlib.Core.Path.{refl}
use Rattle.format.specs.Layout.{as_is, fld, width}
use Rattle.format.specs.Kind.{Map, body}
use Rattle.readout.proofs.Lists.{each-laid}
use Rattle.readout.proofs.put_maps.Goals as goal

pub returns : goal.returns
unfolding width body
returns c = each-laid as_is (fld 8) c.args.body.now Map as_is (λ v. refl) c.args.n 8 c.put_each.ensures
