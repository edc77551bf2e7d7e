-- `XorInterleaveMath::fits` meets its contract: one comparison.
use mathlib.Core.Path.{refl}
use Rattle.format.specs.Row.{column}
use Rattle.cedt.proofs.XorInterleaveMath.fits.Goals as goal

pub returns : goal.returns
unfolding column
returns c = refl
