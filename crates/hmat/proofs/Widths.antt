-- Two widths are the same just where as many bytes are.
use mathlib.Core.Path.{◌≡◌, refl}
use denote.Enum.Bare.{sameb}
use lib.Dec.{eqb}
use Rattle.format.specs.Form.{octets}
use Rattle.hmat.specs.contracts.Width.{the_type}
use Rattle.hmat.specs.declared.Width.{Width}
use Rattle.hmat.specs.declared.Width.TheVariants.{Byte, Pair}
use Rattle.hmat.specs.Widths.{meant_width}

pub same-width : (v w : Width) → sameb the_type v w ≡ eqb (octets (meant_width v)) (octets (meant_width w))
same-width Byte Byte = refl
same-width Byte Pair = refl
same-width Pair Byte = refl
same-width Pair Pair = refl
