-- What the widths of the code are in the words of the format.
use Rattle.format.specs.Form as format
use Rattle.hmat.specs.declared.Width.{Width}
use Rattle.hmat.specs.declared.Width.TheVariants.{Byte, Pair}

abbrev pub meant_width : Width → format.Width
meant_width Byte = format.byte
meant_width Pair = format.pair

-- and back
abbrev pub width_named : format.Width → Width
width_named format.byte = Byte
width_named format.pair = Pair
