-- `part` meets its contract: of what stands from the place on, as much as there is.
use Rattle.std.proofs.lemmas.List.{take_min}
use Rattle.format.specs.Bytes.{part}
use Rattle.field.proofs.part.Goals as goal

pub returns : goal.returns
unfolding part
returns c = rw (c.min.ensures, take_min, c.rest-s.ensures)
