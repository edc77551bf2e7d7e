-- `own` meets its contract: the length is read from its place.
use mathlib.Core.Path.{◌∙◌}
use Rattle.frames.proofs.own.Goals as goal

pub returns : goal.returns
returns c = c.first.ensures ∙ rw c.length_in.ensures
