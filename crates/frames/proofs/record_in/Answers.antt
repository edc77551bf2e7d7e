-- `record_in` meets its contract: as many bytes as the frame's length says.
use mathlib.Core.Path.{◌∙◌}
use Rattle.frames.proofs.record_in.Goals as goal

pub returns : goal.returns
returns c = c.first.ensures ∙ rw c.size_in.ensures
