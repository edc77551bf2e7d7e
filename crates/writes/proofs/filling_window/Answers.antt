-- `filling_window` meets its contract: the place is that of the next target, as far as a usize has it.
use mathlib.Core.Path.{◌∙◌}
use Rattle.writes.specs.Writes.{change_of}
use Rattle.writes.proofs.filling_window.Goals as goal

pub returns : goal.returns
unfolding change_of
returns c vs = c.filling.ensures ∙ rw c.target_place.ensures
