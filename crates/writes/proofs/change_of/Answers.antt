-- `change_of` meets its contract: a target is set by what `filling_window` says of any fields.
use mathlib.Core.List.{[]}
use Rattle.writes.specs.Writes.{change_of}
use Rattle.writes.proofs.change_of.Goals as goal

pub returns-in-WindowTarget : goal.returns-in-WindowTarget
unfolding change_of
returns-in-WindowTarget c = rw c.in-WindowTarget.is (c.filling_window.ensures [])
