-- `past_cells` meets its contract. The invariant: what a state with this matrix stands for at the first place, it stands for at the one that is reached.
use mathlib.Core.Path.{◌≡◌}
use Prim.Native.Nat.{ℕ, ◌-◌, ◌≤◌}
use mathlib.Core.List.{List}
use lib.ListN.{length}
use Rattle.format.specs.Table.{Head}
use Rattle.header.specs.declared.Table.TheVariants.{Hmat}
use Rattle.recipe.specs.declared.Newest.TheVariants.{Matrix}
use Rattle.recipe.specs.declared.state.State.{State}
use Rattle.recipe.specs.Machine.{counts, Stands}
use Rattle.recipe.proofs.past_cells.Given as goal

abbrev pub invariant-loop-width : goal.invariant-loop-width
invariant-loop-width l =
    (l.from ≤ l.at) × ((h : Head) (made : ℕ) (s : State) (ws : List ℕ) → s.table ≡ Hmat → s.newest ≡ Matrix l.width l.i l.t → Stands l.recipe h made l.from (counts s) ws → Stands l.recipe h made l.at (counts s) ws)

abbrev pub decreases-loop-width : goal.decreases-loop-width
decreases-loop-width l = length l.recipe - l.at
