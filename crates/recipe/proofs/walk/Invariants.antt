-- `walk` meets its contract. The invariant: the state stands for the nodes of the records before its place, and the words hold their types.
use mathlib.Core.Path.{◌≡◌}
use Prim.Native.Nat.{◌-◌}
use lib.ListN.{length}
use Rattle.format.specs.Bytes.{part}
use Rattle.format.specs.Table.{head_of}
use Rattle.header.specs.Header.{meant}
use Rattle.recipe.specs.Machine.{counts, Stands}
use Rattle.recipe.proofs.walk.Given as goal

abbrev pub invariant-loop-at : goal.invariant-loop-at
invariant-loop-at l = Stands l.recipe (head_of (meant l.table) (part l.recipe 2 26)) l.made l.at (counts l.st) l.types × (length l.types ≡ length l.initial.types)

abbrev pub decreases-loop-at : goal.decreases-loop-at
decreases-loop-at l = length l.recipe - l.at
