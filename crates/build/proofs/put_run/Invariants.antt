-- `put_run` meets its contract. The invariant: the cells so far have gone on to the same meaning. The measure is what is left of the recipe.
use mathlib.Core.Path.{◌≡◌}
use Prim.Native.Nat.{◌-◌, ◌≤◌}
use lib.ListN.{length}
use Rattle.format.specs.Table.{hmat}
use Rattle.build.specs.Held.{Goes}
use Rattle.build.proofs.put_run.Given as goal

abbrev pub invariant-loop-at : goal.invariant-loop-at
invariant-loop-at l =
    (length l.out ≡ length l.initial.out)
    × (l.initial.at ≤ l.at)
    × Goes l.recipe hmat (record { at = l.initial.at; end = l.s.end; latest = l.s.latest; sum = l.initial.sum }) l.initial.out (record { at = l.at; end = l.s.end; latest = l.s.latest; sum = l.sum }) l.out

abbrev pub decreases-loop-at : goal.decreases-loop-at
decreases-loop-at l = length l.recipe - l.at
