-- `put_records` meets its contract. The invariant: the pass has gone on to the same meaning, with marks as good. The measure is what is left of the recipe.
use mathlib.Core.Path.{◌≡◌}
use Prim.Native.Nat.{ℕ, ◌-◌}
use mathlib.Core.List.{List}
use lib.ListN.{length}
use Rattle.format.specs.Recipe.{Meaning}
use Rattle.header.specs.Header.{meant}
use Rattle.build.specs.Held.{Held}
use Rattle.build.proofs.put_records.Given as goal

abbrev pub invariant-loop-s : goal.invariant-loop-s
invariant-loop-s g l =
    (length l.out ≡ length l.initial.out)
    × ((xs : List ℕ) (m : Meaning) → Held xs l.recipe (meant l.table) m l.initial.s l.initial.out l.initial.marks.slots → Held xs l.recipe (meant l.table) m l.s l.out l.marks.slots)

abbrev pub decreases-loop-s : goal.decreases-loop-s
decreases-loop-s g l = length l.recipe - l.s.at
