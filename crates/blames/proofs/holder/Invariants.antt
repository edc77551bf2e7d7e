-- `holder` meets its contract. The invariant: what holds the place among the records from here on holds it among all.
use mathlib.Core.Path.{◌≡◌}
use Prim.Native.Nat.{◌-◌}
use lib.ListN.{length, drop}
use Rattle.format.specs.Recipe.{cut}
use Rattle.header.specs.Header.{meant}
use Rattle.blames.specs.Words.{holder}
use Rattle.blames.proofs.holder.Given as goal

abbrev pub invariant-loop-at : goal.invariant-loop-at
invariant-loop-at l = holder l.place (cut (meant l.table) 0 l.at (drop l.at l.recipe)) ≡ holder l.place (cut (meant l.table) 0 28 (drop 28 l.recipe))

abbrev pub decreases-loop-at : goal.decreases-loop-at
decreases-loop-at l = length l.recipe - l.at
