-- `place_of` meets its contract. The invariant: as many records are left to pass from here as there were from the first place on.
use mathlib.Core.Path.{◌≡◌}
use Prim.Native.Nat.{◌-◌, ◌≤◌, max}
use lib.ListN.{length}
use Rattle.read.specs.Places.{first_place, behind}
use Rattle.read.proofs.place_of.Given as goal

abbrev pub invariant-loop : goal.invariant-loop
invariant-loop l = (l.p ≤ max 48 (length l.table)) × (behind l.table l.n (first_place l.table) ≡ behind l.table (l.n - l.counter) l.p)
