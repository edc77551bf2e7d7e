-- `spread` meets its contract: the shifts that the loop has still to try are those that the definition has.
use Rattle.std.proofs.Common.{◌≡◌, ◌-◌}
use Rattle.marks.specs.Marks.{spread_of}
use Rattle.marks.proofs.spread.Given as goal

abbrev pub invariant-loop-shift : goal.invariant-loop-shift
invariant-loop-shift l = spread_of 63 0 (l.n - 1) l.count ≡ spread_of (63 - l.shift) l.shift l.last l.count
