-- `shows::nodes::ordinal` is safe and ends: fewer bytes stand before the place with each turn.
use Prim.Native.Nat.{◌-◌, ◌+◌, ◌≤◌}
use Rattle.shows.proofs.nodes.ordinal.Given as goal

abbrev pub invariant-loop-at : goal.invariant-loop-at
invariant-loop-at l = l.n ≤ l.at + 1

abbrev pub decreases-loop-at : goal.decreases-loop-at
decreases-loop-at l = l.end - l.at
