-- `number` meets its contract. The invariant: the number on the walk from the start is that on the walk from here on.
use mathlib.Core.Path.{◌≡◌}
use Prim.Native.Nat.{◌+◌, ◌-◌, ◌≤◌, ◌<◌}
use Rattle.header.specs.Header.{meant}
use Rattle.frames.specs.Frames.{ahead, numbered}
use Rattle.frames.proofs.number.Given as goal

abbrev pub invariant-loop-p : goal.invariant-loop-p
invariant-loop-p l = (0 < l.k) × (l.initial.k ≤ 4294967296) × (l.k ≤ l.initial.k + l.p) × (numbered l.initial.k l.v (ahead (meant l.t) l.c l.initial.p) ≡ numbered l.k l.v (ahead (meant l.t) l.c l.p))

abbrev pub decreases-loop-p : goal.decreases-loop-p
decreases-loop-p l = l.v - l.p
