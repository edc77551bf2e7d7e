-- `judge_all` meets its contract. The invariant: past so many records, what the whole walk gives is still to come from here on, and each mark is right.
use Prim.Native.Nat.{◌-◌, ◌≤◌}
use lib.ListN.{length}
use Rattle.header.specs.Header.{meant}
use Rattle.marks.specs.Marks.{Every}
use Rattle.frames.specs.Frames.{Passed}
use Rattle.read.proofs.Walks.{Scanning}
use Rattle.read.proofs.Pass.judge_all.Given as goal

abbrev pub invariant-loop-p : goal.invariant-loop-p
invariant-loop-p g l =
    let s = l.self in
    (l.count ≤ l.p) × Scanning (meant s.t) s.c.now s.revision s.mask l.p l.count × Every (Passed (meant s.t) s.c.now) l.marks.slots

abbrev pub decreases-loop-p : goal.decreases-loop-p
decreases-loop-p g l = length l.self.c.now - l.p
