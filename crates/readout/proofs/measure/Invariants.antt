-- `measure` meets its contract. The invariant: what is still to be counted from here on, and where the first record of a retired row was so far.
use Prim.Native.Nat.{◌-◌, ◌+◌, ◌*◌, ◌≤◌}
use lib.ListN.{length}
use Rattle.header.specs.Header.{meant}
use Rattle.readout.specs.Bounds.{record_most}
use Rattle.readout.specs.Places.{noted}
use Rattle.readout.proofs.Scans.{Counting}
use Rattle.readout.proofs.measure.Given as goal

abbrev pub invariant-loop-p : goal.invariant-loop-p
invariant-loop-p l = (l.q ≤ 28 + record_most * l.p) × Counting (meant l.t) l.revision l.c l.p l.q (noted l.old)

abbrev pub decreases-loop-p : goal.decreases-loop-p
decreases-loop-p l = length l.c - l.p
