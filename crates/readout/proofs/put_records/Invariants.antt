-- `put_records` meets its contract. The invariant: what is still to come from here on, and marks that the walk has come to, as it has here.
use Prim.Native.Nat.{◌-◌, ◌+◌, ◌*◌, ◌≤◌}
use lib.ListN.{length}
use Rattle.header.specs.Header.{meant}
use Rattle.marks.specs.Marks.{Every}
use Rattle.frames.specs.Frames.{Passed}
use Rattle.readout.specs.Bounds.{record_most}
use Rattle.readout.proofs.Scans.{Writing}
use Rattle.readout.proofs.put_records.Given as goal

abbrev pub invariant-loop-p : goal.invariant-loop-p
invariant-loop-p g l =
    record {
      bounded : l.q ≤ 28 + record_most * l.p;
      counted : l.count ≤ l.p;
      writing : Writing (meant l.t) l.revision l.c l.initial.out l.out l.p l.q;
      here : Passed (meant l.t) l.c (record { nodes = l.count; place = l.p });
      passed : Every (Passed (meant l.t) l.c) l.marks.slots;
    }

abbrev pub decreases-loop-p : goal.decreases-loop-p
decreases-loop-p g l = length l.c - l.p
