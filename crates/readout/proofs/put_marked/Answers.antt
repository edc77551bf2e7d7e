-- `put_marked` meets its contract: before the first record no mark is kept.
use native.Mathlib.Omega.{arith}
use Rattle.header.specs.Header.{meant}
use Rattle.marks.proofs.Laws.{none_kept}
use Rattle.frames.specs.Frames.{Passed}
use Rattle.readout.proofs.put_marked.Goals as goal

pub put_records-requires : goal.put_records-requires
put_records-requires g c =
    let s = c.args in
    (omega (arith, c.requires.few), (c.requires.few, (rw c.none-marks.ensures.slots (none_kept (Passed (meant s.t) s.c.now) _), c.requires.short)))
