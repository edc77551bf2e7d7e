-- `scan_with` meets its contract: where no mark is kept, each is right.
use native.Mathlib.Omega.{arith}
use Rattle.header.specs.Header.{meant}
use Rattle.marks.proofs.Laws.{none_kept}
use Rattle.frames.specs.Frames.{Passed}
use Rattle.read.proofs.Pass.scan_with.Goals as goal

pub judge_all-requires : goal.judge_all-requires
judge_all-requires g c =
    let s = c.args.self.now in
    (omega (arith, c.requires.few), (c.requires.few, rw c.none-marks.ensures.slots (none_kept (Passed (meant s.t) s.c.now) _)))
