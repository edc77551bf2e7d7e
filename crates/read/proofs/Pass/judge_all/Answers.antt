-- The answers that the search does not find: the loop over the records by the laws of the walk.
use native.Mathlib.Omega.{arith}
use Rattle.std.proofs.lemmas.Result.{err_from_is_err_and}
use Rattle.header.specs.Header.{meant}
use Rattle.read.proofs.Walks.{scan-first, scan-noted, scan-end, scan-bad, scan-moves, scan-next}
use Rattle.read.proofs.Pass.judge_all.Goals as goal

pub loop-p-init : goal.loop-p-init
loop-p-init g c =
    let s = c.args.self.now in
    (omega arith, rw c.front-p.ensures (scan-first (meant s.t) s.c.now s.revision s.mask), c.requires.passed)

pub overflow_cast-here : goal.overflow_cast-here
overflow_cast-here g c = omega (arith, c.args.self.now.short)

pub overflow_cast-here-in-loop-p : goal.overflow_cast-here-in-loop-p
overflow_cast-here-in-loop-p g c = omega (arith, c.args.self.now.short)

pub judge-requires : goal.judge-requires
judge-requires g c =
    let s = c.args.self.now in
    (omega (arith, c.requires.few), (c.requires.few, scan-noted (meant s.t) s.c.now s.revision s.mask c.loop-p.p c.loop-p.count c.loop-p.invariant.1 c.loop-p.marks.shift c.loop-p.p c.loop-p.marks.slots _ (omega (arith, s.short, c.loop-p-test.true)) c.note.ensures.slots c.loop-p.invariant.2))

pub loop-p-smaller : goal.loop-p-smaller
loop-p-smaller g c =
    let s = c.args.self.now in
    let e = rw c.in_ok-p.was at c.judge.ensures in
    let m = scan-moves (meant s.t) s.c.now s.revision s.mask c.loop-p.p c.loop-p.count c.loop-p.invariant.1 c.loop-p-test.true _ e in
    omega arith

pub loop-p-preserved : goal.loop-p-preserved
loop-p-preserved g c =
    let s = c.args.self.now in
    let e = rw c.in_ok-p.was at c.judge.ensures in
    let m = scan-moves (meant s.t) s.c.now s.revision s.mask c.loop-p.p c.loop-p.count c.loop-p.invariant.1 c.loop-p-test.true _ e in
    (omega arith, scan-next (meant s.t) s.c.now s.revision s.mask c.loop-p.p c.loop-p.count c.loop-p.invariant.1 c.loop-p-test.true _ e, scan-noted (meant s.t) s.c.now s.revision s.mask c.loop-p.p c.loop-p.count c.loop-p.invariant.1 c.loop-p.marks.shift c.loop-p.p c.loop-p.marks.slots _ (omega (arith, s.short, c.loop-p-test.true)) c.note.ensures.slots c.loop-p.invariant.2)

pub returns-in_err-p : goal.returns-in_err-p
returns-in_err-p g c =
    let q = err_from_is_err_and c.from_residual.result c.from_residual.ensures.1 in
    let s = c.args.self.now in
    let e = rw c.in_err-p.was at c.judge.ensures in
    rw (q.1, q.2) (scan-bad (meant s.t) s.c.now s.revision s.mask c.loop-p.p c.loop-p.count c.loop-p.invariant.1 c.loop-p-test.true _ _ e)

pub returns : goal.returns
returns g c =
    let s = c.args.self.now in
    scan-end (meant s.t) s.c.now s.revision s.mask c.loop-p.p c.loop-p.count c.loop-p.invariant.1 c.loop-p-test.false
