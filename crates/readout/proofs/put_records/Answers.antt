-- The answers that the search does not find.
use mathlib.Core.Path.{refl, sym, ◌∙◌}
use mathlib.Core.Option.{some}
use native.Mathlib.Numerals.{add-one}
use native.Mathlib.Omega.{arith}
use Rattle.header.specs.Header.{meant}
use Rattle.marks.specs.Marks.{noted, Every}
use Rattle.marks.proofs.Laws.{noted-keeps}
use Rattle.frames.specs.Frames.{Passed}
use Rattle.frames.proofs.Marks.{passed-next}
use Rattle.rows.specs.Rows.{meant_row, row_meant}
use Rattle.readout.proofs.Scans.{writing_start, writing-end, writing-bad, writing-unknown, writing-next, small-record, no-row, Turn, turns}
use Rattle.readout.proofs.put_records.Goals as goal

pub loop-p-init : goal.loop-p-init
loop-p-init g c =
    rw c.front-p.ensures record {
      bounded = omega arith;
      counted = omega arith;
      writing = writing_start _ _ _ _;
      here = λ v l. refl;
      passed = c.requires.passed;
    }

pub overflow_cast-mark : goal.overflow_cast-mark
overflow_cast-mark g c = omega (arith, c.requires.short)

pub returns-then-not-framed : goal.returns-then-not-framed
returns-then-not-framed g c =
    let f = rw c.rest-s.ensures at (sym c.framed.ensures ∙ c.if-not-framed.true) in
    writing-bad _ _ _ _ c.loop-p-test.true f c.loop-p.invariant.writing

pub returns-in_default : goal.returns-in_default
returns-in_default g c =
    let T : Turn (meant c.args.t) c.args.revision c.args.c.now c.loop-p.p c.record_in-body.result.now (row_meant c.row_of.result) = turns _ _ _ _ _ _ _ _ c.rest-s.ensures c.framed.ensures c.if-not-framed.false c.record_in-body.ensures c.row_of.ensures in
    writing-unknown _ _ _ _ T (no-row _ c.in_default.not-Some) c.loop-p.invariant.writing

pub invariant_of-walk-clause-passed : goal.invariant_of-walk-clause-passed
invariant_of-walk-clause-passed g c =
    let M : Every (Passed (meant c.args.t) c.args.c.now) (noted (record { nodes = c.loop-p.count; place = c.loop-p.p }) c.loop-p.marks.shift c.loop-p.p c.loop-p.marks.slots) = noted-keeps (Passed _ _) _ _ _ _ (omega (arith, c.loop-p-test.true, c.requires.short)) c.loop-p.invariant.here c.loop-p.invariant.passed in
    rw c.note.ensures.slots M

pub put_record-q-requires : goal.put_record-q-requires
put_record-q-requires g c =
    let T : Turn (meant c.args.t) c.args.revision c.args.c.now c.loop-p.p c.record_in-body.result.now (some (meant_row c.in-Some.row)) = turns _ _ _ _ _ _ _ _ c.rest-s.ensures c.framed.ensures c.if-not-framed.false c.record_in-body.ensures c.in-Some.ensures in
    (omega arith, (rw c.in-Some.ensures (small-record _ _ _ _ (omega (arith, T.inside, c.requires.short))), omega (arith, T.inside, c.requires.short, c.loop-p.invariant.bounded)))

pub overflow_add-p : goal.overflow_add-p
overflow_add-p g c =
    let T : Turn (meant c.args.t) c.args.revision c.args.c.now c.loop-p.p c.record_in-body.result.now (some (meant_row c.in-Some.row)) = turns _ _ _ _ _ _ _ _ c.rest-s.ensures c.framed.ensures c.if-not-framed.false c.record_in-body.ensures c.in-Some.ensures in
    omega (arith, T.inside, c.requires.short)

pub overflow_add-count : goal.overflow_add-count
overflow_add-count g c = omega (arith, c.loop-p-test.true, c.requires.short)

pub loop-p-smaller : goal.loop-p-smaller
loop-p-smaller g c =
    let T : Turn (meant c.args.t) c.args.revision c.args.c.now c.loop-p.p c.record_in-body.result.now (some (meant_row c.in-Some.row)) = turns _ _ _ _ _ _ _ _ c.rest-s.ensures c.framed.ensures c.if-not-framed.false c.record_in-body.ensures c.in-Some.ensures in
    omega (arith, T.inside, T.some)

pub loop-p-preserved : goal.loop-p-preserved
loop-p-preserved g c =
    let i = c.loop-p.invariant in
    let T : Turn (meant c.args.t) c.args.revision c.args.c.now c.loop-p.p c.record_in-body.result.now (some (meant_row c.in-Some.row)) = turns _ _ _ _ _ _ _ _ c.rest-s.ensures c.framed.ensures c.if-not-framed.false c.record_in-body.ensures c.in-Some.ensures in
    let M : Every (Passed (meant c.args.t) c.args.c.now) (noted (record { nodes = c.loop-p.count; place = c.loop-p.p }) c.loop-p.marks.shift c.loop-p.p c.loop-p.marks.slots) = noted-keeps (Passed _ _) _ _ _ _ (omega (arith, c.loop-p-test.true, c.requires.short)) c.loop-p.invariant.here c.loop-p.invariant.passed in
    record {
      bounded = omega (arith, c.put_record-q.ensures.1, T.some, i.bounded);
      counted = omega (arith, T.some, i.counted);
      writing = writing-next _ _ _ _ T refl c.put_record-q.ensures.0 i.writing;
      here = rw (add-one, T.body) (passed-next _ _ c.loop-p.count c.loop-p.p T.frame i.here);
      passed = rw c.note.ensures.slots M;
    }

pub returns : goal.returns
returns g c = writing-end _ _ _ _ c.loop-p-test.false c.loop-p.invariant.writing
