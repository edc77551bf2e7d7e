-- The answers that the search does not find.
use mathlib.Core.Path.{refl, sym, ◌∙◌}
use mathlib.Core.Option.{some}
use native.Mathlib.Omega.{arith}
use Rattle.header.specs.Header.{meant}
use Rattle.rows.specs.Rows.{meant_row, row_meant}
use Rattle.readout.proofs.Scans.{counting-start, counting-end, counting-bad, counting-unknown, counting-next, small-record, no-row, Turn, turns}
use Rattle.readout.proofs.measure.Goals as goal

pub loop-p-init : goal.loop-p-init
loop-p-init c = rw c.front-p.ensures (omega arith, counting-start _ _ _)

pub returns-then-not-framed : goal.returns-then-not-framed
returns-then-not-framed c =
    let f = rw c.rest-s.ensures at (sym c.framed.ensures ∙ c.if-not-framed.true) in
    c.unless_retired.ensures ∙ counting-bad _ _ _ c.loop-p-test.true f c.loop-p.invariant.1

pub returns-in_default : goal.returns-in_default
returns-in_default c =
    let T : Turn (meant c.args.t) c.args.revision c.args.c.now c.loop-p.p c.record_in-body.result.now (row_meant c.row_of.result) = turns _ _ _ _ _ _ _ _ c.rest-s.ensures c.framed.ensures c.if-not-framed.false c.record_in-body.ensures c.row_of.ensures in
    counting-unknown _ _ _ T (no-row _ c.in_default.not-Some) c.loop-p.invariant.1

pub calls_len-q-requires : goal.calls_len-q-requires
calls_len-q-requires c =
    let T : Turn (meant c.args.t) c.args.revision c.args.c.now c.loop-p.p c.record_in-body.result.now (some (meant_row c.in-Some.row)) = turns _ _ _ _ _ _ _ _ c.rest-s.ensures c.framed.ensures c.if-not-framed.false c.record_in-body.ensures c.in-Some.ensures in
    rw c.in-Some.ensures (small-record _ _ _ _ (omega (arith, T.inside, c.requires)))

pub overflow_add-q-in-loop-p : goal.overflow_add-q-in-loop-p
overflow_add-q-in-loop-p c =
    let T : Turn (meant c.args.t) c.args.revision c.args.c.now c.loop-p.p c.record_in-body.result.now (some (meant_row c.in-Some.row)) = turns _ _ _ _ _ _ _ _ c.rest-s.ensures c.framed.ensures c.if-not-framed.false c.record_in-body.ensures c.in-Some.ensures in
    omega (arith, T.inside, c.requires, c.calls_len-q.ensures.1)

pub overflow_add-p : goal.overflow_add-p
overflow_add-p c =
    let T : Turn (meant c.args.t) c.args.revision c.args.c.now c.loop-p.p c.record_in-body.result.now (some (meant_row c.in-Some.row)) = turns _ _ _ _ _ _ _ _ c.rest-s.ensures c.framed.ensures c.if-not-framed.false c.record_in-body.ensures c.in-Some.ensures in
    omega (arith, T.inside, c.requires)

pub loop-p-smaller : goal.loop-p-smaller
loop-p-smaller c =
    let T : Turn (meant c.args.t) c.args.revision c.args.c.now c.loop-p.p c.record_in-body.result.now (some (meant_row c.in-Some.row)) = turns _ _ _ _ _ _ _ _ c.rest-s.ensures c.framed.ensures c.if-not-framed.false c.record_in-body.ensures c.in-Some.ensures in
    omega (arith, T.inside, T.some)

pub loop-p-preserved : goal.loop-p-preserved
loop-p-preserved c =
    let T : Turn (meant c.args.t) c.args.revision c.args.c.now c.loop-p.p c.record_in-body.result.now (some (meant_row c.in-Some.row)) = turns _ _ _ _ _ _ _ _ c.rest-s.ensures c.framed.ensures c.if-not-framed.false c.record_in-body.ensures c.in-Some.ensures in
    (omega (arith, c.calls_len-q.ensures.1, T.some), counting-next _ _ _ T _ _ refl (c.calls_len-q.ensures.0 _) c.first_retired-old.ensures c.loop-p.invariant.1)

pub returns : goal.returns
returns c = c.unless_retired-2.ensures ∙ counting-end _ _ _ c.loop-p-test.false c.loop-p.invariant.1
