-- The answers that the search does not find.
use Prim.Native.Nat.{◌+◌, ◌-◌}
use mathlib.Core.Path.{◌≡◌, ◌∙◌, sym}
use native.Mathlib.Omega.{arith}
use Rattle.format.specs.Out.{every}
use Rattle.read.proofs.Listing.{first-low, body-room, shown-next}
use Rattle.text.proofs.Texts.{turn, end}
use Rattle.lists.proofs.Turns.{lines-turn, lines_end}
use Rattle.lists.proofs.record_lines.Goals as goal

pub loop-init : goal.loop-init
loop-init c =
    let a = c.args in
    let p = c.first_place-place.ensures in
    let e : a.count - 0 ≡ a.count = omega arith in
    (omega (arith, p, first-low a.table.now), rw (e, p))

pub overflow_add-place : goal.overflow_add-place
overflow_add-place c =
    let b = c.args.table.now in
    omega (arith, c.well_formed.0, shown-next b every c.loop.place c.record_at-s.result (c.record_at-s.ensures 0), body-room b c.loop.place)

pub loop-preserved : goal.loop-preserved
loop-preserved c =
    let b = c.args.table.now in
    let l = c.loop in
    let s = c.record_at-s.ensures 0 in
    let e : c.args.count - (l.counter + 1) ≡ c.args.count - l.counter - 1 = omega arith in (
      omega (arith, shown-next b every l.place c.record_at-s.result s, body-room b l.place),
      rw e (turn _ _ _ c.record_line.ensures (lines-turn b (c.args.count - l.counter) l.place c.record_at-s.result (omega arith) s) ∙ l.invariant.1),
    )

pub returns : goal.returns
returns c =
    let l = c.loop in
    sym (end l.text (lines_end c.args.table.now (c.args.count - l.counter) l.place (omega arith))) ∙ l.invariant.1
