-- The answers that the search does not find.
use Rattle.std.proofs.Common.{◌+◌, sym, ◌∙◌, add-zero, arith, length-set, rules}
use native.Mathlib.Nat.{sub-zero}
use Rattle.laws.proofs.Bytes.{length-le, le-turn, over-turn, over-past, over_none}
use Rattle.field.proofs.put_low.Goals as goal

pub loop-i-init : goal.loop-i-init
loop-i-init c = (search rules, search rules, rw (add-zero, sub-zero))

pub loop-i-preserved : goal.loop-i-preserved
loop-i-preserved c =
    let l = c.loop-i in
    let s = c.args in
    (omega arith, simp length-set (omega arith), over-turn l.out s.at l.i _ _ _ (le-turn s.w l.i l.rest (omega arith)) ∙ l.invariant.2)

pub returns : goal.returns
returns c =
    let l = c.loop-i in
    let s = c.args in record { out_after = sym (over_none l.out (s.at + l.i) _ (rw length-le (omega arith))) ∙ l.invariant.2; value = search rules }

pub returns-then-out-at-clause-out_after : goal.returns-then-out-at-clause-out_after
returns-then-out-at-clause-out_after c = sym (over-past c.args.out.now c.args.at _ c.if-out-at.true)
