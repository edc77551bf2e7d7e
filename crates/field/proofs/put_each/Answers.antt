-- The answers that the search does not find.
use Rattle.std.proofs.Common.{◌≡◌, ◌-◌, min, sym, ◌∙◌, arith, length, [], inl, inr}
use Rattle.format.specs.Bytes.{le, over, join}
use Rattle.laws.proofs.Bytes.{length_over, length-le, over-behind, over_none, join-none}
use Rattle.field.proofs.put_each.Goals as goal

pub loop-w-preserved : goal.loop-w-preserved
unfolding join
loop-w-preserved c =
    let l = c.loop-w in
    let q = c.put_low-p in
    let h = c.in-Some.ensures.steps in
    let w = c.in-Some.field-0-0.now in
    let v = c.in-Some.field-0-1.now in
    let e : min q.result (length l.out - l.p) ≡ min (length (le w v)) (length l.out - l.p) = rw length-le (omega (arith, q.ensures.value)) in
    let i = rw (h.0, h.1) at l.invariant.2 in (
      omega arith,
      rw (q.ensures.out_after, length_over) l.invariant.1,
      rw q.ensures.out_after (over-behind l.out l.p (le w v) _ q.result e ∙ i),
    )

pub returns : goal.returns
returns c =
    let l = c.loop-w in
    let a = l.w-iterator.a.rest.now in
    let b = l.w-iterator.b.rest.now in
    let z : min (length b) (length a) ≡ 0 = elim c.in-None.ensures.steps [ inl x ↦ omega (arith, x.1.0) | inr x ↦ omega (arith, x.1.0) ] in
    let n : over l.out l.p (join a b) ≡ l.out = rw (join-none a b z) (over_none l.out l.p [] (omega arith)) in
    sym n ∙ l.invariant.2
