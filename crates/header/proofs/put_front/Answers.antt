-- `put_front` meets its contract: each table's items, laid one behind the other.
use Rattle.std.proofs.Common.{[], inl, inr, sym, append-nil, arith}
use Rattle.format.specs.Layout.{lay_with}
use Rattle.laws.proofs.Bytes.{length-le, over-next, over_none}
use Rattle.header.proofs.put_front.Goals as goal

pub returns-in-Pptt : goal.returns-in-Pptt
unfolding lay_with
returns-in-Pptt c n =
    let h = sym (over_none c.args.out.now 36 [] (omega arith)) in
    elim c.in-Pptt.is [ inl e ↦ rw e h | inr e ↦ rw e h ]

pub returns-in-Srat : goal.returns-in-Srat
unfolding lay_with
returns-in-Srat c n =
    let two = over-next _ _ _ _ _ _ _ c.put.ensures c.put-in-Srat.ensures (rw length-le (omega arith)) in
    rw (c.in-Srat.is, append-nil) two

pub returns-in-Hmat : goal.returns-in-Hmat
unfolding lay_with
returns-in-Hmat c n = rw (c.in-Hmat.is, append-nil) c.put-in-Hmat.ensures
