-- `CacheNode::bad_field` meets its contract: each test is that of the format.
use native.Mathlib.Nat.{div-one}
use borrow.Author.Tests.{le-ltb, lt-ltb}
use Rattle.format.specs.Form.{ranges}
use Rattle.format.specs.Kind.{body}
use Rattle.format.specs.Field.{first_bad, bad_field}
use Rattle.laws.proofs.Fields.{failed, passed}
use Rattle.pptt.proofs.CacheNode.bad_field.Goals as goal

pub returns-then-flags-ge256 : goal.returns-then-flags-ge256
unfolding bad_field first_bad body ranges
returns-then-flags-ge256 c =
    rw (le-ltb _ 256 c.if-flags-ge256.true)

pub returns-then-not-is_kept : goal.returns-then-not-is_kept
unfolding bad_field first_bad body ranges
returns-then-not-is_kept c =
    rw (lt-ltb _ 256 c.if-flags-ge256.false, failed (rw div-one at c.is_kept.ensures) c.if-not-is_kept.true)

pub returns-then-not-is_kept-2 : goal.returns-then-not-is_kept-2
unfolding bad_field first_bad body ranges
returns-then-not-is_kept-2 c =
    rw (lt-ltb _ 256 c.if-flags-ge256.false, passed (rw div-one at c.is_kept.ensures) c.if-not-is_kept.false, failed c.is_kept-2.ensures c.if-not-is_kept-2.true)

pub returns-then-not-is_kept-3 : goal.returns-then-not-is_kept-3
unfolding bad_field first_bad body ranges
returns-then-not-is_kept-3 c =
    rw (lt-ltb _ 256 c.if-flags-ge256.false, passed (rw div-one at c.is_kept.ensures) c.if-not-is_kept.false, passed c.is_kept-2.ensures c.if-not-is_kept-2.false, failed c.is_kept-3.ensures c.if-not-is_kept-3.true)

pub returns-then-not-is_good_attributes : goal.returns-then-not-is_good_attributes
unfolding bad_field first_bad body ranges
returns-then-not-is_good_attributes c =
    rw (lt-ltb _ 256 c.if-flags-ge256.false, passed (rw div-one at c.is_kept.ensures) c.if-not-is_kept.false, passed c.is_kept-2.ensures c.if-not-is_kept-2.false, passed c.is_kept-3.ensures c.if-not-is_kept-3.false, failed c.is_good_attributes.ensures c.if-not-is_good_attributes.true)

pub returns-then-not-is_kept-4 : goal.returns-then-not-is_kept-4
unfolding bad_field first_bad body ranges
returns-then-not-is_kept-4 c =
    rw (lt-ltb _ 256 c.if-flags-ge256.false, passed (rw div-one at c.is_kept.ensures) c.if-not-is_kept.false, passed c.is_kept-2.ensures c.if-not-is_kept-2.false, passed c.is_kept-3.ensures c.if-not-is_kept-3.false, passed c.is_good_attributes.ensures c.if-not-is_good_attributes.false, failed c.is_kept-4.ensures c.if-not-is_kept-4.true)

pub returns-then-not-is_kept-5 : goal.returns-then-not-is_kept-5
unfolding bad_field first_bad body ranges
returns-then-not-is_kept-5 c =
    rw (lt-ltb _ 256 c.if-flags-ge256.false, passed (rw div-one at c.is_kept.ensures) c.if-not-is_kept.false, passed c.is_kept-2.ensures c.if-not-is_kept-2.false, passed c.is_kept-3.ensures c.if-not-is_kept-3.false, passed c.is_good_attributes.ensures c.if-not-is_good_attributes.false, passed c.is_kept-4.ensures c.if-not-is_kept-4.false, failed c.is_kept-5.ensures c.if-not-is_kept-5.true)

pub returns : goal.returns
unfolding bad_field first_bad body ranges
returns c =
    rw (lt-ltb _ 256 c.if-flags-ge256.false, passed (rw div-one at c.is_kept.ensures) c.if-not-is_kept.false, passed c.is_kept-2.ensures c.if-not-is_kept-2.false, passed c.is_kept-3.ensures c.if-not-is_kept-3.false, passed c.is_good_attributes.ensures c.if-not-is_good_attributes.false, passed c.is_kept-4.ensures c.if-not-is_kept-4.false, passed c.is_kept-5.ensures c.if-not-is_kept-5.false)
