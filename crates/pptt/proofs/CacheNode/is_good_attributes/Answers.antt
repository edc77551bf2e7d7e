-- `CacheNode::is_good_attributes` meets its contract, test by test.
use borrow.Author.Tests.{le-ltb, lt-ltb, le-leb, lt-leb}
use Rattle.format.specs.Form.{cache_attributes}
use Rattle.laws.proofs.Tests.{both_false}
use Rattle.laws.proofs.Fields.{failed, passed}
use Rattle.pptt.proofs.CacheNode.is_good_attributes.Goals as goal

pub returns-then-allocation-gt-MAX_ALLOCATION : goal.returns-then-allocation-gt-MAX_ALLOCATION
unfolding cache_attributes
returns-then-allocation-gt-MAX_ALLOCATION c = rw (← c.allocation-allocation.ensures, lt-leb _ _ c.if-allocation-gt-MAX_ALLOCATION.true)

pub returns-then-ty-gt-MAX_TYPE : goal.returns-then-ty-gt-MAX_TYPE
unfolding cache_attributes
returns-then-ty-gt-MAX_TYPE c = rw (← c.cache_type-ty.ensures) (simp (lt-leb _ _ c.if-ty-gt-MAX_TYPE.true, both_false))

pub returns-then-self-ge32 : goal.returns-then-self-ge32
unfolding cache_attributes
returns-then-self-ge32 c = simp (le-ltb _ _ c.if-self-ge32.true, both_false)

pub returns-then-not-is_kept : goal.returns-then-not-is_kept
unfolding cache_attributes
returns-then-not-is_kept c = rw (← c.allocation-allocation.ensures) (simp (failed c.is_kept.ensures c.if-not-is_kept.true, both_false))

pub returns-then-not-is_kept-2 : goal.returns-then-not-is_kept-2
unfolding cache_attributes
returns-then-not-is_kept-2 c = rw (← c.cache_type-ty.ensures) (simp (failed c.is_kept-2.ensures c.if-not-is_kept-2.true, both_false))

pub returns : goal.returns
unfolding cache_attributes
returns c =
    rw (← c.allocation-allocation.ensures, ← c.cache_type-ty.ensures, ← c.write_policy-policy.ensures, le-leb _ _ c.if-allocation-gt-MAX_ALLOCATION.false, le-leb _ _ c.if-ty-gt-MAX_TYPE.false, lt-ltb _ _ c.if-self-ge32.false, passed c.is_kept.ensures c.if-not-is_kept.false, passed c.is_kept-2.ensures c.if-not-is_kept-2.false, c.is_kept-3.ensures)
