-- The answers that the search does not find: a turn tries the shift, which is the answer or not.
use mathlib.Core.Path.{◌≡◌, sym, ◌∙◌}
use Prim.Native.Nat.{ℕ, suc, ◌+◌, ◌-◌, ◌/◌, ◌^◌, ◌<◌}
use native.Mathlib.Numerals.{add-one}
use native.Mathlib.Omega.{arith}
use lib.Dec.{ltb}
use borrow.Author.Tests.{le-ltb, lt-ltb}
use Rattle.format.specs.Bytes.{pick}
use Rattle.marks.specs.Marks.{spread_of}
use Rattle.marks.proofs.spread.Goals as goal

turn : (k n count : ℕ) → k < 63 → spread_of (63 - k) k n count ≡ pick (ltb (n / 2 ^ k) count) k (spread_of (63 - (k + 1)) (k + 1) n count)
unfolding spread_of
turn k n count l =
    let e : 63 - k ≡ suc (63 - (k + 1)) = omega arith in
    rw (e, add-one)

pub returns-then-last-shift : goal.returns-then-last-shift
returns-then-last-shift c = sym (c.loop-shift.invariant ∙ rw (turn _ _ _ c.loop-shift-test.true, lt-ltb _ _ c.if-last-shift.true))

pub loop-shift-preserved : goal.loop-shift-preserved
loop-shift-preserved c = c.loop-shift.invariant ∙ rw (turn _ _ _ c.loop-shift-test.true, le-ltb _ _ c.if-last-shift.false)

pub returns : goal.returns
unfolding spread_of
returns c =
    let e : c.loop-shift.shift ≡ 63 = omega arith in
    sym (c.loop-shift.invariant ∙ rw e)
