-- `CxlFixedMemory::bad_field` meets its contract: ways, arithmetic, granularity and restrictions have ranges.
use mathlib.Core.Path.{◌≡◌}
use mathlib.Core.Bool.{true, false}
use Prim.Native.Nat.{ℕ}
use native.Mathlib.Omega.{arith}
use borrow.Author.Tests.{le-leb, lt-leb, lt-ltb, le-ltb}
use lib.Dec.{ltb}
use Rattle.format.specs.Form.{ranges}
use Rattle.format.specs.Kind.{body}
use Rattle.format.specs.Field.{first_bad, bad_field}
use Rattle.cedt.proofs.CxlFixedMemory.bad_field.Goals as goal

no_way : {x y : ℕ} → x ≡ y → x ≡ 0 → ltb 0 y ≡ false
no_way {x} {y} e h = le-ltb 0 y (omega arith)

some-way : {x y : ℕ} → x ≡ y → (x ≡ 0 → ⊥) → ltb 0 y ≡ true
some-way {x} {y} e h = lt-ltb 0 y (omega arith)

pub returns-then-num_interleaved_ways-eq0 : goal.returns-then-num_interleaved_ways-eq0
unfolding bad_field first_bad body ranges
returns-then-num_interleaved_ways-eq0 c = rw (no_way c.num_interleaved_ways.ensures c.if-num_interleaved_ways-eq0.true)

pub returns-then-self-gt-MAX_ARITHMETIC : goal.returns-then-self-gt-MAX_ARITHMETIC
unfolding bad_field first_bad body ranges
returns-then-self-gt-MAX_ARITHMETIC c =
    rw (some-way c.num_interleaved_ways.ensures c.if-num_interleaved_ways-eq0.false, lt-leb _ 1 c.if-self-gt-MAX_ARITHMETIC.true)

pub returns-then-self : goal.returns-then-self
unfolding bad_field first_bad body ranges
returns-then-self c =
    rw (some-way c.num_interleaved_ways.ensures c.if-num_interleaved_ways-eq0.false, le-leb _ 1 c.if-self-gt-MAX_ARITHMETIC.false, lt-leb _ 6 c.if-self.true)

pub returns-then-self-gt-MAX_RESTRICTIONS : goal.returns-then-self-gt-MAX_RESTRICTIONS
unfolding bad_field first_bad body ranges
returns-then-self-gt-MAX_RESTRICTIONS c =
    rw (some-way c.num_interleaved_ways.ensures c.if-num_interleaved_ways-eq0.false, le-leb _ 1 c.if-self-gt-MAX_ARITHMETIC.false, le-leb _ 6 c.if-self.false, lt-leb _ 31 c.if-self-gt-MAX_RESTRICTIONS.true)

pub returns : goal.returns
unfolding bad_field first_bad body ranges
returns c =
    rw (some-way c.num_interleaved_ways.ensures c.if-num_interleaved_ways-eq0.false, le-leb _ 1 c.if-self-gt-MAX_ARITHMETIC.false, le-leb _ 6 c.if-self.false, le-leb _ 31 c.if-self-gt-MAX_RESTRICTIONS.false)
