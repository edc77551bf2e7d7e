-- `CxlFixedMemory::num_interleaved_ways` meets its contract: each code stands for its ways, and no other code for any.
use mathlib.Core.Path.{◌≡◌, refl, sym}
use mathlib.Core.Bool.{Bool, true, false}
use Prim.Native.Nat.{ℕ, ◌-◌, ◌*◌, ◌^◌, ◌<◌}
use native.Mathlib.Omega.{arith}
use borrow.Author.Tests.{lt-leb, leb-true}
use lib.Dec.{leb}
use Rattle.format.specs.Bytes.{pick, both}
use Rattle.format.specs.Form.{ways}
use Rattle.cedt.proofs.CxlFixedMemory.num_interleaved_ways.Goals as goal

-- a code above 4 that is none of 8 to 10
above : (c : ℕ) → 4 < c → (c ≡ 8 → ⊥) → (c ≡ 9 → ⊥) → (c ≡ 10 → ⊥) → ways c ≡ 0
unfolding ways
above c l h i j = rw (lt-leb c 4 l) (by (leb 8 c) refl)
  where
    by : (x : Bool) → leb 8 c ≡ x → pick (both x (leb c 10)) (3 * 2 ^ (c - 8)) 0 ≡ 0
    by true e = rw (lt-leb c 10 (omega (arith, leb-true 8 c e)))
    by false e = refl

pub returns-in-0 : goal.returns-in-0
unfolding ways
returns-in-0 c = rw c.in-0.is

pub returns-in-1 : goal.returns-in-1
unfolding ways
returns-in-1 c = rw c.in-1.is

pub returns-in-2 : goal.returns-in-2
unfolding ways
returns-in-2 c = rw c.in-2.is

pub returns-in-3 : goal.returns-in-3
unfolding ways
returns-in-3 c = rw c.in-3.is

pub returns-in-4 : goal.returns-in-4
unfolding ways
returns-in-4 c = rw c.in-4.is

pub returns-in-8 : goal.returns-in-8
unfolding ways
returns-in-8 c = rw c.in-8.is

pub returns-in-9 : goal.returns-in-9
unfolding ways
returns-in-9 c = rw c.in-9.is

pub returns-in-10 : goal.returns-in-10
unfolding ways
returns-in-10 c = rw c.in-10.is

pub returns-in_default : goal.returns-in_default
returns-in_default c = sym (above c.args.self.interleave_ways (omega arith) (omega arith) (omega arith) (omega arith))
