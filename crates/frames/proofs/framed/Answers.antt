-- `framed` meets its contract: its tests one after the other; where the length is good there is room for the least.
use mathlib.Core.Path.{◌≡◌, refl, sym}
use Prim.Native.Nat.{ℕ, ◌≤◌}
use mathlib.Core.Bool.{Bool, true, false}
use native.Mathlib.Omega.{arith}
use lib.Dec.{leb}
use lib.ListN.{length}
use borrow.Author.Tests.{le-leb, lt-leb, leb-true}
use Rattle.format.specs.Bytes.{both}
use Rattle.format.specs.Read.{framed}
use Rattle.laws.proofs.Tests.{both_false}
use Rattle.frames.proofs.framed.Goals as goal

room : (a n l : ℕ) → a ≤ n → leb n l ≡ both (leb a l) (leb n l)
room a n l h = by (leb n l) refl
  where
    by : (x : Bool) → leb n l ≡ x → x ≡ both (leb a l) x
    by true e = let m = leb-true n l e in rw (le-leb a l (omega arith))
    by false e = sym (both_false (leb a l))

pub returns-then-least-n : goal.returns-then-least-n
unfolding framed
returns-then-least-n c =
    rw (← c.least.ensures, ← c.size_in-n.ensures, le-leb _ _ c.if-least-n.true) (room _ _ _ c.if-least-n.true)

pub returns-else-least-n : goal.returns-else-least-n
unfolding framed
returns-else-least-n c =
    rw (← c.least.ensures, ← c.size_in-n.ensures, lt-leb _ _ c.if-least-n.false) (sym (both_false (leb c.least.result (length c.args.s.now))))
