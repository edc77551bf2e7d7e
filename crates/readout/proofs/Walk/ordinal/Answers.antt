-- `ordinal` meets its contract: what starts before the own record has the number that the walk from the nearest mark finds.
use mathlib.Core.Path.{◌≡◌, refl, sym, ap, ◌∙◌}
use Prim.Native.Nat.{ℕ, zero, suc, ◌%◌}
use borrow.Author.Tests.{lt-ltb, le-ltb}
use Rattle.std.specs.Option.{unwrap_or}
use Rattle.field.specs.Place.{place_or_none}
use Rattle.header.specs.Header.{meant}
use Rattle.frames.proofs.Marks.{near-number}
use Rattle.readout.specs.Places.{ordinal_at}
use Rattle.readout.proofs.Walk.ordinal.Goals as goal

pub returns-then-self-v : goal.returns-then-self-v
unfolding ordinal_at
returns-then-self-v g c = rw (le-ltb _ _ c.if-self-v.true)

-- 0 stands for none
or-zero : (n : ℕ) → unwrap_or (place_or_none n) 0 ≡ n
or-zero zero = refl
or-zero (suc n) = refl

pub returns : goal.returns
unfolding ordinal_at
returns g c =
    let s = c.args.self.now in
    let n = rw (c.toward_place-near.ensures, c.front.ensures) at c.number.ensures in
    let e = near-number (meant s.t) s.c.now s.marks.now.slots s.marks.now.shift c.args.v s.passed in
    rw (lt-ltb _ _ c.if-self-v.false) (ap (λ (k : ℕ). k % 4294967296) (c.unwrap_or-i.ensures ∙ rw (n, or-zero) (sym e)))
