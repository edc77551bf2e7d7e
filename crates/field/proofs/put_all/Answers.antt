-- `put_all` meets its contract: numbers laid over a window that they fit are laid over the whole.
use Rattle.std.proofs.Common.{◌≡◌, ℕ, ◌+◌, ◌-◌, ◌<◌, ◌≤◌, min, Bool, true, false, leb, ◌⊎◌, length, sym, refl, inl, inr, arith, leb-false, leb-true}
use Rattle.format.specs.Bytes.{join, sum}
use Rattle.laws.proofs.Bytes.{over-past}
use Rattle.laws.proofs.Joins.{join-short}
use Rattle.laws.proofs.Over.{over-window}
use Rattle.field.proofs.put_all.Goals as goal

-- j bytes are no more than the window's n, or the window ends where the buffer of len bytes does: s is cut at m, and no buffer is longer than m
covers : (s m n at len j : ℕ) → n ≡ min s m → len ≤ m → at < len → n ≤ len - at → j ≤ s → (j ≤ n) ⊎ (at + n ≡ len)
covers s m n at len j e l p q h = by (leb s m) refl
  where
    by : (b : Bool) → leb s m ≡ b → (j ≤ n) ⊎ (at + n ≡ len)
    by true x = let y = leb-true s m x in inl (omega (arith, e))
    by false x = let y = leb-false s m x in inr (omega (arith, e))

pub returns-then-len-at : goal.returns-then-len-at
returns-then-len-at c = sym (over-past _ _ _ c.if-len-at.true)

pub returns : goal.returns
returns c =
    let a = c.args in
    let out = c.args.out.now in
    let cs = join a.ws.now a.vs.now in
    let n = c.total-n.result in
    let k = a.at + n - a.at in
    let w = covers (sum a.ws.now) 18446744073709551615 k a.at (length out) (length cs) (omega (arith, c.total-n.ensures)) (omega arith) (omega arith) (omega arith) (join-short a.ws.now a.vs.now) in
    over-window out _ cs a.at k (omega arith) w c.put_each-2.ensures
