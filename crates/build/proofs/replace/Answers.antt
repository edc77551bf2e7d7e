-- `replace` meets its contract: two bytes of a window leave the sum, and the two of the number come.
use mathlib.Core.Path.{◌≡◌, sym, ap, ◌∙◌}
use mathlib.Core.List.{List}
use mathlib.Core.Logic.{inl}
use Prim.Native.Nat.{ℕ, ◌+◌, ◌-◌, ◌<◌}
use native.Mathlib.Omega.{arith}
use native.Mathlib.Nat.{add-zero}
use borrow.Author.Rules.{rules}
use lib.ListN.{take, drop}
use Rattle.format.specs.Bytes.{at, le, value}
use Rattle.laws.proofs.Bytes.{length-le, part-window, value-byte}
use Rattle.laws.proofs.Over.{over-window}
use Rattle.build.proofs.Sums.{sum-replaced}
use Rattle.build.proofs.replace.Goals as goal

-- a byte of n bytes from place p on
at-window : (bs : List ℕ) (p n i : ℕ) → i < n → at (take n (drop p bs)) i ≡ at bs (p + i)
at-window bs p n i h = value-byte (take n (drop p bs)) i ∙ ap value (part-window bs p n i 1 (omega arith)) ∙ sym (value-byte bs (p + i))

pub returns : goal.returns
returns c =
    let a = c.args in
    let out = c.args.out.now in
    let k = a.at + 2 - a.at in
    let low : at (take k (drop a.at out)) 0 ≡ at out a.at = rw (at-window out a.at k 0 (omega arith), add-zero) in
    let high : at (take k (drop a.at out)) 1 ≡ at out (a.at + 1) = at-window out a.at k 1 (omega arith) in
    let w = over-window out _ (le 2 a.value) a.at k (omega (arith, c.requires)) (inl (omega (arith, length-le 2 a.value))) c.put.ensures in record { out_after = w; value_value = sum-replaced out a.at a.value a.sum.value _ _ _ _ c.requires (search rules) (rw low at c.sub.ensures) (rw high at c.sub-old.ensures) (rw c.to_le_bytes.ensures at c.add.ensures) (rw c.to_le_bytes.ensures at c.add-2.ensures) }
