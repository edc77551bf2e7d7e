-- `accept` meets its contract: the header, and then the records of the table's own bytes.
use mathlib.Core.Path.{◌≡◌, sym}
use Prim.Native.Nat.{ℕ, ◌≤◌}
use mathlib.Core.List.{List}
use native.Mathlib.Omega.{arith}
use lib.ListN.{length}
use Rattle.std.proofs.lemmas.Result.{err_from_is_err_and}
use Rattle.format.specs.Bytes.{given}
use Rattle.format.specs.Table.{Table, limit}
use Rattle.format.specs.Read.{own, judge_head, walked, accept}
use Rattle.laws.proofs.Bytes.{value-byte}
use Rattle.laws.proofs.Trips.{judged, own-whole}
use Rattle.read.proofs.accept.Goals as goal

-- a table whose header is good is within the limit
judged-short : (b : List ℕ) (t : Table) → judge_head b ≡ given t → length (own b) ≤ limit
judged-short b t h =
    let J = judged b t h in
    omega (arith, own-whole J, J.short)

pub invariant_of-pass : goal.invariant_of-pass
invariant_of-pass c =
    record { short = rw c.own.ensures (judged-short c.args.table.now _ (sym (rw c.in_ok-t.was at c.judge_head.ensures))) }

pub returns : goal.returns
unfolding accept walked
returns c =
    rw (← c.judge_head.ensures, c.in_ok-t.was, value-byte, ← c.revision_in.ensures, ← c.own.ensures) c.scan.ensures

pub returns-in_err-t : goal.returns-in_err-t
unfolding accept
returns-in_err-t c =
    let p = err_from_is_err_and c.from_residual.result c.from_residual.ensures.1 in
    rw (p.1, p.2, ← c.judge_head.ensures, c.in_err-t.was)
