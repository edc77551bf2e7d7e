-- `judge_head` meets its contract: the length lent, the signature, and then the header of that table.
use mathlib.Core.Path.{◌≡◌}
use native.Mathlib.Omega.{arith}
use borrow.Author.Tests.{lt-ltb, le-ltb}
use Rattle.std.specs.Prelude.{Some, None}
use Rattle.std.proofs.lemmas.Result.{err_from_is_err_and}
use Rattle.format.specs.Read.{judge_head}
use Rattle.frames.specs.declared.Refusal.TheVariants.{BadSign}
use Rattle.frames.proofs.judge_head.Goals as goal

pub returns-then-table-lt-LEN : goal.returns-then-table-lt-LEN
unfolding judge_head
returns-then-table-lt-LEN c = rw (lt-ltb _ _ c.if-table-lt-LEN.true)

pub returns-in_err-t : goal.returns-in_err-t
unfolding judge_head
returns-in_err-t c =
    let o : c.signed.result ≡ None = grind arith in
    let p = err_from_is_err_and c.from_residual.result c.from_residual.ensures.1 in
    let h = rw o at c.ok_or.ensures.value in
    let w = c.in_err-t.was in
    let z : p.0 ≡ BadSign = cc in
    rw (p.1, z, le-ltb _ _ c.if-table-lt-LEN.false, ← c.signed.ensures, o)

pub returns : goal.returns
unfolding judge_head
returns c =
    let o : c.signed.result ≡ Some c.in_ok-t.t = grind arith in
    rw (le-ltb _ _ c.if-table-lt-LEN.false, ← c.signed.ensures, o) c.judge_as.ensures
