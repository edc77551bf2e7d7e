-- `read_out` meets its contract: a table that is accepted is read out by places, as the table that it is signed as.
use mathlib.Core.Path.{◌≡◌}
use native.Mathlib.Omega.{arith}
use Rattle.std.specs.Prelude.{Some, None}
use Rattle.std.proofs.lemmas.Result.{err_from_is_err_and}
use Rattle.readout.proofs.Totals.{answered, wrote, refused-first, judged-sizes, accepted-as, accepted-signed, refused-then}
use Rattle.readout.proofs.read_out.Goals as goal

pub returns-in_err-accept : goal.returns-in_err-accept
returns-in_err-accept c =
    let b = c.args.table.now in
    let p = err_from_is_err_and c.from_residual.result c.from_residual.ensures.1 in
    let e = refused-first b _ _ (refused-then b _ _ (rw c.in_err-accept.was at c.accept.ensures)) in
    rw (p.1, p.2) record { result_value = rw e.0; out_after = rw e.1 }

pub returns-in_err-t : goal.returns-in_err-t
returns-in_err-t c =
    let s : c.signed.result ≡ None = grind arith in
    absurd (accepted-signed c.args.table.now _ (rw c.in_ok-accept.was at c.accept.ensures) (rw s at c.signed.ensures))

pub read_as-requires : goal.read_as-requires
read_as-requires c =
    let b = c.args.table.now in
    let s : c.signed.result ≡ Some c.in_ok-t.t = grind arith in
    judged-sizes b _ (accepted-as b _ _ (rw c.in_ok-accept.was at c.accept.ensures) (rw s at c.signed.ensures)).0

pub returns : goal.returns
returns c =
    let b = c.args.table.now in
    let s : c.signed.result ≡ Some c.in_ok-t.t = grind arith in
    let (h, ss, e) = accepted-as b _ _ (rw c.in_ok-accept.was at c.accept.ensures) (rw s at c.signed.ensures) in
    record { result_value = rw (answered b _ ss h e) c.read_as.ensures.result_value; out_after = rw (wrote b _ ss h e) c.read_as.ensures.out_after }
