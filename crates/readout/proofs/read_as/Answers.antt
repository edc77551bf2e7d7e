-- `read_as` meets its contract: by the revision, then by the measure.
use mathlib.Core.Path.{refl, sym}
use borrow.Author.Tests.{eq-eqb, ne_eqb}
use Rattle.std.proofs.lemmas.Result.{err_from_is_err_and}
use Rattle.format.specs.Build.{written}
use Rattle.laws.proofs.Bytes.{value-byte}
use Rattle.readout.proofs.Recipes.{other-revision, by-measure, refused-stays, refused-wrote}
use Rattle.readout.proofs.read_as.Goals as goal

pub returns-then-revision : goal.returns-then-revision
unfolding written
returns-then-revision c =
    let b = c.args.table.now in
    let e = rw (c.revision_in-revision.ensures, ← value-byte b 8, c.revision.ensures) at (ne_eqb _ _ c.if-revision.true) in
    rw (other-revision _ b _ e) record { result_value = refl; out_after = refl }

pub measure-requires : goal.measure-requires
measure-requires c = rw c.own.ensures c.requires.1

pub returns-in_err-n : goal.returns-in_err-n
returns-in_err-n c =
    let b = c.args.table.now in
    let e = rw (c.revision_in-revision.ensures, ← value-byte b 8, c.revision.ensures) at (eq-eqb _ _ c.if-revision.false) in
    let m = rw (c.in_err-n.was, c.revision_in-revision.ensures, ← value-byte b 8, c.own.ensures) at c.measure.ensures in
    let p = err_from_is_err_and c.from_residual.result c.from_residual.ensures.1 in
    rw (p.1, p.2, by-measure _ b _ _ e m, refused-stays) record { result_value = refl; out_after = sym (refused-wrote _ _ _) }

pub returns : goal.returns
returns c =
    let b = c.args.table.now in
    let e = rw (c.revision_in-revision.ensures, ← value-byte b 8, c.revision.ensures) at (eq-eqb _ _ c.if-revision.false) in
    let m = rw (c.in_ok-n.was, c.revision_in-revision.ensures, ← value-byte b 8, c.own.ensures) at c.measure.ensures in
    rw (by-measure _ b _ _ e m) c.put_recipe.ensures
