-- `put_cell` meets its contract: by the test; a cell that is set is laid with the low bytes of its indices.
use mathlib.Core.Path.{refl, sym, ap, ◌∙◌}
use mathlib.Core.List.{[]}
use native.Mathlib.Omega.{arith}
use borrow.Author.Tests.{eq-eqb, ne_eqb}
use lib.ListN.{length}
use Rattle.format.specs.Bytes.{over}
use Rattle.laws.proofs.Bytes.{over_none}
use Rattle.hmat.specs.Widths.{meant_width}
use Rattle.readout.proofs.Lists.{low-cell}
use Rattle.readout.proofs.put_cell.Goals as goal

pub returns-then-value : goal.returns-then-value
returns-then-value c =
    let v = sym (rw c.behind.ensures at c.get-value.ensures) in
    rw (v, eq-eqb _ _ c.if-value.true) record { out_after = sym (over_none _ _ [] (omega arith)); value = refl }

pub returns : goal.returns
returns c =
    let a = c.args in
    let v = sym (rw c.behind.ensures at c.get-value.ensures) in
    let e = low-cell (meant_width a.width) a.i a.j _ in
    rw (v, ne_eqb _ _ c.if-value.false) record { out_after = c.put_body.ensures.out_after ∙ ap (over a.out.now a.at) e; value = c.put_body.ensures.value ∙ ap length e }
