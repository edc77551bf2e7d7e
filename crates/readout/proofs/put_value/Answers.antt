-- `put_value` meets its contract: by the test; a value that is set is laid with the low bytes of its index.
use mathlib.Core.Path.{refl, sym, ap, ◌∙◌}
use mathlib.Core.List.{[]}
use native.Mathlib.Omega.{arith}
use borrow.Author.Tests.{eq-eqb, ne_eqb}
use lib.ListN.{length}
use Rattle.format.specs.Bytes.{over}
use Rattle.laws.proofs.Bytes.{over_none}
use Rattle.hmat.specs.Widths.{meant_width}
use Rattle.readout.proofs.Lists.{low-setting}
use Rattle.readout.proofs.put_value.Goals as goal

pub returns-then-value-eq-UNSET : goal.returns-then-value-eq-UNSET
returns-then-value-eq-UNSET c =
    let v = sym (rw c.behind.ensures at c.get-value.ensures) in
    rw (v, eq-eqb _ _ c.if-value-eq-UNSET.true) record { out_after = sym (over_none _ _ [] (omega arith)); value = refl }

pub returns : goal.returns
returns c =
    let a = c.args in
    let v = sym (rw c.behind.ensures at c.get-value.ensures) in
    let e = low-setting (meant_width a.width) a.kind a.j _ in
    rw (v, ne_eqb _ _ c.if-value-eq-UNSET.false) record { out_after = c.put_body.ensures.out_after ∙ ap (over a.out.now a.at) e; value = c.put_body.ensures.value ∙ ap length e }
