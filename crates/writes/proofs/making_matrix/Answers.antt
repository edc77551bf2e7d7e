-- `making_matrix` meets its contract: I and T are one or two bytes of the body each, so the length is exact.
use mathlib.Core.Path.{◌∙◌}
use native.Mathlib.Omega.{arith}
use Rattle.hmat.specs.Widths.{meant_width}
use Rattle.writes.proofs.Matrices.{matrix-making}
use Rattle.writes.proofs.making_matrix.Goals as goal

pub returns : goal.returns
returns c =
    let a = c.args in
    c.making.ensures ∙ matrix-making (meant_width a.width) a.s a.bytes.now _ _ (λ i. omega (arith, c.type_inv.bytes i)) c.from_body-node.ensures c.len.ensures
