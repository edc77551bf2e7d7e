-- `matrix` meets its contract: a node without references, whose counts are good where its record is short.
use mathlib.Core.Path.{◌≡◌, sym, ap, ◌∙◌}
use native.Mathlib.Omega.{arith}
use Rattle.format.specs.Bytes.{at}
use Rattle.format.specs.Layout.{fields}
use Rattle.format.specs.Form.{matrix, size, ranges}
use Rattle.format.specs.Node.{node}
use Rattle.format.specs.Kind.{Matrix, body}
use Rattle.format.specs.Field.{bad_field}
use Rattle.laws.proofs.Bytes.{bytes_of}
use Rattle.field.specs.Place.{place_or_none}
use Rattle.field.proofs.Places.{none-place, some-place, some-above}
use Rattle.hmat.specs.Widths.{meant_width}
use Rattle.hmat.specs.Hmat.{matrix_form}
use Rattle.hmat.proofs.Unique.{width_back}
use Rattle.recipe.proofs.Numbers.{matrix-short}
use Rattle.recipe.specs.Machine.{counts}
use Rattle.recipe.proofs.Steps.{counts-below, matrix-turn}
use Rattle.recipe.proofs.matrix.Goals as goal

pub returns-in-Some : goal.returns-in-Some
unfolding ranges bad_field
returns-in-Some c t u ns p e =
    let a = c.args in
    let h = sym c.in-Some.is ∙ c.bad_field.ensures ∙ ap (λ vs. place_or_none (bad_field (node (matrix (at vs 4) (at vs 5)) vs))) c.from_body-node.ensures in
    let (i, j) = counts-below (meant_width a.width) a.bytes.now (bytes_of a.bytes.now (λ i. omega (arith, c.type_inv.bytes i))) in
    sym (matrix-turn (meant_width a.width) t u ns p (counts a.st) a.bytes.now i j e ∙ rw (some-above _ h, some-place _ h))

pub grown-requires : goal.grown-requires
grown-requires c =
    let short = matrix-short c.from_body-node.result (sym (none-place _ (sym c.in_default.is ∙ c.bad_field.ensures))) in
    (omega (arith, c.len.ensures, short), omega (arith, c.len.ensures, short, c.args.st.few))

pub returns : goal.returns
unfolding ranges bad_field
returns c t u ns p q =
    let a = c.args in
    let w = meant_width a.width in
    let vs = fields (body (Matrix w)) a.bytes.now in
    let m = c.from_body-node.result in
    let short = matrix-short m (sym (none-place _ (sym c.in_default.is ∙ c.bad_field.ensures))) in
    let n : c.len.result ≡ size (matrix_form m) = omega (arith, c.len.ensures, short) in
    let i : m.initiators ≡ at vs 4 = ap (λ vs. at vs 4) c.from_body-node.ensures in
    let j : m.targets ≡ at vs 5 = ap (λ vs. at vs 5) c.from_body-node.ensures in
    let h = sym c.in_default.is ∙ c.bad_field.ensures ∙ ap (λ vs. place_or_none (bad_field (node (matrix (at vs 4) (at vs 5)) vs))) c.from_body-node.ensures in
    let (x, y) = counts-below w a.bytes.now (bytes_of a.bytes.now (λ i. omega (arith, c.type_inv.bytes i))) in
    rw ((c.grown.ensures p), n, i, j) (sym (matrix-turn w t u ns p (counts a.st) a.bytes.now x y q ∙ rw (none-place _ h, width_back a.width)))
