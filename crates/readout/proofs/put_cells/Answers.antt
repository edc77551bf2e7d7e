-- `put_cells` meets its contract: row by row.
use mathlib.Core.Path.{◌≡◌}
use Prim.Native.Nat.{ℕ, ◌*◌, ◌≤◌, ◌<◌}
use native.Mathlib.Omega.{arith}
use native.Mathlib.Nat.{zero-mul, mul-le-mul}
use Rattle.format.specs.Form.{most}
use Rattle.format.specs.Layout.{width}
use Rattle.format.specs.Kind.{body}
use Rattle.hmat.specs.Widths.{meant_width}
use Rattle.readout.specs.Laid.{up_to}
use Rattle.readout.proofs.Lists.{none-laid, rows-next, rows-short, rows-laid}
use Rattle.readout.proofs.put_cells.Goals as goal

pub loop-row-init : goal.loop-row-init
unfolding up_to
loop-row-init c = rw zero-mul (none-laid _ _)

-- what stands before a row is a part of the matrix
few : (r i t : ℕ) → r < i → i ≤ most → t ≤ most → r * t ≤ most * most
few r i t l m n = let h : r ≤ most = omega arith in mul-le-mul h n

pub overflow_mul-row : goal.overflow_mul-row
overflow_mul-row c = omega (arith, few _ _ _ c.loop-row-test.true c.requires.1 c.requires.2)

pub overflow_mul-row-in-loop-row : goal.overflow_mul-row-in-loop-row
overflow_mul-row-in-loop-row c = omega (arith, few _ _ _ c.loop-row-test.true c.requires.1 c.requires.2)

pub overflow_add-start : goal.overflow_add-start
overflow_add-start c = omega (arith, few _ _ _ c.loop-row-test.true c.requires.1 c.requires.2)

pub put_row-p-requires : goal.put_row-p-requires
unfolding width body
put_row-p-requires c =
    let a = c.args in
    let f = few _ _ _ c.loop-row-test.true c.requires.1 c.requires.2 in
    (omega (arith, f), omega arith, omega (arith, f, c.loop-row.invariant.next, rows-short (meant_width a.width) a.t a.body.now a.start (c.loop-row.row * a.t)))

pub loop-row-preserved : goal.loop-row-preserved
loop-row-preserved c =
    let a = c.args in
    rows-next (meant_width a.width) a.t a.body.now a.start c.loop-row.row c.loop-row.invariant c.put_row-p.ensures.0

pub returns : goal.returns
returns c =
    let a = c.args in
    let w = meant_width a.width in
    let e : c.loop-row.row ≡ a.i = omega arith in
    let m = rw e at c.loop-row.invariant in
    (rows-laid w a.t a.body.now a.start (a.i * a.t) m, omega (arith, m.next, rows-short w a.t a.body.now a.start (a.i * a.t)))
