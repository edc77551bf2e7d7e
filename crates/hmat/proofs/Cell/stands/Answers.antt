-- `Cell::stands` meets its contract, test by test; the window behind the kind byte holds the indices.
use mathlib.Core.Path.{◌≡◌}
use Prim.Native.Nat.{suc, ◌+◌, ◌-◌}
use native.Mathlib.Omega.{arith}
use lib.ListN.{length, drop}
use borrow.Author.Tests.{le-leb, eq-eqb}
use Rattle.format.specs.Layout.{width}
use Rattle.format.specs.Form.{byte, pair}
use Rattle.format.specs.Kind.{Cell, body}
use Rattle.hmat.specs.Widths.{meant_width}
use Rattle.hmat.proofs.Bodies.{cell-small, window-inside}
use Rattle.hmat.proofs.Cell.stands.Goals as goal

pub overflow_add-body_len : goal.overflow_add-body_len
overflow_add-body_len c = omega (arith, c.body_len.ensures, cell-small (meant_width c.args.width))

pub slice_bounds-is_inside-end : goal.slice_bounds-is_inside-end
unfolding width body
slice_bounds-is_inside-end c =
    let n : c.body_len.result ≡ 4 = rw c.in-Byte.is at c.body_len.ensures in
    omega (arith, n, c.if-recipe-at-2.false)

pub slice_bounds-is_inside-end-in-Pair : goal.slice_bounds-is_inside-end-in-Pair
unfolding width body
slice_bounds-is_inside-end-in-Pair c =
    let n : c.body_len.result ≡ 6 = rw c.in-Pair.is at c.body_len.ensures in
    omega (arith, n, c.if-recipe-at-2.false)

pub returns-in-Byte : goal.returns-in-Byte
returns-in-Byte c =
    let a = c.args in
    rw (← c.kind.ensures, eq-eqb _ _ c.if-recipe-at-3.false, le-leb (suc a.at + width (body (Cell (meant_width a.width)))) (length a.recipe.now) (omega (arith, c.if-recipe-at-2.false, c.body_len.ensures)), c.in-Byte.is, c.is_inside.ensures)
    (window-inside byte (drop (a.at + 1) a.recipe.now) (a.at + 1 + 4 - (a.at + 1)) _ _ (omega arith))

pub returns-in-Pair : goal.returns-in-Pair
returns-in-Pair c =
    let a = c.args in
    rw (← c.kind.ensures, eq-eqb _ _ c.if-recipe-at-3.false, le-leb (suc a.at + width (body (Cell (meant_width a.width)))) (length a.recipe.now) (omega (arith, c.if-recipe-at-2.false, c.body_len.ensures)), c.in-Pair.is, c.is_inside-in-Pair.ensures)
    (window-inside pair (drop (a.at + 1) a.recipe.now) (a.at + 1 + 6 - (a.at + 1)) _ _ (omega arith))
