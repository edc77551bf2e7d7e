-- `put_cell` meets its contract: the body behind the kind byte gives indices and value, and the place is in the buffer.
use Prim.Native.Nat.{◌+◌, ◌-◌}
use native.Mathlib.Omega.{arith}
use lib.ListN.{length}
use Rattle.hmat.specs.Widths.{meant_width}
use Rattle.build.proofs.Cells.{value-is, entry-exact}
use Rattle.build.proofs.put_cell.Goals as goal

-- the record ends within the recipe
pub overflow_add-end : goal.overflow_add-end
overflow_add-end c = omega (arith, c.body_len.ensures, c.requires.0)

pub slice_bounds-from_body-end : goal.slice_bounds-from_body-end
slice_bounds-from_body-end c = omega (arith, c.body_len.ensures, c.requires.0)

pub replace-requires : goal.replace-requires
replace-requires c =
    let a = c.args in
    let n = a.at + 1 + c.body_len.result - (a.at + 1) in
    let z = entry-exact (meant_width a.width) a.recipe.now a.at n _ c.from_body-cell.ensures (omega (arith, c.body_len.ensures)) a.cells a.targets (length a.out.now) _ c.entry_place-place.ensures c.requires.1 (omega (arith, c.well_formed)) in
    rw z c.requires.1

pub returns : goal.returns
returns c =
    let a = c.args in
    let w = meant_width a.width in
    let n = a.at + 1 + c.body_len.result - (a.at + 1) in
    let z = entry-exact w a.recipe.now a.at n _ c.from_body-cell.ensures (omega (arith, c.body_len.ensures)) a.cells a.targets (length a.out.now) _ c.entry_place-place.ensures c.requires.1 (omega (arith, c.well_formed)) in
    let v = value-is w a.recipe.now a.at n _ c.from_body-cell.ensures (omega (arith, c.body_len.ensures)) in
    rw (← z, ← v) c.replace.ensures
