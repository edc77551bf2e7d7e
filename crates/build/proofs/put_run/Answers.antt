-- The answers that the search does not find.
use mathlib.Core.Path.{refl, ◌∙◌}
use native.Mathlib.Omega.{arith}
use borrow.Author.Rules.{rules}
use Rattle.format.specs.Table.{hmat}
use Rattle.hmat.specs.Widths.{meant_width}
use Rattle.hmat.proofs.Bodies.{cell-small}
use Rattle.writes.specs.declared.State.{State}
use Rattle.build.proofs.Steps.{low}
use Rattle.build.proofs.Places.{target-exact}
use Rattle.build.proofs.Cells.{held_at, cell-whole, cell_in, cell-goes}
use Rattle.build.proofs.put_run.Goals as goal

pub overflow_add-len : goal.overflow_add-len
overflow_add-len c = omega (arith, c.body_len-len.ensures, cell-small (meant_width c.args.width))

pub loop-at-init : goal.loop-at-init
loop-at-init c = (refl, search rules, λ xs m ms h. h)

pub put_cell-sum-requires : goal.put_cell-sum-requires
put_cell-sum-requires c =
    let l = c.loop-at in
    let a = c.args in
    let w = meant_width a.width in
    let ms = c.requires.0 in
    let y = c.requires.1 in
    let s : State = record { at = l.at; end = a.s.end; latest = a.s.latest; sum = l.sum } in
    let h = held_at a.recipe.now a.s s a.out.now l.out ms y l.invariant.2 in
    let z = target-exact a.s.latest.place a.s.latest.initiators a.s.latest.targets _ (low a.recipe.now hmat a.s a.out.now ms y) (search rules) (search rules) c.target_place-cells.ensures in
    let e = c.if-recipe-at.true ∙ c.kind-kind.ensures in (
      cell-whole w y.start a.recipe.now y.meant s l.out ms h c.loop-at-test.true e,
      rw z (cell_in w y.start a.recipe.now y.meant s l.out ms h c.loop-at-test.true e),
    )

pub overflow_add-at : goal.overflow_add-at
overflow_add-at c =
    let l = c.loop-at in
    let a = c.args in
    let ms = c.requires.0 in
    let y = c.requires.1 in
    let s : State = record { at = l.at; end = a.s.end; latest = a.s.latest; sum = l.sum } in
    let h = held_at a.recipe.now a.s s a.out.now l.out ms y l.invariant.2 in
    let w = cell-whole (meant_width a.width) y.start a.recipe.now y.meant s l.out ms h c.loop-at-test.true (c.if-recipe-at.true ∙ c.kind-kind.ensures) in
    omega (arith, w, c.body_len-len.ensures)

pub loop-at-preserved : goal.loop-at-preserved
loop-at-preserved c =
    let l = c.loop-at in
    let a = c.args in
    let s : State = record { at = l.at; end = a.s.end; latest = a.s.latest; sum = l.sum } in
    let z = target-exact a.s.latest.place a.s.latest.initiators a.s.latest.targets _ (low a.recipe.now hmat a.s a.out.now c.requires.0 c.requires.1) (search rules) (search rules) c.target_place-cells.ensures in
    let q = c.put_cell-sum in (
      search rules,
      omega (arith, l.invariant.1),
      λ xs m ms h. rw c.body_len-len.ensures
          (cell-goes (meant_width a.width) xs a.recipe.now m s l.out ms (l.invariant.2 xs m ms h) c.loop-at-test.true (c.if-recipe-at.true ∙ c.kind-kind.ensures) _ _ (rw z at q.ensures.out_after) (rw z at q.ensures.value_value)),
    )
