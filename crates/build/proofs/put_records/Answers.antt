-- The answers that the search does not find.
use mathlib.Core.Path.{refl}
use native.Mathlib.Omega.{arith}
use borrow.Author.Rules.{rules}
use Rattle.header.specs.Header.{meant}
use Rattle.build.proofs.Steps.{low, kept}
use Rattle.build.proofs.put_records.Goals as goal

pub loop-s-init : goal.loop-s-init
loop-s-init g c = (refl, λ xs m h. h)

pub step-next-requires : goal.step-next-requires
step-next-requires g c =
    let l = c.loop-s in
    let y = c.requires in
    (search rules, (c.loop-s-test.true, record { start = y.start; meant = y.meant; holds = l.invariant.1 y.start y.meant y.holds }))

pub keep-requires : goal.keep-requires
keep-requires g c =
    let l = c.loop-s in
    let y = c.requires in
    let h = c.step-next.ensures.1 y.start y.meant l.marks.slots (l.invariant.1 y.start y.meant y.holds) in
    (search rules, low c.args.recipe.now (meant c.args.table) _ _ l.marks.slots (record { start = y.start; meant = y.meant; holds = h }))

pub put_cells-s-requires : goal.put_cells-s-requires
put_cells-s-requires g c =
    let l = c.loop-s in
    let y = c.requires in
    (l.marks.slots, record { start = y.start; meant = y.meant; holds = c.step-next.ensures.1 y.start y.meant l.marks.slots (l.invariant.1 y.start y.meant y.holds) })

pub loop-s-smaller : goal.loop-s-smaller
loop-s-smaller g c = omega (arith, c.step-next.ensures.0, c.put_cells-s.ensures.0)

pub loop-s-preserved : goal.loop-s-preserved
loop-s-preserved g c =
    let l = c.loop-s in
    let step = c.step-next in
    let keep = c.keep in
    let a = c.args in (
      search rules,
      λ xs m h. rw keep.ensures (c.put_cells-s.ensures.1 xs m _ (kept xs a.recipe.now (meant a.table) m _ _ l.marks.slots (step.ensures.1 xs m l.marks.slots (l.invariant.1 xs m h)) l.marks.shift)),
    )

pub returns : goal.returns
returns g c =
    let l = c.loop-s in
    (c.loop-s-test.false, λ xs m h. (l.marks.slots, l.invariant.1 xs m h))
