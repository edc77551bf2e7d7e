-- `step` meets its contract: the record is whole and not refused, so the table and the sum go on to those of the nodes with it.
use mathlib.Core.Path.{◌≡◌, refl, sym, ap, ◌∙◌}
use Prim.Native.Nat.{ℕ, ◌+◌, ◌-◌}
use mathlib.Core.Option.{none, some}
use native.Mathlib.Omega.{arith}
use borrow.Author.Rules.{rules}
use lib.ListN.{get_or}
use Rattle.format.specs.Layout.{width}
use Rattle.format.specs.Kind.{kind_of, body}
use Rattle.header.specs.Header.{meant}
use Rattle.recipe.specs.Kinds.{meant_kind, named, ordinal_in}
use Rattle.recipe.proofs.Numbers.{no_kind_lem}
use Rattle.build.proofs.Steps.{whole, leads-there, in-limit, changing, coming, stepped, unknown}
use Rattle.build.proofs.step.Goals as goal

pub returns-in_default : goal.returns-in_default
returns-in_default g c =
    let a = c.args in
    let r = c.args.recipe.now in
    let t = meant a.table in
    let e : kind_of t (get_or r a.s.at 0) ≡ none = sym c.kind_of.ensures.result_value ∙ no_kind_lem c.kind_of.result c.in_default.not-Ok in
    unknown r t a.s a.out.now a.marks.now.slots c.requires.1 c.requires.0 e

pub overflow_add-next : goal.overflow_add-next
overflow_add-next g c =
    let a = c.args in
    let r = c.args.recipe.now in
    let t = meant a.table in
    let ms = c.args.marks.now.slots in
    let y = c.requires.1 in
    let k = meant_kind c.in-Ok.kind in
    let e : kind_of t (get_or r a.s.at 0) ≡ some k = sym c.kind_of.ensures.result_value ∙ ap named c.in-Ok.is in
    let l = whole y.start r t y.meant a.s a.out.now ms y.holds k c.requires.0 e in
    omega (arith, c.body_len.ensures)

pub slice_bounds-bytes-end : goal.slice_bounds-bytes-end
slice_bounds-bytes-end g c =
    let a = c.args in
    let r = c.args.recipe.now in
    let t = meant a.table in
    let ms = c.args.marks.now.slots in
    let y = c.requires.1 in
    let k = meant_kind c.in-Ok.kind in
    let e : kind_of t (get_or r a.s.at 0) ≡ some k = sym c.kind_of.ensures.result_value ∙ ap named c.in-Ok.is in
    let l = whole y.start r t y.meant a.s a.out.now ms y.holds k c.requires.0 e in
    omega (arith, c.body_len.ensures)

pub overflow_add-end : goal.overflow_add-end
overflow_add-end g c =
    let a = c.args in
    let r = c.args.recipe.now in
    let t = meant a.table in
    let ms = c.args.marks.now.slots in
    let y = c.requires.1 in
    let k = meant_kind c.in-Ok.kind in
    let e : kind_of t (get_or r a.s.at 0) ≡ some k = sym c.kind_of.ensures.result_value ∙ ap named c.in-Ok.is in
    let len = c.body_len in
    let n = a.s.at + 1 + len.result - (a.s.at + 1) in
    let f : n ≡ width (body k) = omega (arith, len.ensures) in
    let change = c.change_of-change in
    let l = in-limit y.start r t y.meant a.s a.out.now ms y.holds k c.requires.0 e n change.result f change.ensures in
    omega arith

pub before-old-requires : goal.before-old-requires
before-old-requires g c =
    let a = c.args in
    let r = c.args.recipe.now in
    let t = meant a.table in
    let ms = c.args.marks.now.slots in
    let y = c.requires.1 in
    let k = meant_kind c.in-Ok.kind in
    let e : kind_of t (get_or r a.s.at 0) ≡ some k = sym c.kind_of.ensures.result_value ∙ ap named c.in-Ok.is in
    let len = c.body_len in
    let n = a.s.at + 1 + len.result - (a.s.at + 1) in
    let f : n ≡ width (body k) = omega (arith, len.ensures) in
    let change = c.change_of-change in
    ((a.s, _, change.ensures), changing y.start r t y.meant a.s a.out.now ms y.holds k c.requires.0 e n change.result f change.ensures)

pub look_for-found-requires : goal.look_for-found-requires
look_for-found-requires g c =
    let a = c.args in
    let r = c.args.recipe.now in
    let t = meant a.table in
    let ms = c.args.marks.now.slots in
    let y = c.requires.1 in
    let k = meant_kind c.in-Ok.kind in
    let e : kind_of t (get_or r a.s.at 0) ≡ some k = sym c.kind_of.ensures.result_value ∙ ap named c.in-Ok.is in
    let len = c.body_len in
    let n = a.s.at + 1 + len.result - (a.s.at + 1) in
    let f : n ≡ width (body k) = omega (arith, len.ensures) in
    let change = c.change_of-change in
    (search rules, λ z. leads-there y.start r t y.meant a.s a.out.now ms y.holds k c.requires.0 e n change.result f change.ensures (λ w. z (ap ordinal_in c.refers.ensures ∙ w)))

pub after-requires : goal.after-requires
after-requires g c =
    let a = c.args in
    let r = c.args.recipe.now in
    let t = meant a.table in
    let ms = c.args.marks.now.slots in
    let y = c.requires.1 in
    let k = meant_kind c.in-Ok.kind in
    let e : kind_of t (get_or r a.s.at 0) ≡ some k = sym c.kind_of.ensures.result_value ∙ ap named c.in-Ok.is in
    let len = c.body_len in
    let n = a.s.at + 1 + len.result - (a.s.at + 1) in
    let f : n ≡ width (body k) = omega (arith, len.ensures) in
    let change = c.change_of-change in
    let g = changing y.start r t y.meant a.s a.out.now ms y.holds k c.requires.0 e n change.result f change.ensures in
    let m = coming y.start r t y.meant a.s a.out.now ms y.holds k c.requires.0 e n change.result f change.ensures in
    ((a.s, _, change.ensures), search (g, rules), search (m, rules))

pub returns : goal.returns
returns g c =
    let a = c.args in
    let r = c.args.recipe.now in
    let t = meant a.table in
    let ms = c.args.marks.now.slots in
    let k = meant_kind c.in-Ok.kind in
    let e : kind_of t (get_or r a.s.at 0) ≡ some k = sym c.kind_of.ensures.result_value ∙ ap named c.in-Ok.is in
    let len = c.body_len in
    let n = a.s.at + 1 + len.result - (a.s.at + 1) in
    let f : n ≡ width (body k) = omega (arith, len.ensures) in
    let change = c.change_of-change in
    let found = c.look_for-found in
    let placed = rw c.refers.ensures at found.ensures in (
      omega (arith, len.ensures),
      λ xs m ms h. stepped xs r t m a.s a.out.now ms h k c.requires.0 e n change.result f change.ensures
          found.result placed _ _ c.before-old.result.value c.put.ensures (ap (λ (j : ℕ). a.s.at + 1 + j) len.ensures) refl refl c.before-old.ensures c.after.ensures,
    )
