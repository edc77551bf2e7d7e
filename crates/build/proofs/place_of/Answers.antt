-- `place_of` meets its contract: the record is walked to from a mark that leads to it.
use mathlib.Core.Path.{◌∙◌}
use native.Mathlib.Omega.{arith}
use Rattle.format.specs.Table.{pptt}
use Rattle.marks.specs.Marks.{first_mark}
use Rattle.marks.proofs.Laws.{node-keeps, node-before}
use Rattle.build.specs.Held.{Leads}
use Rattle.build.proofs.Walks.{hops-first, place_none, place-some}
use Rattle.build.proofs.place_of.Goals as goal

pub returns-in_default : goal.returns-in_default
returns-in_default g c = place_none c.args.out.now c.args.ordinal (omega (arith, c.in_default.ensures))

pub reached-requires : goal.reached-requires
reached-requires g c =
    let a = c.args in
    let i = c.in-Some.i in
    let out = a.out.now in
    rw (c.toward_node.ensures, c.first.ensures) (node-before (first_mark pptt) a.marks.now.shift i a.marks.now.slots (omega arith), node-keeps (Leads out) (first_mark pptt) a.marks.now.shift i a.marks.now.slots (omega arith, hops-first out) (c.requires (λ z. absurd (omega (arith, z, c.in-Some.ensures.0)))))

pub returns : goal.returns
returns g c =
    let s = c.in-Some.ensures in
    c.reached.ensures ∙ rw s.1 (place-some c.args.out.now c.args.ordinal (λ z. absurd (omega (arith, z, s.0))))
