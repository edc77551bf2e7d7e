-- `keep` meets its contract: the newest record's mark is noted under its number, if there is one.
use Rattle.std.proofs.Common.{◌∙◌, arith}
use borrow.Author.Tests.{eq-eqb, ne_eqb}
use Rattle.build.specs.Held.{kept_with}
use Rattle.build.proofs.keep.Goals as goal

pub returns-in_default : goal.returns-in_default
unfolding kept_with
returns-in_default g c = rw (eq-eqb c.args.latest.nodes 0 (omega (arith, c.in_default.ensures)))

pub returns : goal.returns
unfolding kept_with
returns g c =
    let n = c.in-Some.ensures in
    c.note.ensures.slots ∙ rw (ne_eqb c.args.latest.nodes 0 (omega (arith, n.0)), n.1)
