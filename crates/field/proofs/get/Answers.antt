-- `get` meets its contract: where bytes are missing, those of the number stand before zeros.
use Rattle.std.proofs.Common.{◌∙◌, ◌+◌, ◌-◌, ◌≤◌, arith, drop}
use Rattle.std.proofs.lemmas.List.{take-take}
use Rattle.format.specs.Bytes.{part}
use Rattle.laws.proofs.Bytes.{value-padded}
use Rattle.field.proofs.get.Goals as goal

pub returns-then-WIDTH-s : goal.returns-then-WIDTH-s
unfolding part
returns-then-WIDTH-s g c =
    let a = c.args in
    let w = g.T.Number.WIDTH in
    let m = a.at + c.WIDTH-then-WIDTH-s.result - a.at in
    let l : w ≤ m = omega (arith, c.WIDTH-then-WIDTH-s.ensures) in
    c.read.ensures ∙ rw (take-take w m (drop a.at a.s.now) l)

pub returns : goal.returns
unfolding part
returns g c =
    let a = c.args in
    let w = g.T.Number.WIDTH in
    c.read-2.ensures ∙ rw (c.WIDTH-2.ensures, c.padded.ensures, take-take w w _ (omega arith)) (value-padded a.s.now a.at 8 w g.met.T.Number.narrow)
