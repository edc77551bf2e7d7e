-- `set_cell` meets its contract: the value of the body goes to the place.
use mathlib.Core.Path.{ap, ◌∙◌}
use mathlib.Core.List.{List}
use Prim.Native.Nat.{ℕ}
use Rattle.format.specs.Bytes.{at, le, over}
use Rattle.writes.proofs.set_cell.Goals as goal

pub returns : goal.returns
returns c =
    let a = c.args in
    c.put.ensures ∙ ap (λ (vs : List ℕ). over a.out.now a.place (le 2 (at vs 2))) c.from_body.ensures
