-- `set_value` meets its contract: the value of the body goes to the place.
use mathlib.Core.Path.{ap, ◌∙◌}
use mathlib.Core.List.{List}
use Prim.Native.Nat.{ℕ}
use Rattle.format.specs.Bytes.{at, le, over}
use Rattle.writes.proofs.set_value.Goals as goal

pub returns : goal.returns
returns c =
    let a = c.args in
    c.put.ensures ∙ ap (λ (vs : List ℕ). over a.out.now a.place (le 4 (at vs 1))) c.from_body.ensures
