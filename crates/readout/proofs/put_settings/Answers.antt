-- `put_settings` meets its contract: initiators, targets and cells lie one behind the other.
use mathlib.Core.Path.{◌≡◌}
use Prim.Native.Nat.{◌+◌, ◌*◌}
use native.Mathlib.Omega.{arith}
use Rattle.format.specs.Layout.{width}
use Rattle.format.specs.Kind.{body}
use Rattle.readout.proofs.Lists.{laid_on}
use Rattle.readout.proofs.Records.{settings-at, few-cells}
use Rattle.readout.proofs.put_settings.Goals as goal

pub put_values-q-requires : goal.put_values-q-requires
unfolding width body
put_values-q-requires c = omega arith

pub put_cells-requires : goal.put_cells-requires
unfolding width body
put_cells-requires c = (omega (arith, c.target_place-cells.ensures), c.requires.0, c.requires.1, omega arith)

pub returns : goal.returns
unfolding width body
returns c =
    let s = c.args in
    let f = few-cells s.i s.t c.requires.0 c.requires.1 in
    let a : c.initiator_place-initiators.result ≡ 32 = omega (arith, c.initiator_place-initiators.ensures) in
    let b : c.target_place-targets.result ≡ 32 + 4 * s.i = omega (arith, c.target_place-targets.ensures) in
    let d : c.target_place-cells.result ≡ 32 + 4 * s.i + 4 * s.t = omega (arith, c.target_place-cells.ensures) in
    let A = rw a at c.put_values-p.ensures.0 in
    let B = rw b at c.put_values-q.ensures.0 in
    let C = rw d at c.put_cells.ensures.0 in
    (λ g. rw (settings-at g _ _ _ _ _ _ _ c.initiator_kind-initiator.ensures c.target_kind-target.ensures) (laid_on A (laid_on B C)), omega arith)
