-- `put_matrix` meets its contract: its node is the call of its fields, and behind it are those of its list.
use mathlib.Core.Path.{refl}
use Prim.Native.Nat.{◌≤◌}
use native.Mathlib.Omega.{arith}
use Rattle.format.specs.Layout.{width}
use Rattle.format.specs.Form.{byte, narrowest}
use Rattle.format.specs.Kind.{body}
use Rattle.hmat.specs.Hmat.{matrix_call}
use Rattle.readout.proofs.Lists.{put-laid, laid_on}
use Rattle.readout.proofs.Records.{matrix-counts, matrix-calls, matrix-short}
use Rattle.readout.proofs.put_matrix.Goals as goal

pub overflow_add-p : goal.overflow_add-p
overflow_add-p c =
    let m = c.get-node.result in
    let l : c.put_body.result ≤ 16 = rw c.put_body.ensures.value (matrix-short (narrowest m.initiators m.targets) (matrix_call m)) in
    omega arith

pub put_settings-requires : goal.put_settings-requires
put_settings-requires c =
    let m = c.get-node.result in
    let l : c.put_body.result ≤ 16 = rw c.put_body.ensures.value (matrix-short (narrowest m.initiators m.targets) (matrix_call m)) in
    let (i, t) = matrix-counts c.args.body.now m (c.get-node.ensures byte) in
    (omega (arith, i, c.requires.0), omega (arith, t, c.requires.1), omega arith)

pub returns : goal.returns
unfolding width body
returns c =
    let m = c.get-node.result in
    let l : c.put_body.result ≤ 16 = rw c.put_body.ensures.value (matrix-short (narrowest m.initiators m.targets) (matrix_call m)) in
    (λ h. rw (matrix-calls h c.args.body.now m _ (c.get-node.ensures byte) c.width.ensures) (laid_on (put-laid c.put_body.ensures.out_after c.put_body.ensures.value refl) (c.put_settings.ensures.0 h)), omega arith)
