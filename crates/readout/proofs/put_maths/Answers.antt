-- `put_maths` meets its contract: its node is the call of its fields, and behind it are those of its list.
use mathlib.Core.Path.{◌≡◌, refl, ◌∙◌}
use Prim.Native.Nat.{◌≤◌}
use native.Mathlib.Omega.{arith}
use Rattle.format.specs.Layout.{width}
use Rattle.format.specs.Kind.{Xor, body}
use Rattle.laws.proofs.Fields.{length-call}
use Rattle.readout.proofs.Lists.{put-laid, laid_on}
use Rattle.readout.proofs.Records.{maths-calls}
use Rattle.readout.proofs.put_maths.Goals as goal

pub overflow_add-p : goal.overflow_add-p
unfolding body width
overflow_add-p c =
    let z : c.put_body.result ≡ 2 = c.put_body.ensures.value ∙ length-call Xor _ in
    omega arith

pub put_maps-requires : goal.put_maps-requires
unfolding body width
put_maps-requires c =
    let z : c.put_body.result ≡ 2 = c.put_body.ensures.value ∙ length-call Xor _ in
    (omega arith, omega arith)

pub returns : goal.returns
unfolding body width
returns c =
    let b = c.args.body.now in
    let u : c.get-node.result.xormaps ≤ 255 = omega (arith, c.get-node.type_inv) in
    let z : c.put_body.result ≡ 2 = c.put_body.ensures.value ∙ length-call Xor _ in
    (λ h. rw (maths-calls h b c.get-node.result c.get-node.ensures) (laid_on (put-laid c.put_body.ensures.out_after c.put_body.ensures.value refl) c.put_maps.ensures.0), omega arith)
