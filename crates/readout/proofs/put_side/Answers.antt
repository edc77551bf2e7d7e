-- `put_side` meets its contract: its node is the call of its fields, and behind it are those of its list.
use mathlib.Core.Path.{◌≡◌, refl, ◌∙◌}
use Prim.Native.Nat.{◌≤◌}
use native.Mathlib.Omega.{arith}
use Rattle.format.specs.Layout.{width}
use Rattle.format.specs.Kind.{Side, body}
use Rattle.laws.proofs.Fields.{length-call}
use Rattle.readout.proofs.Lists.{put-laid, laid_on}
use Rattle.readout.proofs.Records.{side-calls}
use Rattle.readout.proofs.put_side.Goals as goal

pub overflow_add-p : goal.overflow_add-p
unfolding body width
overflow_add-p c =
    let z : c.put_body.result ≡ 17 = c.put_body.ensures.value ∙ length-call Side _ in
    omega arith

pub put_handles-requires : goal.put_handles-requires
unfolding body width
put_handles-requires c =
    let z : c.put_body.result ≡ 17 = c.put_body.ensures.value ∙ length-call Side _ in
    (omega arith, omega arith)

pub returns : goal.returns
unfolding body width
returns c =
    let b = c.args.body.now in
    let u : c.get-node.result.smbios_handles ≤ 65535 = omega (arith, c.get-node.type_inv) in
    let z : c.put_body.result ≡ 17 = c.put_body.ensures.value ∙ length-call Side _ in
    (λ h. rw (side-calls h b c.get-node.result c.get-node.ensures) (laid_on (put-laid c.put_body.ensures.out_after c.put_body.ensures.value refl) c.put_handles.ensures.0), omega arith)
