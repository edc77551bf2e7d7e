-- `put_window` meets its contract: its node is the call of its fields, and behind it are those of its list.
use mathlib.Core.Path.{◌≡◌, refl, ◌∙◌}
use native.Mathlib.Omega.{arith}
use Rattle.format.specs.Layout.{width}
use Rattle.format.specs.Kind.{Window, body}
use Rattle.laws.proofs.Fields.{length-call}
use Rattle.readout.proofs.Lists.{put-laid, laid_on}
use Rattle.readout.proofs.Records.{window-calls}
use Rattle.readout.proofs.put_window.Goals as goal

pub overflow_add-p : goal.overflow_add-p
unfolding body width
overflow_add-p c =
    let z : c.put_body.result ≡ 23 = c.put_body.ensures.value ∙ length-call Window _ in
    omega arith

pub put_targets-requires : goal.put_targets-requires
unfolding body width
put_targets-requires c =
    let z : c.put_body.result ≡ 23 = c.put_body.ensures.value ∙ length-call Window _ in
    (omega arith, omega arith)

pub returns : goal.returns
unfolding body width
returns c =
    let b = c.args.body.now in
    let z : c.put_body.result ≡ 23 = c.put_body.ensures.value ∙ length-call Window _ in
    (λ h. rw (window-calls h b c.get-node.result c.get-node.ensures, ← c.num_interleaved_ways.ensures) (laid_on (put-laid c.put_body.ensures.out_after c.put_body.ensures.value refl) c.put_targets.ensures.0), omega arith)
