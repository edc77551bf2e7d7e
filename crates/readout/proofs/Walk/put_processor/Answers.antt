-- `put_processor` meets its contract: its node, which stands in its first 20 bytes, is under the ordinal of its parent the call of its fields, and behind it are those of its list.
use mathlib.Core.Path.{◌≡◌, sym, ◌∙◌}
use Prim.Native.Nat.{◌-◌, ◌/◌, ◌≤◌}
use native.Mathlib.Omega.{arith}
use lib.ListN.{length}
use lib.Seq.{length-take-le}
use Rattle.format.specs.Layout.{width}
use Rattle.format.specs.Table.{limit}
use Rattle.format.specs.Form.{layout}
use Rattle.format.specs.Row.{form_in}
use Rattle.format.specs.Kind.{Processor, body}
use Rattle.format.specs.Normal.{calls}
use Rattle.laws.proofs.Fields.{length-call}
use Rattle.header.specs.Header.{meant}
use Rattle.pptt.proofs.Processors.{shown-window}
use Rattle.readout.specs.Places.{ordinal_at}
use Rattle.readout.proofs.Lists.{put-laid, laid_on}
use Rattle.readout.proofs.Records.{calls_at, processor-named}
use Rattle.readout.proofs.Walk.put_processor.Goals as goal

pub slice_bounds-get-end : goal.slice_bounds-get-end
slice_bounds-get-end g c =
    sym (length-take-le 20 c.args.body.now c.requires.0)

pub overflow_add-p : goal.overflow_add-p
unfolding body width
overflow_add-p g c =
    let z : c.put_body.result ≡ 13 = c.put_body.ensures.value ∙ length-call Processor _ in
    omega (arith, c.requires.2)

pub put_resources-requires : goal.put_resources-requires
unfolding body width
put_resources-requires g c =
    let z : c.put_body.result ≡ 13 = c.put_body.ensures.value ∙ length-call Processor _ in
    let l : length c.args.body.now ≤ limit = c.requires.1 in
    let k : c.resources_in-n.result ≡ (length c.args.body.now - 20) / 4 = c.resources_in-n.ensures in
    (omega arith, omega (arith, c.requires.2))

pub returns : goal.returns
unfolding calls layout form_in body width
returns g c =
    let b = c.args.body.now in
    let z : c.put_body.result ≡ 13 = c.put_body.ensures.value ∙ length-call Processor _ in
    let l : length b ≤ limit = c.requires.1 in
    let k : c.resources_in-n.result ≡ (length b - 20) / 4 = c.resources_in-n.ensures in
    let w = rw c.named.ensures at c.put_body.ensures.out_after in
    let j = rw c.named.ensures at c.put_body.ensures.value in
    let v = c.args.self.now in
    let f = ordinal_at (meant v.t) v.c.now v.own in
    (rw (calls_at, ← c.resources_in-n.ensures) (laid_on (put-laid w j (processor-named f b c.get-node.result (record { 0 = c.ordinal.result }) c.resources_in-n.result (c.get-node.ensures ∙ shown-window b) c.ordinal.ensures)) c.put_resources.ensures.0), omega arith)
