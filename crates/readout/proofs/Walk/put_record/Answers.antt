-- `put_record` meets its contract, row by row.
use mathlib.Core.Path.{◌≡◌, refl}
use mathlib.Core.Option.{some}
use native.Mathlib.Omega.{arith}
use borrow.Author.Rules.{rules}
use Rattle.format.specs.Form.{memory, rintc, domain, layout}
use Rattle.format.specs.Row.{processors, caches, initiators, matrices, bridges, form_in}
use Rattle.format.specs.Normal.{calls}
use Rattle.hmat.specs.Widths.{meant_width}
use Rattle.rows.specs.Rows.{meant_row}
use Rattle.read.proofs.Refs.{plain_row}
use Rattle.readout.specs.Places.{calls_in}
use Rattle.readout.proofs.Lists.{none-laid}
use Rattle.readout.proofs.Records.{node-short, node-laid, initiator-one}
use Rattle.readout.proofs.Walk.put_record.Goals as goal

pub put_processor-requires : goal.put_processor-requires
put_processor-requires g c =
    let e : some (meant_row c.args.row) ≡ some processors = rw c.in-Processors.is in
    (omega arith, (c.requires.0.headed e, c.requires.0.short, c.requires.1))

pub put_cache-requires : goal.put_cache-requires
put_cache-requires g c =
    let e : some (meant_row c.args.row) ≡ some caches = rw c.in-Caches.is in
    (omega arith, (c.requires.0.whole e, c.requires.1))

pub overflow_add-result : goal.overflow_add-result
overflow_add-result g c =
    let l = node-short memory _ _ c.get.ensures refl in
    omega (arith, l, c.put_body.ensures.value)

pub overflow_add-result-in-Initiators : goal.overflow_add-result-in-Initiators
overflow_add-result-in-Initiators g c =
    let l = node-short (form_in initiators _) _ _ c.get-in-Initiators.ensures (initiator-one _) in
    omega (arith, l, c.put_body-in-Initiators.ensures.value)

pub overflow_add-result-in-Rintcs : goal.overflow_add-result-in-Rintcs
overflow_add-result-in-Rintcs g c =
    let l = node-short rintc _ _ c.get-in-Rintcs.ensures refl in
    omega (arith, l, c.put_body-in-Rintcs.ensures.value)

pub overflow_add-result-in-Domains : goal.overflow_add-result-in-Domains
overflow_add-result-in-Domains g c =
    let l = node-short domain _ _ c.get-in-Domains.ensures refl in
    omega (arith, l, c.put_body-in-Domains.ensures.value)

pub put_matrix-requires : goal.put_matrix-requires
put_matrix-requires g c =
    let w = c.in-Matrices.field-0 in
    let i = c.in-Matrices.is in
    let e : some (meant_row c.args.row) ≡ some (matrices (meant_width w)) = rw i in
    (c.requires.0.initiators (meant_width w) e, c.requires.0.targets (meant_width w) e, search rules)

pub overflow_add-result-in-Bridges : goal.overflow_add-result-in-Bridges
unfolding form_in
overflow_add-result-in-Bridges g c =
    let l = node-short (form_in bridges _) _ _ c.get-in-Bridges.ensures refl in
    omega (arith, l, c.put_body-in-Bridges.ensures.value)

pub returns-in-Processors : goal.returns-in-Processors
unfolding form_in
returns-in-Processors g c = rw c.in-Processors.is (c.put_processor.ensures.0, omega arith)

pub returns-in-Caches : goal.returns-in-Caches
unfolding form_in
returns-in-Caches g c = rw c.in-Caches.is (c.put_cache.ensures.0, omega arith)

pub returns-in-Memories : goal.returns-in-Memories
unfolding form_in layout
returns-in-Memories g c =
    let l = node-short memory _ _ c.get.ensures refl in
    rw c.in-Memories.is (node-laid memory _ _ c.get.ensures _ _ _ _ _ _ tt c.put_body.ensures.out_after c.put_body.ensures.value refl, omega (arith, l, c.put_body.ensures.value))

pub returns-in-Initiators : goal.returns-in-Initiators
returns-in-Initiators g c =
    let l = node-short (form_in initiators _) _ _ c.get-in-Initiators.ensures (initiator-one _) in
    rw c.in-Initiators.is (node-laid (form_in initiators _) _ _ c.get-in-Initiators.ensures _ _ _ _ _ _ (plain_row initiators _ tt) c.put_body-in-Initiators.ensures.out_after c.put_body-in-Initiators.ensures.value refl, omega (arith, l, c.put_body-in-Initiators.ensures.value))

pub returns-in-Rintcs : goal.returns-in-Rintcs
unfolding form_in layout
returns-in-Rintcs g c =
    let l = node-short rintc _ _ c.get-in-Rintcs.ensures refl in
    rw c.in-Rintcs.is (node-laid rintc _ _ c.get-in-Rintcs.ensures _ _ _ _ _ _ tt c.put_body-in-Rintcs.ensures.out_after c.put_body-in-Rintcs.ensures.value refl, omega (arith, l, c.put_body-in-Rintcs.ensures.value))

pub returns-in-Domains : goal.returns-in-Domains
unfolding form_in layout
returns-in-Domains g c =
    let l = node-short domain _ _ c.get-in-Domains.ensures refl in
    rw c.in-Domains.is (node-laid domain _ _ c.get-in-Domains.ensures _ _ _ _ _ _ tt c.put_body-in-Domains.ensures.out_after c.put_body-in-Domains.ensures.value refl, omega (arith, l, c.put_body-in-Domains.ensures.value))

pub returns-in-Matrices : goal.returns-in-Matrices
unfolding form_in
returns-in-Matrices g c = rw c.in-Matrices.is (c.put_matrix.ensures.0 _, omega arith)

pub returns-in-Sides : goal.returns-in-Sides
unfolding form_in
returns-in-Sides g c = rw c.in-Sides.is (c.put_side.ensures.0 _, omega arith)

pub returns-in-Bridges : goal.returns-in-Bridges
unfolding form_in
returns-in-Bridges g c =
    let l = node-short (form_in bridges _) _ _ c.get-in-Bridges.ensures refl in
    rw c.in-Bridges.is (node-laid (form_in bridges _) _ _ c.get-in-Bridges.ensures _ _ _ _ _ _ (plain_row bridges _ tt) c.put_body-in-Bridges.ensures.out_after c.put_body-in-Bridges.ensures.value refl, omega (arith, l, c.put_body-in-Bridges.ensures.value))

pub returns-in-Windows : goal.returns-in-Windows
unfolding form_in
returns-in-Windows g c = rw c.in-Windows.is (c.put_window.ensures.0 _, omega arith)

pub returns-in-Xors : goal.returns-in-Xors
unfolding form_in
returns-in-Xors g c = rw c.in-Xors.is (c.put_maths.ensures.0 _, omega arith)

pub returns-in-OldRintcs : goal.returns-in-OldRintcs
unfolding form_in calls_in calls
returns-in-OldRintcs g c = rw c.in-OldRintcs.is (none-laid _ _, omega arith)
