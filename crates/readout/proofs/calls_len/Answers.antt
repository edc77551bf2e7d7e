-- `calls_len` meets its contract, row by row: a call is as long as its kind, whatever its references are.
use mathlib.Core.Path.{◌≡◌, refl}
use Prim.Native.Nat.{ℕ, ◌-◌, ◌*◌, ◌/◌, ◌≤◌}
use mathlib.Core.Option.{some}
use native.Mathlib.Omega.{arith}
use Rattle.format.specs.Layout.{width}
use Rattle.format.specs.Table.{limit}
use Rattle.format.specs.Form.{cache, memory, rintc, domain}
use Rattle.format.specs.Row.{initiators, matrices, bridges, form_in}
use Rattle.format.specs.Kind.{Cache, Memory, Rintc, Domain, Bridge, body}
use Rattle.format.specs.Normal.{calls}
use Rattle.laws.proofs.Fields.{length-call}
use Rattle.hmat.specs.Widths.{meant_width}
use Rattle.rows.specs.Rows.{meant_row}
use Rattle.read.proofs.Refs.{plain_row}
use Rattle.readout.specs.Places.{calls_in}
use Rattle.readout.proofs.Records.{calls_at, length-processor, node-short, node-length, initiator-one}
use Rattle.readout.proofs.calls_len.Goals as goal

-- the resources of a processor are few
few : (r n : ℕ) → n ≤ limit → r ≡ (n - 20) / 4 → 4 * r ≤ limit
few r n l e = omega arith

pub overflow_mul-result : goal.overflow_mul-result
overflow_mul-result c = omega (arith, few _ _ c.requires.short c.resources_in.ensures)

pub overflow_add-result-in-Processors-2 : goal.overflow_add-result-in-Processors-2
overflow_add-result-in-Processors-2 c = omega (arith, few _ _ c.requires.short c.resources_in.ensures)

pub put_matrix-requires : goal.put_matrix-requires
put_matrix-requires c =
    let w = c.in-Matrices.field-0 in
    let i = c.in-Matrices.is in
    let e : some (meant_row c.args.row) ≡ some (matrices (meant_width w)) = rw i in
    (c.requires.initiators (meant_width w) e, c.requires.targets (meant_width w) e, omega arith)

pub returns-in-Processors : goal.returns-in-Processors
unfolding form_in
returns-in-Processors c =
    let l = few _ _ c.requires.short c.resources_in.ensures in
    rw (c.in-Processors.is, ← c.resources_in.ensures) (λ g. rw (length-processor g), omega (arith, l))

pub returns-in-Caches : goal.returns-in-Caches
unfolding form_in calls body width
returns-in-Caches c = rw c.in-Caches.is (λ g. rw (calls_at g cache, length-call Cache), omega arith)

pub returns-in-Memories : goal.returns-in-Memories
unfolding form_in calls body width
returns-in-Memories c = rw c.in-Memories.is (λ g. rw (calls_at g memory, length-call Memory), omega arith)

pub returns-in-Initiators : goal.returns-in-Initiators
returns-in-Initiators c =
    let l = node-short (form_in initiators _) _ _ c.get.ensures (initiator-one _) in
    rw c.in-Initiators.is (λ h. node-length (form_in initiators _) _ _ c.get.ensures h _ (plain_row initiators _ tt) c.put_body.ensures.value, omega (arith, l, c.put_body.ensures.value))

pub returns-in-Rintcs : goal.returns-in-Rintcs
unfolding form_in calls body width
returns-in-Rintcs c = rw c.in-Rintcs.is (λ g. rw (calls_at g rintc, length-call Rintc), omega arith)

pub returns-in-Domains : goal.returns-in-Domains
unfolding form_in calls body width
returns-in-Domains c = rw c.in-Domains.is (λ g. rw (calls_at g domain, length-call Domain), omega arith)

pub returns-in-Matrices : goal.returns-in-Matrices
unfolding form_in
returns-in-Matrices c = rw c.in-Matrices.is (λ g. omega (arith, (c.put_matrix.ensures.0 g).next), omega (arith, c.put_matrix.ensures.1))

pub returns-in-Sides : goal.returns-in-Sides
returns-in-Sides c = rw c.in-Sides.is (λ g. omega (arith, (c.put_side.ensures.0 g).next), omega (arith, c.put_side.ensures.1))

pub returns-in-Bridges : goal.returns-in-Bridges
unfolding form_in calls body width
returns-in-Bridges c = rw c.in-Bridges.is (λ g. rw (calls_at g (form_in bridges _), length-call Bridge), omega arith)

pub returns-in-Windows : goal.returns-in-Windows
returns-in-Windows c = rw c.in-Windows.is (λ g. omega (arith, (c.put_window.ensures.0 g).next), omega (arith, c.put_window.ensures.1))

pub returns-in-Xors : goal.returns-in-Xors
returns-in-Xors c = rw c.in-Xors.is (λ g. omega (arith, (c.put_maths.ensures.0 g).next), omega (arith, c.put_maths.ensures.1))

pub returns-in-OldRintcs : goal.returns-in-OldRintcs
unfolding form_in calls_in calls
returns-in-OldRintcs c = rw c.in-OldRintcs.is (λ g. refl, omega arith)
