-- `put` meets its contract: kind by kind, what the called function writes of a window of the body is the record of the format.
use mathlib.Core.Path.{ap, ◌∙◌}
use Prim.Native.Nat.{ℕ, ◌%◌}
use mathlib.Core.List.{List}
use Rattle.format.specs.Bytes.{at, le, over}
use Rattle.format.specs.Form.{byte, pair, processor, cache, memory, acpi, pci, rintc, domain, side, bridge, window, xor, registers, ways}
use Rattle.format.specs.Node.{node}
use Rattle.format.specs.Layout.{width, fields}
use Rattle.format.specs.Kind.{Processor, Cache, Memory, Acpi, Pci, Rintc, Domain, Matrix, Initiator, Cell, Side, Handle, Bridge, Window, WindowTarget, Xor, Map, body}
use Rattle.hmat.specs.Hmat as hmat
use Rattle.cedt.specs.Cedt as cedt
use Rattle.writes.specs.Writes.{fields_in, target_at, wrote}
use Rattle.writes.proofs.Plains.{plain-appended, processor-appended, cache-appended, matrix-appended, side-appended, maths-appended}
use Rattle.writes.proofs.Windows.{fields-window, node-window}
use Rattle.writes.proofs.put.Goals as goal

pub returns-in-Processor : goal.returns-in-Processor
unfolding wrote width body
returns-in-Processor c =
    let e = node-window Processor c.args.bytes.now _ c.first.ensures (processor 0) _ c.from_body.ensures in
    rw c.in-Processor.is (c.put.ensures ∙ processor-appended _ _ _ _ _ _ e c.named.ensures)

pub returns-in-Resource : goal.returns-in-Resource
unfolding wrote
returns-in-Resource c =
    rw c.in-Resource.is c.add_cache.ensures

pub returns-in-Cache : goal.returns-in-Cache
unfolding wrote width body
returns-in-Cache c =
    let e = node-window Cache c.args.bytes.now _ c.first-in-Cache.ensures cache _ c.from_body-in-Cache.ensures in
    rw c.in-Cache.is (c.put-in-Cache.ensures ∙ cache-appended _ _ _ _ _ _ e c.named-in-Cache.ensures)

pub returns-in-Memory : goal.returns-in-Memory
unfolding wrote width body
returns-in-Memory c =
    rw c.in-Memory.is (c.put-in-Memory.ensures ∙ plain-appended memory _ _ _ _ (node-window Memory c.args.bytes.now _ c.first-in-Memory.ensures memory _ c.from_body-in-Memory.ensures))

pub returns-in-Acpi : goal.returns-in-Acpi
unfolding wrote width body
returns-in-Acpi c =
    rw c.in-Acpi.is (c.put-in-Acpi.ensures ∙ plain-appended acpi _ _ _ _ (node-window Acpi c.args.bytes.now _ c.first-in-Acpi.ensures acpi _ c.from_acpi_body.ensures))

pub returns-in-Pci : goal.returns-in-Pci
unfolding wrote width body
returns-in-Pci c =
    rw c.in-Pci.is (c.put-in-Pci.ensures ∙ plain-appended pci _ _ _ _ (node-window Pci c.args.bytes.now _ c.first-in-Pci.ensures pci _ c.from_pci_body.ensures))

pub returns-in-Rintc : goal.returns-in-Rintc
unfolding wrote width body
returns-in-Rintc c =
    rw c.in-Rintc.is (c.put-in-Rintc.ensures ∙ plain-appended rintc _ _ _ _ (node-window Rintc c.args.bytes.now _ c.first-in-Rintc.ensures rintc _ c.from_body-in-Rintc.ensures))

pub returns-in-Domain : goal.returns-in-Domain
unfolding wrote width body
returns-in-Domain c =
    rw c.in-Domain.is (c.put-in-Domain.ensures ∙ plain-appended domain _ _ _ _ (node-window Domain c.args.bytes.now _ c.first-in-Domain.ensures domain _ c.from_body-in-Domain.ensures))

pub returns-in-Matrix : goal.returns-in-Matrix
unfolding wrote width body
returns-in-Matrix c =
    rw c.in-Matrix.is (c.put-in-Matrix.ensures ∙ matrix-appended _ _ _ _ (fields-window (Matrix byte) c.args.bytes.now _ c.first-in-Matrix.ensures _ c.from_body-in-Matrix.ensures))

pub returns-in-Initiator : goal.returns-in-Initiator
unfolding wrote width body
returns-in-Initiator c =
    let a = c.args in
    rw c.in-Initiator.is (c.set_value.ensures ∙ ap (λ (l : List ℕ). over a.out.now a.from (le 4 (at (fields (body (Initiator byte)) l) 1))) c.first-in-Initiator.ensures)

pub returns-in-Target : goal.returns-in-Target
unfolding wrote width body
returns-in-Target c =
    let a = c.args in
    rw c.in-Target.is (c.set_value-in-Target.ensures ∙ ap (λ (l : List ℕ). over a.out.now a.from (le 4 (at (fields (body (Initiator byte)) l) 1))) c.first-in-Target.ensures)

pub returns-in-Cell : goal.returns-in-Cell
unfolding wrote width body
returns-in-Cell c =
    let a = c.args in
    rw c.in-Cell.is (c.set_cell.ensures ∙ ap (λ (l : List ℕ). over a.out.now a.from (le 2 (at (fields (body (Cell byte)) l) 2))) c.first-in-Cell.ensures)

pub returns-in-Side : goal.returns-in-Side
unfolding wrote width body
returns-in-Side c =
    rw c.in-Side.is (c.put-in-Side.ensures ∙ side-appended _ _ _ _ (node-window Side c.args.bytes.now _ c.first-in-Side.ensures (side 0) _ c.from_body-in-Side.ensures))

pub returns-in-Handle : goal.returns-in-Handle
unfolding wrote width body
returns-in-Handle c =
    let a = c.args in
    let e = fields-window Handle a.bytes.now _ c.first-in-Handle.ensures _ c.from_body-in-Handle.ensures in
    rw c.in-Handle.is (c.grow.ensures ∙ ap (λ (vs : List ℕ). hmat.grown a.out.now a.s.latest.place (a.s.latest.count % 65536) (at vs 0)) e)

pub returns-in-Bridge : goal.returns-in-Bridge
unfolding wrote width body
returns-in-Bridge c =
    let bs = c.args.bytes.now in
    let f = fields-window Bridge bs _ c.first-in-Bridge.ensures _ c.from_body-in-Bridge.ensures in
    rw c.in-Bridge.is (c.put-in-Bridge.ensures ∙ plain-appended (bridge (registers (at (fields_in Bridge bs) 1))) _ _ _ _ (ap (λ (vs : List ℕ). node (bridge (registers (at vs 1))) vs) f))

pub returns-in-Window : goal.returns-in-Window
unfolding wrote width body
returns-in-Window c =
    let bs = c.args.bytes.now in
    let f = fields-window Window bs _ c.first-in-Window.ensures _ c.from_body-in-Window.ensures in
    rw c.in-Window.is (c.put-in-Window.ensures ∙ plain-appended (window (ways (at (fields_in Window bs) 2))) _ _ _ _ (ap (λ (vs : List ℕ). node (window (ways (at vs 2))) vs) f))

pub returns-in-WindowTarget : goal.returns-in-WindowTarget
unfolding wrote width body
returns-in-WindowTarget c =
    let a = c.args in
    let e = fields-window WindowTarget a.bytes.now _ c.first-in-WindowTarget.ensures _ c.from_body-in-WindowTarget.ensures in
    rw c.in-WindowTarget.is (c.add_target.ensures ∙ ap (λ (vs : List ℕ). over a.out.now (target_at a.s) (le 4 (at vs 0))) e)

pub returns-in-Xor : goal.returns-in-Xor
unfolding wrote width body
returns-in-Xor c =
    rw c.in-Xor.is (c.put-in-Xor.ensures ∙ maths-appended _ _ _ _ (node-window Xor c.args.bytes.now _ c.first-in-Xor.ensures (xor 0) _ c.from_body-in-Xor.ensures))

pub returns-in-Map : goal.returns-in-Map
unfolding wrote width body
returns-in-Map c =
    let a = c.args in
    let e = fields-window Map a.bytes.now _ c.first-in-Map.ensures _ c.from_body-in-Map.ensures in
    rw c.in-Map.is (c.add_xormap.ensures ∙ ap (λ (vs : List ℕ). cedt.grown a.out.now a.s.latest.place (a.s.latest.count % 65536) (at vs 0)) e)

pub returns-in-WideMatrix : goal.returns-in-WideMatrix
unfolding wrote width body
returns-in-WideMatrix c =
    rw c.in-WideMatrix.is (c.put-in-WideMatrix.ensures ∙ matrix-appended _ _ _ _ (fields-window (Matrix pair) c.args.bytes.now _ c.first-in-WideMatrix.ensures _ c.from_body-in-WideMatrix.ensures))

pub returns-in-WideInitiator : goal.returns-in-WideInitiator
unfolding wrote width body
returns-in-WideInitiator c =
    let a = c.args in
    rw c.in-WideInitiator.is (c.set_value-in-WideInitiator.ensures ∙ ap (λ (l : List ℕ). over a.out.now a.from (le 4 (at (fields (body (Initiator pair)) l) 1))) c.first-in-WideInitiator.ensures)

pub returns-in-WideTarget : goal.returns-in-WideTarget
unfolding wrote width body
returns-in-WideTarget c =
    let a = c.args in
    rw c.in-WideTarget.is (c.set_value-in-WideTarget.ensures ∙ ap (λ (l : List ℕ). over a.out.now a.from (le 4 (at (fields (body (Initiator pair)) l) 1))) c.first-in-WideTarget.ensures)

pub returns-in-WideCell : goal.returns-in-WideCell
unfolding wrote width body
returns-in-WideCell c =
    let a = c.args in
    rw c.in-WideCell.is (c.set_cell-in-WideCell.ensures ∙ ap (λ (l : List ℕ). over a.out.now a.from (le 2 (at (fields (body (Cell pair)) l) 2))) c.first-in-WideCell.ensures)
