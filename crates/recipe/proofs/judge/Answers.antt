-- `judge` meets its contract: each kind by the function that is its own, on a window that is its body.
use mathlib.Core.Path.{◌≡◌, refl, sym, ap, ◌∙◌}
use Prim.Native.Nat.{ℕ, ◌≤◌}
use mathlib.Core.List.{List}
use lib.ListN.{length, take}
use lib.Seq.{length-take-le}
use Rattle.format.specs.Layout.{width, fields, refs_good}
use Rattle.format.specs.Bytes.{at}
use Rattle.format.specs.Form.{byte, pair, memory, acpi, pci, rintc, domain, side, bridge, xor, registers, ranges}
use Rattle.format.specs.Node.{node}
use Rattle.format.specs.Kind.{body}
use Rattle.format.specs.Kind as format
use Rattle.format.specs.Recipe.{step}
use Rattle.format.specs.Field.{first_bad, bad_field}
use Rattle.field.specs.Place.{place_or_none}
use Rattle.recipe.specs.declared.Kind.{Kind}
use Rattle.recipe.specs.declared.Kind.TheVariants.{Processor, Resource, Cache, Memory, Acpi, Pci, Rintc, Matrix, Initiator, Target, Cell, Side, Bridge, Window, Xor, WideMatrix, WideInitiator, WideTarget, WideCell}
use Rattle.recipe.specs.Kinds.{meant_kind}
use Rattle.recipe.proofs.Steps.{turn-window, plain_turn}
use Rattle.recipe.proofs.judge.Goals as goal

-- the window is there
there : (kind k : Kind) → kind ≡ k → (bs : List ℕ) → width (body (meant_kind kind)) ≤ length bs → width (body (meant_kind k)) ≡ length (take (width (body (meant_kind k))) bs)
there kind k e bs h = sym (length-take-le (width (body (meant_kind k))) bs (rw e at h))

pub slice_bounds-processor-end : goal.slice_bounds-processor-end
unfolding body width step refs_good
slice_bounds-processor-end c = there _ Processor c.in-Processor.is c.args.bytes.now c.requires

pub slice_bounds-resource-end : goal.slice_bounds-resource-end
unfolding body width step refs_good
slice_bounds-resource-end c = there _ Resource c.in-Resource.is c.args.bytes.now c.requires

pub slice_bounds-cache-end : goal.slice_bounds-cache-end
unfolding body width step refs_good
slice_bounds-cache-end c = there _ Cache c.in-Cache.is c.args.bytes.now c.requires

pub slice_bounds-from_body-end : goal.slice_bounds-from_body-end
unfolding body width step refs_good
slice_bounds-from_body-end c = there _ Memory c.in-Memory.is c.args.bytes.now c.requires

pub slice_bounds-from_acpi_body-end : goal.slice_bounds-from_acpi_body-end
unfolding body width step refs_good
slice_bounds-from_acpi_body-end c = there _ Acpi c.in-Acpi.is c.args.bytes.now c.requires

pub slice_bounds-from_pci_body-end : goal.slice_bounds-from_pci_body-end
unfolding body width step refs_good
slice_bounds-from_pci_body-end c = there _ Pci c.in-Pci.is c.args.bytes.now c.requires

pub slice_bounds-from_body-end-in-Rintc : goal.slice_bounds-from_body-end-in-Rintc
unfolding body width step refs_good
slice_bounds-from_body-end-in-Rintc c = there _ Rintc c.in-Rintc.is c.args.bytes.now c.requires

pub slice_bounds-matrix-end : goal.slice_bounds-matrix-end
unfolding body width step refs_good
slice_bounds-matrix-end c = there _ Matrix c.in-Matrix.is c.args.bytes.now c.requires

pub slice_bounds-initiator-end : goal.slice_bounds-initiator-end
unfolding body width step refs_good
slice_bounds-initiator-end c = there _ Initiator c.in-Initiator.is c.args.bytes.now c.requires

pub slice_bounds-target-end : goal.slice_bounds-target-end
unfolding body width step refs_good
slice_bounds-target-end c = there _ Target c.in-Target.is c.args.bytes.now c.requires

pub slice_bounds-cell-end : goal.slice_bounds-cell-end
unfolding body width step refs_good
slice_bounds-cell-end c = there _ Cell c.in-Cell.is c.args.bytes.now c.requires

pub slice_bounds-from_body-end-in-Side : goal.slice_bounds-from_body-end-in-Side
unfolding body width step refs_good
slice_bounds-from_body-end-in-Side c = there _ Side c.in-Side.is c.args.bytes.now c.requires

pub slice_bounds-from_body-end-in-Bridge : goal.slice_bounds-from_body-end-in-Bridge
unfolding body width step refs_good
slice_bounds-from_body-end-in-Bridge c = there _ Bridge c.in-Bridge.is c.args.bytes.now c.requires

pub slice_bounds-window-end : goal.slice_bounds-window-end
unfolding body width step refs_good
slice_bounds-window-end c = there _ Window c.in-Window.is c.args.bytes.now c.requires

pub slice_bounds-from_body-end-in-Xor : goal.slice_bounds-from_body-end-in-Xor
unfolding body width step refs_good
slice_bounds-from_body-end-in-Xor c = there _ Xor c.in-Xor.is c.args.bytes.now c.requires

pub slice_bounds-matrix-end-in-WideMatrix : goal.slice_bounds-matrix-end-in-WideMatrix
unfolding body width step refs_good
slice_bounds-matrix-end-in-WideMatrix c = there _ WideMatrix c.in-WideMatrix.is c.args.bytes.now c.requires

pub slice_bounds-initiator-end-in-WideInitiator : goal.slice_bounds-initiator-end-in-WideInitiator
unfolding body width step refs_good
slice_bounds-initiator-end-in-WideInitiator c = there _ WideInitiator c.in-WideInitiator.is c.args.bytes.now c.requires

pub slice_bounds-target-end-in-WideTarget : goal.slice_bounds-target-end-in-WideTarget
unfolding body width step refs_good
slice_bounds-target-end-in-WideTarget c = there _ WideTarget c.in-WideTarget.is c.args.bytes.now c.requires

pub slice_bounds-cell-end-in-WideCell : goal.slice_bounds-cell-end-in-WideCell
unfolding body width step refs_good
slice_bounds-cell-end-in-WideCell c = there _ WideCell c.in-WideCell.is c.args.bytes.now c.requires

pub returns-in-Processor : goal.returns-in-Processor
unfolding body width step refs_good
returns-in-Processor c = rw c.in-Processor.is (λ t u ns p e b q w. c.processor.ensures t u ns p e b q w ∙ turn-window t u ns format.Processor _ p)

pub returns-in-Resource : goal.returns-in-Resource
unfolding body width step refs_good
returns-in-Resource c = rw c.in-Resource.is (λ t u ns p e b q w. c.resource.ensures t u ns p e b q w ∙ turn-window t u ns format.Resource _ p)

pub returns-in-Cache : goal.returns-in-Cache
unfolding body width step refs_good
returns-in-Cache c = rw c.in-Cache.is (λ t u ns p e b q w. c.cache.ensures t u ns p e b q w ∙ turn-window t u ns format.Cache _ p)

pub returns-in-Memory : goal.returns-in-Memory
unfolding body width step refs_good
returns-in-Memory c = rw c.in-Memory.is (λ t u ns p e b q w. c.made.ensures p ∙ plain_turn format.Memory memory _ _ refl refl (λ ms. refl) (λ ok vs. refl) t u ns p _ _ (c.bad_field.ensures ∙ ap (λ n. place_or_none (bad_field n)) c.from_body.ensures) e ∙ turn-window t u ns format.Memory _ p)

pub returns-in-Acpi : goal.returns-in-Acpi
unfolding body width step refs_good
returns-in-Acpi c = rw c.in-Acpi.is (λ t u ns p e b q w. c.made-in-Acpi.ensures p ∙ plain_turn format.Acpi acpi _ _ refl refl (λ ms. refl) (λ ok vs. refl) t u ns p _ _ (c.bad_field-in-Acpi.ensures ∙ ap (λ n. place_or_none (bad_field n)) c.from_acpi_body.ensures) e ∙ turn-window t u ns format.Acpi _ p)

pub returns-in-Pci : goal.returns-in-Pci
unfolding body width step refs_good
returns-in-Pci c = rw c.in-Pci.is (λ t u ns p e b q w. c.made-in-Pci.ensures p ∙ plain_turn format.Pci pci _ _ refl refl (λ ms. refl) (λ ok vs. refl) t u ns p _ _ (c.bad_field-in-Pci.ensures ∙ ap (λ n. place_or_none (bad_field n)) c.from_pci_body.ensures) e ∙ turn-window t u ns format.Pci _ p)

pub returns-in-Rintc : goal.returns-in-Rintc
unfolding body width step refs_good
returns-in-Rintc c = rw c.in-Rintc.is (λ t u ns p e b q w. c.made-in-Rintc.ensures p ∙ plain_turn format.Rintc rintc _ _ refl refl (λ ms. refl) (λ ok vs. refl) t u ns p _ _ (c.bad_field-in-Rintc.ensures ∙ ap (λ n. place_or_none (bad_field n)) c.from_body-in-Rintc.ensures) e ∙ turn-window t u ns format.Rintc _ p)

-- a domain has no field that is tested
pub returns-in-Domain : goal.returns-in-Domain
unfolding body step refs_good ranges first_bad bad_field
returns-in-Domain c = rw c.in-Domain.is (λ t u ns p e b q w. c.made-in-Domain.ensures p ∙ plain_turn format.Domain domain _ _ refl refl (λ ms. refl) (λ ok vs. refl) t u ns p _ _ refl e)

pub returns-in-Matrix : goal.returns-in-Matrix
unfolding body width step refs_good
returns-in-Matrix c = rw c.in-Matrix.is (λ t u ns p e b q w. c.matrix.ensures t u ns p e ∙ turn-window t u ns (format.Matrix byte) _ p)

pub returns-in-Initiator : goal.returns-in-Initiator
unfolding body width step refs_good
returns-in-Initiator c = rw c.in-Initiator.is (λ t u ns p e b q w. c.initiator.ensures t u ns p e ∙ turn-window t u ns (format.Initiator byte) _ p)

pub returns-in-Target : goal.returns-in-Target
unfolding body width step refs_good
returns-in-Target c = rw c.in-Target.is (λ t u ns p e b q w. c.target.ensures t u ns p e ∙ turn-window t u ns (format.Target byte) _ p)

pub returns-in-Cell : goal.returns-in-Cell
unfolding body width step refs_good
returns-in-Cell c = rw c.in-Cell.is (λ t u ns p e b q w. c.cell.ensures t u ns p e ∙ turn-window t u ns (format.Cell byte) _ p)

pub returns-in-Side : goal.returns-in-Side
unfolding body width step refs_good
returns-in-Side c = rw c.in-Side.is (λ t u ns p e b q w. c.made-in-Side.ensures p ∙ plain_turn format.Side (side 0) _ _ refl refl (λ ms. refl) (λ ok vs. refl) t u ns p _ _ (c.bad_field-in-Side.ensures ∙ ap (λ n. place_or_none (bad_field n)) c.from_body-in-Side.ensures) e ∙ turn-window t u ns format.Side _ p)

pub returns-in-Handle : goal.returns-in-Handle
unfolding body width step refs_good
returns-in-Handle c = rw c.in-Handle.is (λ t u ns p e b q w. c.handle.ensures _ t u ns p e)

-- a bridge's version settles its form
pub returns-in-Bridge : goal.returns-in-Bridge
unfolding body width step refs_good ranges
returns-in-Bridge c =
    let bs = take 13 c.args.bytes.now in
    let vs = fields (body format.Bridge) bs in
    let bad = c.bad_field-in-Bridge.ensures ∙ ap (λ vs. place_or_none (bad_field (node (bridge (registers (at vs 1))) vs))) c.from_body-in-Bridge.ensures in
    rw c.in-Bridge.is
    (λ t u ns p e b q w. c.made-in-Bridge.ensures p ∙ plain_turn format.Bridge (bridge (registers (at vs 1))) bs vs refl refl (λ ms. refl) (λ ok vs. refl) t u ns p _ _ bad e ∙ turn-window t u ns format.Bridge _ p)

pub returns-in-Window : goal.returns-in-Window
unfolding body width step refs_good
returns-in-Window c = rw c.in-Window.is (λ t u ns p e b q w. c.window.ensures t u ns p e ∙ turn-window t u ns format.Window _ p)

pub returns-in-WindowTarget : goal.returns-in-WindowTarget
unfolding body width step refs_good
returns-in-WindowTarget c = rw c.in-WindowTarget.is (λ t u ns p e b q w. c.window_target.ensures _ t u ns p e w.begun)

pub returns-in-Xor : goal.returns-in-Xor
unfolding body width step refs_good
returns-in-Xor c = rw c.in-Xor.is (λ t u ns p e b q w. c.made-in-Xor.ensures p ∙ plain_turn format.Xor (xor 0) _ _ refl refl (λ ms. refl) (λ ok vs. refl) t u ns p _ _ (c.bad_field-in-Xor.ensures ∙ ap (λ n. place_or_none (bad_field n)) c.from_body-in-Xor.ensures) e ∙ turn-window t u ns format.Xor _ p)

pub returns-in-Map : goal.returns-in-Map
unfolding body width step refs_good
returns-in-Map c = rw c.in-Map.is (λ t u ns p e b q w. c.map.ensures _ t u ns p e)

pub returns-in-WideMatrix : goal.returns-in-WideMatrix
unfolding body width step refs_good
returns-in-WideMatrix c = rw c.in-WideMatrix.is (λ t u ns p e b q w. c.matrix-in-WideMatrix.ensures t u ns p e ∙ turn-window t u ns (format.Matrix pair) _ p)

pub returns-in-WideInitiator : goal.returns-in-WideInitiator
unfolding body width step refs_good
returns-in-WideInitiator c = rw c.in-WideInitiator.is (λ t u ns p e b q w. c.initiator-in-WideInitiator.ensures t u ns p e ∙ turn-window t u ns (format.Initiator pair) _ p)

pub returns-in-WideTarget : goal.returns-in-WideTarget
unfolding body width step refs_good
returns-in-WideTarget c = rw c.in-WideTarget.is (λ t u ns p e b q w. c.target-in-WideTarget.ensures t u ns p e ∙ turn-window t u ns (format.Target pair) _ p)

pub returns-in-WideCell : goal.returns-in-WideCell
unfolding body width step refs_good
returns-in-WideCell c = rw c.in-WideCell.is (λ t u ns p e b q w. c.cell-in-WideCell.ensures t u ns p e ∙ turn-window t u ns (format.Cell pair) _ p)
