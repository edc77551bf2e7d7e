-- `node_in` meets its contract: of each row the node that its type reads.
use mathlib.Core.Path.{refl, ◌∙◌}
use Rattle.format.specs.Row.{caches, memories, initiators, old_rintcs, domains, matrices, sides, bridges, windows, xors, rintcs, form_in}
use Rattle.format.specs.Read.{shown}
use Rattle.pptt.specs.Cache.{cache_node}
use Rattle.srat.specs.Srat.{memory_node, initiator_node, rintc_node, old_rintc_node}
use Rattle.hmat.specs.Widths.{meant_width}
use Rattle.hmat.proofs.Shows.{shown-domain, shown-matrix, shown-side}
use Rattle.cedt.proofs.Shows.{shown-bridge, shown-window, shown-maths}
use Rattle.read.proofs.Fields.{node-shown, fields-shown, handle-shown, matrix-row}
use Rattle.read.proofs.node_in.Goals as goal

pub processor_in-requires : goal.processor_in-requires
processor_in-requires c = c.requires.short (rw c.in-Processors.is)

pub returns-in-Processors : goal.returns-in-Processors
returns-in-Processors c = rw c.in-Processors.is (refl, c.processor_in.ensures)

pub returns-in-Caches : goal.returns-in-Caches
unfolding form_in shown
returns-in-Caches c = rw c.in-Caches.is (refl, fields-shown caches _ (cache_node c.get.result) c.get.ensures)

pub returns-in-Memories : goal.returns-in-Memories
unfolding form_in shown
returns-in-Memories c = rw c.in-Memories.is (refl, fields-shown memories _ (memory_node c.get-in-Memories.result) c.get-in-Memories.ensures)

pub returns-in-Initiators : goal.returns-in-Initiators
returns-in-Initiators c =
    let i = c.get-in-Initiators.result in
    rw c.in-Initiators.is (refl, handle-shown i.handle i.proximity_domain i.flags ∙ fields-shown initiators _ (initiator_node i) c.get-in-Initiators.ensures)

pub returns-in-OldRintcs : goal.returns-in-OldRintcs
unfolding form_in shown
returns-in-OldRintcs c = rw c.in-OldRintcs.is (refl, fields-shown old_rintcs _ (old_rintc_node c.get-in-OldRintcs.result) c.get-in-OldRintcs.ensures)

pub returns-in-Domains : goal.returns-in-Domains
unfolding form_in
returns-in-Domains c = rw c.in-Domains.is (refl, shown-domain c.get-in-Domains.result _ c.get-in-Domains.ensures ∙ node-shown domains _)

pub returns-in-Matrices : goal.returns-in-Matrices
returns-in-Matrices c =
    let w = meant_width c.in-Matrices.field-0 in
    let m = c.get-in-Matrices.result in
    rw c.in-Matrices.is (matrix-row _ m (c.get-in-Matrices.ensures w) (c.requires.counts w (rw c.in-Matrices.is)), shown-matrix m _ (c.get-in-Matrices.ensures w) ∙ node-shown (matrices w) _)

pub returns-in-Sides : goal.returns-in-Sides
returns-in-Sides c = rw c.in-Sides.is (refl, shown-side c.get-in-Sides.result _ c.get-in-Sides.ensures ∙ node-shown sides _)

pub returns-in-Bridges : goal.returns-in-Bridges
returns-in-Bridges c = rw c.in-Bridges.is (refl, shown-bridge c.get-in-Bridges.result _ c.get-in-Bridges.ensures ∙ node-shown bridges _)

pub returns-in-Windows : goal.returns-in-Windows
returns-in-Windows c = rw c.in-Windows.is (refl, shown-window c.get-in-Windows.result _ c.get-in-Windows.ensures ∙ node-shown windows _)

pub returns-in-Xors : goal.returns-in-Xors
returns-in-Xors c = rw c.in-Xors.is (refl, shown-maths c.get-in-Xors.result _ c.get-in-Xors.ensures ∙ node-shown xors _)

pub returns-in-Rintcs : goal.returns-in-Rintcs
unfolding form_in shown
returns-in-Rintcs c = rw c.in-Rintcs.is (refl, fields-shown rintcs _ (rintc_node c.get-in-Rintcs.result) c.get-in-Rintcs.ensures)
