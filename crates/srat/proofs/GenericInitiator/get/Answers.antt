-- `GenericInitiator::get` meets its contract: the byte of the handle says the form, and each field stands at its offset.
use borrow.Author.Tests.{eq-eqb, ne_eqb}
use Rattle.format.specs.Form.{layout}
use Rattle.laws.proofs.Offsets.{node_at_lem}
use Rattle.srat.proofs.Laws.{initiator-form}
use Rattle.srat.proofs.GenericInitiator.get.Goals as goal

pub returns-then-get-eq-ACPI : goal.returns-then-get-eq-ACPI
unfolding layout
returns-then-get-eq-ACPI c =
    rw (← c.rest-s.ensures, initiator-form, ← c.get.ensures, eq-eqb _ _ c.if-get-eq-ACPI.true, node_at_lem, c.get-proximity_domain.ensures, c.get-flags.ensures, c.new_acpi-handle.ensures, c.get-then-get-eq-ACPI.ensures, c.get-then-get-eq-ACPI-2.ensures)

pub returns-else-get-eq-ACPI : goal.returns-else-get-eq-ACPI
unfolding layout
returns-else-get-eq-ACPI c =
    rw (← c.rest-s.ensures, initiator-form, ← c.get.ensures, ne_eqb _ _ c.if-get-eq-ACPI.false, node_at_lem, c.get-proximity_domain.ensures, c.get-flags.ensures, c.new_pci-handle.ensures, c.get-else-get-eq-ACPI.ensures, c.get-else-get-eq-ACPI-2.ensures, c.get-devfn.ensures)
