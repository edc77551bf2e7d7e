-- `GenericInitiator::put_body` meets its contract: kind and body of its handle.
use Rattle.srat.proofs.GenericInitiator.put_body.Goals as goal

pub returns-in-Acpi : goal.returns-in-Acpi
returns-in-Acpi c = rw c.in-Acpi.is c.put_acpi_body.ensures

pub returns-in-Pci : goal.returns-in-Pci
returns-in-Pci c = rw c.in-Pci.is c.put_pci_body.ensures
