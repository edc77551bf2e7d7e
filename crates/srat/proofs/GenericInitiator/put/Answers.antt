-- `GenericInitiator::put` meets its contract: the record of its handle.
use Rattle.srat.proofs.GenericInitiator.put.Goals as goal

pub returns-in-Acpi : goal.returns-in-Acpi
returns-in-Acpi c = rw c.in-Acpi.is c.put_acpi.ensures

pub returns-in-Pci : goal.returns-in-Pci
returns-in-Pci c = rw c.in-Pci.is c.put_pci.ensures
