-- `GenericInitiator::from_pci_body` meets its contract: each field stands at its offset.
use Rattle.format.specs.Kind.{Pci, body}
use Rattle.laws.proofs.Fields.{body_at}
use Rattle.srat.proofs.GenericInitiator.from_pci_body.Goals as goal

pub returns : goal.returns
unfolding body
returns c =
    rw (body_at Pci, c.new_pci-handle.ensures, c.get.ensures, c.get-2.ensures, c.get-3.ensures, c.get-4.ensures, c.get-5.ensures, c.get-6.ensures)
