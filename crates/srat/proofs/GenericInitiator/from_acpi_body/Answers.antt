-- `GenericInitiator::from_acpi_body` meets its contract: each field stands at its offset.
use Rattle.format.specs.Kind.{Acpi, body}
use Rattle.laws.proofs.Fields.{body_at}
use Rattle.srat.proofs.GenericInitiator.from_acpi_body.Goals as goal

pub returns : goal.returns
unfolding body
returns c =
    rw (body_at Acpi, c.new_acpi-handle.ensures, c.get.ensures, c.get-2.ensures, c.get-3.ensures, c.get-4.ensures)
