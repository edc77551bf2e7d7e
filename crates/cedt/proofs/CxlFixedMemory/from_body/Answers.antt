-- `CxlFixedMemory::from_body` meets its contract: each field stands at its offset.
use Rattle.format.specs.Kind.{Window, body}
use Rattle.laws.proofs.Fields.{fields-now}
use Rattle.cedt.proofs.CxlFixedMemory.from_body.Goals as goal

pub returns : goal.returns
unfolding body
returns c =
    rw (fields-now Window, c.get.ensures, c.get-2.ensures, c.get-3.ensures, c.get-4.ensures, c.get-5.ensures, c.get-6.ensures, c.get-7.ensures)
