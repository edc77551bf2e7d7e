-- `Handle::is_pci_fixed` meets its contract: four and eight bytes are twelve.
use Rattle.laws.proofs.Fields.{differs, equals, zeros-parts}
use Rattle.srat.proofs.Handle.is_pci_fixed.Goals as goal

pub returns-then-get-ne0 : goal.returns-then-get-ne0
returns-then-get-ne0 c = rw (zeros-parts c.args.row.now 12 4 8, differs c.get.ensures c.if-get-ne0.true)

pub returns : goal.returns
returns c = rw (zeros-parts c.args.row.now 12 4 8, equals c.get.ensures c.if-get-ne0.false, c.get-2.ensures)
