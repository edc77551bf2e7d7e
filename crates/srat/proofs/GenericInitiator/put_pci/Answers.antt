-- `GenericInitiator::put_pci` meets its contract: the numbers that it writes are those of the layout; of device and function one byte counts.
use mathlib.Core.Path.{◌∙◌}
use Rattle.format.specs.Bytes.{join}
use Rattle.format.specs.Form.{layout}
use Rattle.format.specs.Node.{bytes}
use Rattle.laws.proofs.Bytes.{le-mod}
use Rattle.laws.proofs.Joins.{lay-join}
use Rattle.srat.proofs.GenericInitiator.put_pci.Goals as goal

pub returns : goal.returns
unfolding bytes layout join
returns c =
    rw lay-join (c.put_all.ensures ∙ rw (c.devfn.ensures, le-mod 1))
