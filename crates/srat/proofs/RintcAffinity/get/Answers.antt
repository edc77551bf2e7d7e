-- `RintcAffinity::get` meets its contract: each field stands at its offset.
use Rattle.format.specs.Form.{layout}
use Rattle.laws.proofs.Offsets.{node_at_lem}
use Rattle.srat.proofs.RintcAffinity.get.Goals as goal

pub returns : goal.returns
unfolding layout
returns c =
    rw (node_at_lem, c.get.ensures, c.get-2.ensures, c.get-3.ensures, c.get-4.ensures, c.rest-s.ensures)
