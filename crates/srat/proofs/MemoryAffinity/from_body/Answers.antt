-- `MemoryAffinity::from_body` meets its contract: each field stands at its offset.
use Rattle.format.specs.Kind.{Memory, body}
use Rattle.laws.proofs.Fields.{body_at}
use Rattle.srat.proofs.MemoryAffinity.from_body.Goals as goal

pub returns : goal.returns
unfolding body
returns c = rw (body_at Memory, c.get.ensures, c.get-2.ensures, c.get-3.ensures, c.get-4.ensures)
