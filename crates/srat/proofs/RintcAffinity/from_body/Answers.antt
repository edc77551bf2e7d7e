-- `RintcAffinity::from_body` meets its contract: each field stands at its offset.
use Rattle.format.specs.Kind.{Rintc, body}
use Rattle.laws.proofs.Fields.{body_at}
use Rattle.srat.proofs.RintcAffinity.from_body.Goals as goal

pub returns : goal.returns
unfolding body
returns c = rw (body_at Rintc, c.get.ensures, c.get-2.ensures, c.get-3.ensures, c.get-4.ensures)
