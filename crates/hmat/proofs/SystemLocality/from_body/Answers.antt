-- `SystemLocality::from_body` meets its contract: each field stands at its offset, in either width.
use Rattle.format.specs.Kind.{Matrix, body}
use Rattle.laws.proofs.Fields.{fields-now}
use Rattle.hmat.proofs.SystemLocality.from_body.Goals as goal

pub returns : goal.returns
unfolding body
returns c =
    rw (fields-now (Matrix _), c.get.ensures, c.get-2.ensures, c.get-3.ensures, c.get-4.ensures, c.get-5.ensures, c.get-6.ensures, c.targets_at.ensures)
