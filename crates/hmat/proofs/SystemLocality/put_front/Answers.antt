-- `SystemLocality::put_front` meets its contract: the numbers that it writes are those of the layout.
use Rattle.format.specs.Bytes.{join}
use Rattle.format.specs.Form.{layout}
use Rattle.laws.proofs.Joins.{lay-join}
use Rattle.hmat.specs.Hmat.{matrix_front}
use Rattle.hmat.proofs.SystemLocality.put_front.Goals as goal

pub returns : goal.returns
unfolding matrix_front layout join
returns c =
    rw (lay-join, ← c.length.ensures) c.put_all.ensures
