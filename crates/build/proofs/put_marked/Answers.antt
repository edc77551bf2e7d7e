-- `put_marked` meets its contract: no mark is wrong where there is none.
use Rattle.build.proofs.Steps.{ends-unmarked}
use Rattle.build.proofs.put_marked.Goals as goal

pub returns : goal.returns
returns g c = let put = c.put_records.ensures in (put.0, ends-unmarked g.row.N c.none-marks.ensures.slots put.1)
