-- `first` meets its contract: by the test that it makes.
use mathlib.Core.Path.{sym}
use borrow.Author.Tests.{lt-ltb, le-ltb}
use lib.Seq.{length-take-le}
use Rattle.writes.specs.Writes.{windowed}
use Rattle.writes.proofs.first.Goals as goal

pub returns-then-bytes-n : goal.returns-then-bytes-n
unfolding windowed
returns-then-bytes-n c = rw (lt-ltb _ _ c.if-bytes-n.true)

pub slice_bounds-result-end-2 : goal.slice_bounds-result-end-2
slice_bounds-result-end-2 c = let a = c.args in sym (length-take-le a.n a.bytes.now c.if-bytes-n.false)

pub returns : goal.returns
unfolding windowed
returns c = rw (le-ltb _ _ c.if-bytes-n.false)
