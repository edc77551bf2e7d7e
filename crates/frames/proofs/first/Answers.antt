-- `first` meets its contract: where there are no more bytes than asked for, all of them.
use mathlib.Core.Path.{sym}
use native.Mathlib.Omega.{arith}
use lib.Seq.{length-take-le}
use Rattle.std.proofs.lemmas.List.{take_min}
use Rattle.frames.proofs.first.Goals as goal

pub slice_bounds-result-end : goal.slice_bounds-result-end
slice_bounds-result-end c = sym (length-take-le c.min.result c.args.s.now (omega arith))

pub returns : goal.returns
returns c = rw c.min.ensures (take_min c.args.n c.args.s.now)
