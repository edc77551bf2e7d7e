-- `refers` meets its contract: the place is before the own record, and the start of one of the type.
use native.Mathlib.Omega.{arith}
use borrow.Author.Tests.{lt-ltb, le-ltb}
use Rattle.format.specs.Table.{pptt}
use Rattle.frames.specs.Frames.{refers}
use Rattle.frames.proofs.Marks.{near-named}
use Rattle.read.proofs.Before.refers.Goals as goal

pub toward_place-requires : goal.toward_place-requires
toward_place-requires g c = omega (arith, c.args.self.now.few)

pub returns-then-v-self : goal.returns-then-v-self
unfolding refers
returns-then-v-self g c =
    let s = c.args.self.now in
    rw (lt-ltb _ _ c.if-v-self.true, near-named pptt s.c.now s.marks.now.slots s.marks.now.shift c.args.v s.passed c.args.ty, ← c.first.ensures, ← c.toward_place.ensures) c.starts.ensures

pub returns-else-v-self : goal.returns-else-v-self
unfolding refers
returns-else-v-self g c = rw (le-ltb _ _ c.if-v-self.false)
