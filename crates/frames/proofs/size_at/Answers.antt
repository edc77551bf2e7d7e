-- `size_at` meets its contract: the length stands behind type and reserved bytes, at the width of each table's frame.
use Prim.Native.Nat.{◌+◌}
use native.Mathlib.Omega.{arith}
use Rattle.laws.proofs.Bytes.{value-byte}
use Rattle.frames.proofs.Places.{part-drop}
use Rattle.frames.proofs.size_at.Goals as goal

pub bounds-c-p : goal.bounds-c-p
bounds-c-p c = let h = rw c.in-Pptt.is at c.requires in omega arith

pub overflow_cast-result : goal.overflow_cast-result
overflow_cast-result c = omega (arith, c.shared_slice_known-in-Pptt-1.given (c.args.p + 1))

pub bounds-c-p-in-Srat : goal.bounds-c-p-in-Srat
bounds-c-p-in-Srat c = let h = rw c.in-Srat.is at c.requires in omega arith

pub overflow_cast-result-in-Srat : goal.overflow_cast-result-in-Srat
overflow_cast-result-in-Srat c = omega (arith, c.shared_slice_known-in-Srat-1.given (c.args.p + 1))

pub returns-in-Pptt : goal.returns-in-Pptt
returns-in-Pptt c = rw (c.in-Pptt.is, part-drop) (value-byte _ _)

pub returns-in-Srat : goal.returns-in-Srat
returns-in-Srat c = rw (c.in-Srat.is, part-drop) (value-byte _ _)

pub returns-in-Hmat : goal.returns-in-Hmat
returns-in-Hmat c = rw (c.in-Hmat.is, part-drop) c.get.ensures

pub returns-in-Cedt : goal.returns-in-Cedt
returns-in-Cedt c = rw (c.in-Cedt.is, part-drop) c.get-in-Cedt.ensures
