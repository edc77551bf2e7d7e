-- The place behind the values of a matrix is exact: it is small, so the greatest number of a usize is not less.
use mathlib.Core.Path.{◌≡◌}
use Prim.Native.Nat.{ℕ, ◌+◌, ◌-◌, ◌*◌, ◌^◌, ◌≤◌, ◌<◌, min}
use native.Mathlib.Omega.{arith}
use Rattle.format.specs.Table.{limit}

-- behind i values of initiators
pub target-exact : (p i j n : ℕ) → p ≤ limit → i < 4294967296 → j < 4294967296 → n ≡ min (p + 32 + 4 * i + 4 * j) (2 ^ 64 - 1) → n ≡ p + 32 + 4 * i + 4 * j
target-exact p i j n h k l e = omega arith
