-- The one law of the checksum: building takes from it that the sum is 0, reading that the byte is right. By arithmetic on remainders.
use mathlib.Core.Path.{◌≡◌, refl}
use mathlib.Core.Logic.{◌↔◌}
use Prim.Native.Nat.{ℕ, ◌+◌, ◌%◌, ◌<◌}
use native.Mathlib.Omega.{arith}
use Rattle.format.specs.Build.{check_of}

-- a byte makes the sum of the others 0 exactly where it is their check
pub derived : (c s : ℕ) → c < 256 → ((c + s) % 256 ≡ 0) ↔ (c ≡ check_of s)
derived c s l = (λ e. omega arith, λ e. omega arith)

-- so the check does
pub check-sum : (s : ℕ) → (check_of s + s) % 256 ≡ 0
check-sum s = (derived (check_of s) s (omega arith)).1 refl
