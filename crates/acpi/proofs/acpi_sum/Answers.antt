-- `acpi_sum` meets its contract: 2^64 is 256 times what high is divided by.
use native.Mathlib.Omega.{arith}
use Rattle.acpi.proofs.acpi_sum.Goals as goal

pub returns : goal.returns
returns c = rw c.u8sum-sum.ensures record { value = omega arith; high_after = omega arith }
