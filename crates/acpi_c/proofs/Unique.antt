-- Two outcomes of an exported function that meet its contract show the same, as of the function of acpi that it calls.
use Prim.Native.Nat.{ℕ}
use mathlib.Core.List.{List}
use Rattle.laws.specs.Unique.{Fixes}
use Rattle.laws.proofs.Sole.{sole, sole-pair}
use Rattle.acpi_c.proofs.acpi_build.Reads as acpi-build
use Rattle.acpi_c.proofs.acpi_check.Reads as acpi-check
use Rattle.acpi_c.proofs.acpi_read_out.Reads as acpi-read-out
use Rattle.acpi_c.proofs.acpi_accept.Reads as acpi-accept
use Rattle.acpi_c.proofs.acpi_first_place.Reads as acpi-first-place
use Rattle.acpi_c.proofs.acpi_record_at.Reads as acpi-record-at
use Rattle.acpi_c.proofs.acpi_read.Reads as acpi-read
use Rattle.acpi_c.proofs.acpi_sum.Reads as acpi-sum

-- ---- the contracts

-- for each public function: what its contract fixes of the result `x` and of the parameters afterwards, `p`
pub record Unique : Type 0 where
  acpi-build : Fixes {S = ℕ × (List ℕ × ℕ)} acpi-build.Learnt (λ k x p. (x, (p.1.0.now, p.1.1.0.now)))
  acpi-check : Fixes {S = ℕ × ℕ} acpi-check.Learnt (λ k x p. (x, p.1.0.now))
  acpi-read-out : Fixes {S = ℕ × (List ℕ × ℕ)} acpi-read-out.Learnt (λ k x p. (x, (p.1.0.now, p.1.1.0.now)))
  acpi-accept : Fixes {S = ℕ × ℕ} acpi-accept.Learnt (λ k x p. (x, p.1.1.0.now))
  acpi-first-place : Fixes acpi-first-place.Learnt (λ k x p. x)
  acpi-record-at : Fixes acpi-record-at.Learnt (λ k x p. p.1.1.1.0.now)
  acpi-read : Fixes {S = ℕ × (List ℕ × ℕ)} acpi-read.Learnt (λ k x p. (x, (p.1.1.1.0.now, p.1.1.1.1.0.now)))
  acpi-sum : Fixes {S = ℕ × ℕ} acpi-sum.Learnt (λ k x p. (x, p.1.0.now))

pub unique : Unique
unique =
    record {
      acpi-build = λ k a x y p q l m. sole-pair (sole l.0 m.0) (sole-pair (sole l.1.1 m.1.1) (sole l.1.0 m.1.0));
      acpi-check = λ k a x y p q l m. sole-pair (sole l.0 m.0) (sole l.1 m.1);
      acpi-read-out = λ k a x y p q l m. sole-pair (sole l.0 m.0) (sole-pair (sole l.1.1 m.1.1) (sole l.1.0 m.1.0));
      acpi-accept = λ k a x y p q l m. sole-pair (sole l.0 m.0) (sole l.1 m.1);
      acpi-first-place = λ k a x y p q. sole;
      acpi-record-at = λ k a x y p q. sole;
      acpi-read = λ k a x y p q l m. sole-pair (sole l.0 m.0) (sole-pair (sole l.1.1 m.1.1) (sole l.1.0 m.1.0));
      acpi-sum = λ k a x y p q l m. sole-pair (sole l.0 m.0) (sole l.1 m.1);
    }
