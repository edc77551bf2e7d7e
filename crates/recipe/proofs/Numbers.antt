-- A byte that is none of a table's kind numbers names nothing there, and none that is retired: no test on the way is passed. Bodies and matrices are short.
use mathlib.Core.Path.{◌≡◌, refl, ◌∙◌}
use Prim.Native.Nat.{ℕ, suc, ◌≤◌}
use mathlib.Core.Bool.{true, false}
use mathlib.Core.Option.{none}
use native.Mathlib.Omega.{arith}
use lib.Dec.{leb}
use borrow.Author.Tests.{ne_eqb, leb-true}
use Rattle.std.specs.Prelude.{Result, Ok, Err}
use Rattle.format.specs.Bytes.{all, has}
use Rattle.format.specs.Table.{Table, pptt, srat, hmat, cedt, limit}
use Rattle.format.specs.Layout.{width}
use Rattle.format.specs.Form.{size, byte, pair, most, matrix_flags, ranges}
use Rattle.format.specs.Kind.{Kind, Processor, Resource, Cache, Memory, Acpi, Pci, Rintc, Domain, Matrix, Initiator, Target, Cell, Side, Handle, Bridge, Window, WindowTarget, Xor, Map, kind_of, retired, body}
use Rattle.format.specs.Field.{bad_field}
use Rattle.laws.proofs.Lays.{both_true}
use Rattle.laws.proofs.Shapes.{square}
use Rattle.laws.proofs.Fields.{good-fields}
use Rattle.hmat.specs.declared.SystemLocality.{SystemLocality}
use Rattle.hmat.specs.Hmat.{matrix_form, matrix_fields, matrix_head}
use Rattle.recipe.specs.declared.Kind as code
use Rattle.recipe.specs.declared.Unnamed.{Unnamed}
use Rattle.recipe.specs.Kinds.{named}

abbrev pub first : Table → ℕ
first pptt = 16
first srat = 32
first hmat = 48
first cedt = 64

abbrev pub last : Table → ℕ
last pptt = 18
last srat = 36
last hmat = 58
last cedt = 68

pub unnamed : (t : Table) (b : ℕ) → (first t ≤ b → b ≤ last t → ⊥) → (none ≡ kind_of t b) × (false ≡ has (retired t) b)
unfolding kind_of
unnamed pptt b h = rw (ne_eqb b 16 (λ e. h (omega arith) (omega arith)), ne_eqb b 17 (λ e. h (omega arith) (omega arith)), ne_eqb b 18 (λ e. h (omega arith) (omega arith))) (refl, refl)
unnamed srat b h = rw (ne_eqb b 32 (λ e. h (omega arith) (omega arith)), ne_eqb b 33 (λ e. h (omega arith) (omega arith)), ne_eqb b 34 (λ e. h (omega arith) (omega arith)), ne_eqb b 35 (λ e. h (omega arith) (omega arith)), ne_eqb b 36 (λ e. h (omega arith) (omega arith))) (refl, refl)
unnamed hmat b h = rw (ne_eqb b 48 (λ e. h (omega arith) (omega arith)), ne_eqb b 49 (λ e. h (omega arith) (omega arith)), ne_eqb b 50 (λ e. h (omega arith) (omega arith)), ne_eqb b 51 (λ e. h (omega arith) (omega arith)), ne_eqb b 52 (λ e. h (omega arith) (omega arith)), ne_eqb b 53 (λ e. h (omega arith) (omega arith)), ne_eqb b 54 (λ e. h (omega arith) (omega arith)), ne_eqb b 55 (λ e. h (omega arith) (omega arith)), ne_eqb b 56 (λ e. h (omega arith) (omega arith)), ne_eqb b 57 (λ e. h (omega arith) (omega arith)), ne_eqb b 58 (λ e. h (omega arith) (omega arith))) (refl, refl)
unnamed cedt b h = rw (ne_eqb b 64 (λ e. h (omega arith) (omega arith)), ne_eqb b 65 (λ e. h (omega arith) (omega arith)), ne_eqb b 66 (λ e. h (omega arith) (omega arith)), ne_eqb b 67 (λ e. h (omega arith) (omega arith)), ne_eqb b 68 (λ e. h (omega arith) (omega arith))) (refl, refl)

pub nowhere : (t : Table) (b : ℕ) → (16 ≤ b → b ≤ 18 → ⊥) → (32 ≤ b → b ≤ 36 → ⊥) → (48 ≤ b → b ≤ 58 → ⊥) → (64 ≤ b → b ≤ 68 → ⊥) → (none ≡ kind_of t b) × (false ≡ has (retired t) b)
nowhere pptt b p s h c = unnamed pptt b p
nowhere srat b p s h c = unnamed srat b s
nowhere hmat b p s h c = unnamed hmat b h
nowhere cedt b p s h c = unnamed cedt b c

-- what is no kind is none
pub no_kind_lem : (n : Result code.Kind Unnamed) → ((k : code.Kind) → n ≡ Ok k → ⊥) → named n ≡ none
no_kind_lem (Ok k) h = absurd (h k refl)
no_kind_lem (Err u) h = refl

-- a number that is at least a, and not a
pub past : {a b : ℕ} → a ≤ b → (b ≡ a → ⊥) → suc a ≤ b
past h ne = omega (arith, ne)

-- a matrix whose counts are good is short
pub matrix-short : (m : SystemLocality) → 0 ≡ bad_field (matrix_head m) → size (matrix_form m) ≤ limit
unfolding bad_field ranges
matrix-short m e =
    let (i, t) = counts in
    omega (arith, square m.initiators m.targets i t)
  where
    tests : all (ranges (matrix_form m) (matrix_fields m)) ≡ true
    tests = good-fields (matrix_head m) ∙ rw (← e)

    counts : (m.initiators ≤ most) × (m.targets ≤ most)
    counts =
        let p = (both_true (leb m.min_transfer_size 11) _ (both_true (leb m.data_type 5) _ (both_true (matrix_flags m.flags) _ tests).1).1).1 in
        let (a, b) = both_true (leb m.initiators most) (leb m.targets most) p in
        (leb-true m.initiators most a, leb-true m.targets most b)

-- a body is short
pub body-short : (k : Kind) → width (body k) ≤ 22
unfolding width body
body-short Processor = omega arith
body-short Resource = omega arith
body-short Cache = omega arith
body-short Memory = omega arith
body-short Acpi = omega arith
body-short Pci = omega arith
body-short Rintc = omega arith
body-short Domain = omega arith
body-short (Matrix byte) = omega arith
body-short (Matrix pair) = omega arith
body-short (Initiator byte) = omega arith
body-short (Initiator pair) = omega arith
body-short (Target byte) = omega arith
body-short (Target pair) = omega arith
body-short (Cell byte) = omega arith
body-short (Cell pair) = omega arith
body-short Side = omega arith
body-short Handle = omega arith
body-short Bridge = omega arith
body-short Window = omega arith
body-short WindowTarget = omega arith
body-short Xor = omega arith
body-short Map = omega arith
