-- What the calls answer where no other crate's definition says it: the length of a recipe's table, and a record as numbers.
use Rattle.std.specs.Prelude.{ℕ, ◌+◌, ◌-◌, List, ◌∷◌, length}
use Rattle.std.proofs.Math.Option.{Option}
use Rattle.format.specs.Bytes.{Answer, refused, given, and_then, over}
use Rattle.format.specs.Row.{Row}
use Rattle.format.specs.Read.{Reading, reading}
use Rattle.format.specs.Build.{length_of}
use Rattle.format.specs.Recipe.{meaning}
use Rattle.numbers.specs.Rows.{row_as}

-- the length of a recipe's table, or refusal 1 to 8
unfoldable pub checked : List ℕ → Answer ℕ
checked r = and_then (meaning r) (λ m. given (length_of m))

-- the numbers of a record: type, place, length, row, its part's place and length, and its fields
abbrev pub numbers_with : (type place len : ℕ) → Option Row → (at k : ℕ) → List ℕ → List ℕ
numbers_with type place len row at k vs = type ∷ place ∷ len ∷ row_as row ∷ at ∷ k ∷ vs

-- the same of what a reading call answers, with the part that comes back: it is the end of the record
abbrev pub numbers : Reading → List ℕ → List ℕ
numbers (reading count type place len row vs) bs = numbers_with type place len row (place + (len - length bs)) (length bs) vs

-- the number of records, or the refusal
abbrev pub count_in : Answer Reading → Answer ℕ
count_in (refused n p) = refused n p
count_in (given (reading count type place len row vs)) = given count

-- the lent numbers afterwards: those of the record over their beginning, as far as they fit, or nothing where the answer is a refusal
unfoldable pub answered : Answer Reading → List ℕ → List ℕ → List ℕ
answered (refused n p) bs buffer = buffer
answered (given r) bs buffer = over buffer 0 (numbers r bs)
