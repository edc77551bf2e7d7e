-- What the answers of the code are in the words of the format: a refusal's number and place, or the table and its length.
use Rattle.std.specs.Prelude.{ℕ, Result, Ok, Err}
use Rattle.format.specs.Bytes.{Answer, refused, given, and_then}
use Rattle.format.specs.Table.{Table}
use Rattle.format.specs.Build.{length_of}
use Rattle.format.specs.Recipe.{Meaning}
use Rattle.header.specs.Header.{meant}
use Rattle.recipe.specs.declared.Refusal.{Refusal}
use Rattle.recipe.specs.declared.Refusal.TheVariants.{NoHead, BadKind, Retired, Cut, Misplaced, BadField, Forward, WrongKind, FullNode, TooLong, Incomplete}
use Rattle.recipe.specs.declared.Unnamed.{Unnamed}
use Rattle.recipe.specs.declared.Unnamed.TheVariants as is
use Rattle.recipe.specs.declared.Outline.{Outline}
use Rattle.recipe.specs.declared.Refused.{Refused}

abbrev pub number : Refusal → ℕ
number NoHead = 1
number BadKind = 2
number Retired = 12
number Cut = 3
number Misplaced = 4
number BadField = 5
number Forward = 6
number WrongKind = 10
number FullNode = 7
number TooLong = 8
number Incomplete = 11

-- for a byte that names no kind
abbrev pub unnamed : Unnamed → Refusal
unnamed is.Retired = Retired
unnamed is.Nothing = BadKind

abbrev pub shown : Result Outline Refused → Answer (Table × ℕ)
shown (Ok o) = given (meant o.table, o.len)
shown (Err r) = refused (number r.refusal) r.at

-- the table that a recipe means, and its length
abbrev pub outlined : Answer Meaning → Answer (Table × ℕ)
outlined a = and_then a (λ m. given (m.head.table, length_of m))
