-- What the answers of the code are in the words of the format.
use Rattle.std.specs.Prelude.{ℕ, Result, Ok, Err}
use Rattle.format.specs.Bytes.{Answer, refused, given}
use Rattle.recipe.specs.Answers.{number}
use Rattle.build.specs.declared.BuildError.{BuildError}
use Rattle.build.specs.declared.BuildError.TheVariants.{NoRoom, Refused}

-- the length of the table, or a refusal's number and place; without room the place is the length that is needed
abbrev pub shown : Result ℕ BuildError → Answer ℕ
shown (Ok n) = given n
shown (Err (NoRoom n)) = refused 9 n
shown (Err (Refused r)) = refused (number r.refusal) r.at

-- the number of a refusal; 0 where a length is given
abbrev pub number_in : Answer ℕ → ℕ
number_in (refused n p) = n
number_in (given n) = 0

-- the place of a refusal, or the length
abbrev pub place_of : Answer ℕ → ℕ
place_of (refused n p) = p
place_of (given n) = n
