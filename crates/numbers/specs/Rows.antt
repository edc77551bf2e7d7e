-- A row as a number.
use Rattle.std.specs.Prelude.{ℕ}
use Rattle.std.proofs.Math.Option.{Option, none, some}
use Rattle.format.specs.Row.{Row, row_number}

-- a row's number; 255 of a record that no known row fits
abbrev pub row_as : Option Row → ℕ
row_as none = 255
row_as (some r) = row_number r
