-- Whether a list of names has some.
use Rattle.std.specs.Prelude.{ℕ, List, [], ◌∷◌, Bool, true, eqb}
use Rattle.std.specs.Int.Bits.{bit_and}
use Rattle.format.specs.Bytes.{pick}

-- behind the names of bits of which those are added that are set
unfoldable pub named : {Name : Type 0} → ℕ → Bool → List (ℕ × Name) → Bool
named flags some [] = some
named flags some ((unit, _) ∷ rest) = named flags (pick (eqb (bit_and flags unit) 0) some true) rest
