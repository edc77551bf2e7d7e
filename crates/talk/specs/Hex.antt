-- Bytes as hexadecimal digits in lower case.
use Rattle.std.specs.Prelude.{ℕ, ◌+◌, ◌*◌, ◌-◌, ◌/◌, ◌%◌, List, [], ◌∷◌, Bool, true, not, eqb, ltb, leb, length, Option, Some, None, is_some, unwrap_or, Result, Ok, Err}
use Rattle.format.specs.Bytes.{pick, both, same}
use Rattle.talk.specs.declared.DataError.{DataError}
use Rattle.talk.specs.declared.DataError.TheVariants.{TooLong, Other}

-- the number of a digit
unfoldable pub value_of : ℕ → Option ℕ
value_of b =
    pick (ltb b 48) None
    (pick (leb b 57) (Some (b - 48))
    (pick (ltb b 97) None
    (pick (leb b 102) (Some (b - 97 + 10)) None)))

-- every byte is a digit
unfoldable pub all_hex : List ℕ → Bool
all_hex [] = true
all_hex (b ∷ bs) = both (is_some (value_of b)) (all_hex bs)

-- the byte of two digits; what is no digit counts as 0
unfoldable pub pair_of : ℕ → ℕ → ℕ
pair_of a b = unwrap_or (value_of a) 0 * 16 + unwrap_or (value_of b) 0

-- the bytes of digits, two by two
unfoldable pub pairs : List ℕ → List ℕ
pairs [] = []
pairs (a ∷ []) = []
pairs (a ∷ b ∷ bs) = pair_of a b ∷ pairs bs

-- how many bytes a word stands for: '-', 45, for none, else two digits each
unfoldable pub data_in : ℕ → List ℕ → Result ℕ DataError
data_in room w =
    pick (same w (45 ∷ [])) (Ok 0)
    (pick (eqb (length w) 0) (Err Other)
    (pick (eqb (length w % 2) 1) (Err Other)
    (pick (not (all_hex w)) (Err Other)
    (pick (ltb room (length w / 2)) (Err TooLong)
    (Ok (length w / 2))))))

-- every element is v
unfoldable pub all_are : ℕ → List ℕ → Bool
all_are v [] = true
all_are v (b ∷ bs) = both (eqb b v) (all_are v bs)
