-- What `sumtab` prints of some bytes: their whole sum, what is left of it modulo 256, and whether they begin with a table whose checksum is right.
use Rattle.std.specs.Prelude.{ℕ, ◌%◌, List, [], ◌++◌, Bool, true, false, eqb, leb, length, drop}
use Rattle.format.specs.Bytes.{pick, both, sum}
use Rattle.format.specs.Read.{length_in, right}
use Rattle.format.specs.Listing.{spaced, sum_words}
use Rattle.text.specs.Text.{text}

-- a table with all of its bytes: its length covers a header, and is not past the end
abbrev pub entire : List ℕ → Bool
entire b = both (leb 36 (length_in b)) (leb (length_in b) (length b))

-- of the checksum
abbrev pub verdict : Bool → List ℕ
verdict true = text "checksum right\n"
verdict false = text "checksum wrong\n"

-- of the bytes behind the table, if there are any: the sum has them, and the checksum does not cover them
unfoldable pub behind_line : List ℕ → List ℕ
behind_line bs = pick (eqb (length bs) 0) [] (text "bytes behind the table" ++ (spaced (length bs) ++ text "\n"))

-- of the table, where there is one
unfoldable pub checked : List ℕ → List ℕ
checked b = pick (entire b) (verdict (right b) ++ behind_line (drop (length_in b) b)) (text "no whole table\n")

-- all lines
unfoldable pub lines_of : List ℕ → List ℕ
lines_of b = sum_words (sum b) ++ (text "\nremainder" ++ (spaced (sum b % 256) ++ (text "\n" ++ checked b)))
