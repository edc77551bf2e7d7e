-- Text in a lent buffer, and what is put there: bytes, numbers in decimal digits, bytes in hexadecimal digits.
use Rattle.std.specs.Prelude.{ℕ, ◌+◌, ◌-◌, ◌/◌, ◌%◌, min, List, [], ◌∷◌, ◌++◌, ltb, length}
use Rattle.std.specs.Borrow.{MutBor}
use Prim.Native.Char.{code}
use Prim.Native.String.{String}
use Prim.Native.String as string
use Rattle.format.specs.Bytes.{pick, over}
use Rattle.format.specs.Listing.{digits}
use Rattle.text.specs.declared.Text.{Text}

-- the bytes of a text
abbrev pub text : String → List ℕ
text string.[] = []
text (string.◌∷◌ c s) = code c ∷ text s

-- s laid behind the n bytes that a buffer is filled with: how far it is filled then, and the buffer
unfoldable pub laid : List ℕ → ℕ → List ℕ → ℕ × List ℕ
laid out n s = (min (length out) (n + length s), over out n s)

-- the text in the first n bytes of a buffer
abbrev pub behind : MutBor (List ℕ) → ℕ → Text
behind out n = record { out = out; n = min n (length out.now) }

-- a text with s behind it; what would reach past the end is left out
unfoldable pub with : Text → List ℕ → Text
with t s = record { out = record t.out { now = over t.out.now t.n s }; n = t.n + min (length s) (length t.out.now - t.n) }

-- the hexadecimal digit of a number's low four bits, lower case: '0' is 48, 'a' is 97
unfoldable pub glyph : ℕ → ℕ
glyph v = pick (ltb (v % 16) 10) (48 + v % 16) (87 + v % 16)

-- two digits a byte, the higher first
unfoldable pub pairs : List ℕ → List ℕ
pairs [] = []
pairs (b ∷ bs) = glyph (b / 16) ∷ glyph b ∷ pairs bs

-- bytes in hexadecimal digits; '-', 45, where there are none
unfoldable pub hexed : List ℕ → List ℕ
hexed [] = 45 ∷ []
hexed (b ∷ bs) = pairs (b ∷ bs)

-- numbers with a comma, 44, before each
unfoldable pub others : List ℕ → List ℕ
others [] = []
others (v ∷ vs) = 44 ∷ (digits 20 v ++ others vs)

-- numbers with commas between them
unfoldable pub listed : List ℕ → List ℕ
listed [] = []
listed (v ∷ vs) = digits 20 v ++ others vs
