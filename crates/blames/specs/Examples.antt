-- Places of recipes and their words.
use Rattle.std.specs.Prelude.{◌≡◌, ℕ, List, [], ◌∷◌, ◌++◌, replicate}
use Rattle.text.specs.Text.{text}
use Rattle.blames.specs.Words.{field_words}

-- a head with this table code, and zeros for its other fields
abbrev headed : ℕ → List ℕ
headed c = 1 ∷ c ∷ replicate 26 0

-- a PPTT's recipe: a cache
abbrev caches : List ℕ
caches = headed 0 ++ (18 ∷ replicate 21 0)

-- an HMAT's recipe: a proximity domain and a matrix
abbrev matrices : List ℕ
matrices = headed 2 ++ (48 ∷ replicate 8 0 ++ (49 ∷ replicate 13 0))

-- another of two-byte counts and indices: a matrix and a cell
abbrev wides : List ℕ
wides = headed 2 ++ (55 ∷ replicate 15 0 ++ (58 ∷ replicate 6 0))

-- a CEDT's recipe: a host bridge and a window
abbrev windows : List ℕ
windows = headed 3 ++ (64 ∷ replicate 13 0 ++ (65 ∷ replicate 22 0))

pub record Examples : Type 0 where
  pub size : field_words caches 34 ≡ text "size of the cache at 28"
  pub kind-byte : field_words caches 28 ≡ []
  pub inside-a-field : field_words caches 35 ≡ []
  pub table-code : field_words (headed 7) 1 ≡ text "table code of the head at 0"
  pub transfer-size : field_words matrices 40 ≡ text "transfer size of the matrix at 37"
  pub targets : field_words matrices 50 ≡ text "targets of the matrix at 37"
  pub wide-targets : field_words wides 42 ≡ text "targets of the matrix at 28"
  pub wide-cell : field_words wides 49 ≡ text "value of the cell at 44"
  pub ways : field_words windows 59 ≡ text "ways of the CXL window at 42"
