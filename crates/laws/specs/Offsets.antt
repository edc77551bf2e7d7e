-- A layout read by places: of a row it computes to a list of fields, each at its offset. And a node without its list.
use Rattle.std.specs.Prelude.{ℕ, ◌+◌, List, [], ◌∷◌, ◌++◌, Bool, true, take}
use Rattle.format.specs.Bytes.{both, value, part}
use Rattle.format.specs.Layout.{Item, wide, taken_with, is_fixed}
use Rattle.format.specs.Node.{Node, node}

-- the fields in bs from place p on, each reference read by g
abbrev pub fields_at : (ℕ → ℕ) → List Item → List ℕ → ℕ → List ℕ
fields_at g [] bs p = []
fields_at g (i ∷ is) bs p = taken_with g i (value (part bs p (wide i))) ++ fields_at g is bs (p + wide i)

-- zeros and fixed values in bs from place p on are as they have to be
abbrev pub fixed_at : List Item → List ℕ → ℕ → Bool
fixed_at [] bs p = true
fixed_at (i ∷ is) bs p = both (is_fixed i (value (part bs p (wide i)))) (fixed_at is bs (p + wide i))

-- a node with the first n of its fields alone
abbrev pub trimmed : ℕ → Node → Node
trimmed n x = node x.form (take n x.values)
