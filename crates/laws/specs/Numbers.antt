-- A layout as the numbers that stand in it, fixed ones too: what code that writes number after number lays down.
use Rattle.std.specs.Prelude.{ℕ, List, [], ◌∷◌, drop}
use Rattle.format.specs.Layout.{Item, arity, number_with}

-- the number of every item, each reference written by g
abbrev pub numbers : (ℕ → ℕ) → List Item → List ℕ → List ℕ
numbers g [] vs = []
numbers g (i ∷ is) vs = number_with g i vs ∷ numbers g is (drop (arity i) vs)
