-- The fields of a layout with every reference under another name: a place for an ordinal, or an ordinal for a place.
use Rattle.std.specs.Prelude.{ℕ, List, [], ◌∷◌, ◌++◌, map, take, drop}
use Rattle.format.specs.Layout.{Item, fix, fld, two, to, or_none, arity}

-- the fields of one item
abbrev pub renamed : (ℕ → ℕ) → Item → List ℕ → List ℕ
renamed g (fix w v) vs = vs
renamed g (fld w) vs = vs
renamed g (two w k) vs = vs
renamed g (to t) vs = map g vs
renamed g (or_none t) vs = map g vs

-- the fields of all items
unfoldable pub rename : (ℕ → ℕ) → List Item → List ℕ → List ℕ
rename g [] vs = []
rename g (i ∷ is) vs = renamed g i (take (arity i) vs) ++ rename g is (drop (arity i) vs)
