-- A line's words, and the calls that the first one names.
use Rattle.std.specs.Prelude.{ℕ, suc, List, [], ◌∷◌, eqb, take, drop, Option, Some, None}
use Rattle.format.specs.Bytes.{pick, same}
use Rattle.talk.specs.declared.Call.{Call}
use Rattle.talk.specs.declared.Call.TheVariants.{Build, Out, Read, Sum}

-- how many bytes stand before the first space, 32
unfoldable pub space_in : List ℕ → ℕ
space_in [] = 0
space_in (b ∷ bs) = pick (eqb b 32) 0 (suc (space_in bs))

-- what stands before it
abbrev pub word_in : List ℕ → List ℕ
word_in s = take (space_in s) s

-- what stands behind it
abbrev pub behind_in : List ℕ → List ℕ
behind_in s = drop 1 (drop (space_in s) s)

-- the words 'build', 'out', 'read' and 'sum'
unfoldable pub call_in : List ℕ → Option Call
call_in w =
    pick (same w (98 ∷ 117 ∷ 105 ∷ 108 ∷ 100 ∷ [])) (Some Build)
    (pick (same w (111 ∷ 117 ∷ 116 ∷ [])) (Some Out)
    (pick (same w (114 ∷ 101 ∷ 97 ∷ 100 ∷ [])) (Some Read)
    (pick (same w (115 ∷ 117 ∷ 109 ∷ [])) (Some Sum) None)))
