-- Conditions in words: what a list of them in order says, the ranges and bit rules of fields, and references that name a record.
use Rattle.std.specs.Prelude.{◌≡◌, ◌⊎◌, ℕ, zero, suc, ◌+◌, ◌≤◌, ◌<◌, List, [], ◌∷◌, ◌++◌, drop, eqb}
use Rattle.format.specs.Bytes.{pick, at, value, part, bits}
use Rattle.format.specs.Layout.{Item, fix, fld, two, to, or_none}
use Rattle.format.specs.Form.{Form, processor, cache, memory, acpi, pci, rintc, old_rintc, domain, matrix, side, bridge, window, xor, most}

-- ---- conditions in the order of a list, each beside its number

-- the condition beside n holds, and none that stands before it
abbrev pub FirstOf : ℕ → List (ℕ × Type 0) → Type 0
FirstOf n [] = ⊥
FirstOf n (c ∷ cs) = pick (eqb n c.0) c.1 ((c.1 → ⊥) × FirstOf n cs)

-- none of them holds
abbrev pub NoneOf : List (ℕ × Type 0) → Type 0
NoneOf [] = Unit
NoneOf (c ∷ cs) = (c.1 → ⊥) × NoneOf cs

-- all of them hold
abbrev pub Every : List (Type 0) → Type 0
Every [] = Unit
Every (P ∷ []) = P
Every (P ∷ Q ∷ Ps) = P × Every (Q ∷ Ps)

-- number j of them, counted from 0, is the first that does not hold
abbrev pub FirstNot : ℕ → List (Type 0) → Type 0
FirstNot j [] = ⊥
FirstNot zero (P ∷ Ps) = P → ⊥
FirstNot (suc j) (P ∷ Ps) = P × FirstNot j Ps

-- ---- lists with the newest first

-- one element has P of itself and of those before it
abbrev pub Among : {A : Type 0} → (A → List A → Type 0) → List A → Type 0
Among {A} P xs = (later : List A) × (x : A) × (before : List A) × (xs ≡ later ++ (x ∷ before)) × P x before

-- ---- ranges and bit rules of a form's fields

-- where bit b of the flags is off, v is 0
abbrev pub Off : ℕ → ℕ → ℕ → Type 0
Off flags b v = bits flags b 1 ≡ 0 → v ≡ 0

-- allocation 0..2, type 0..2, policy, the rest 0; each only with its flag
abbrev pub Attributes : ℕ → ℕ → Type 0
Attributes f a = Every ((bits a 0 2 ≤ 2) ∷ (bits a 2 2 ≤ 2) ∷ (a < 32) ∷ Off f 3 (bits a 0 2) ∷ Off f 4 (bits a 2 2) ∷ Off f 5 (bits a 4 1) ∷ [])

-- a field that may hold any number
abbrev pub Any : Type 0
Any = Unit

-- a condition for each field, in order; fields behind the last may hold any number
abbrev pub Rules : Form → List ℕ → List (Type 0)
Rules (processor n) vs = []
Rules cache vs =
    let f : ℕ = at vs 0 in
    (f < 256) ∷ Any ∷ Off f 0 (at vs 2) ∷ Off f 1 (at vs 3) ∷ Off f 2 (at vs 4) ∷ Attributes f (at vs 5) ∷ Off f 6 (at vs 6) ∷ Off f 7 (at vs 7) ∷ []
Rules memory vs = Any ∷ Any ∷ Any ∷ (at vs 3 ≤ 7) ∷ []
Rules acpi vs = Any ∷ Any ∷ Any ∷ (at vs 3 ≤ 3) ∷ []
Rules pci vs = Any ∷ Any ∷ Any ∷ (at vs 3 ≤ 31) ∷ (at vs 4 ≤ 7) ∷ (at vs 5 ≤ 3) ∷ []
Rules old_rintc vs = Any ∷ (at vs 1 ≤ 1) ∷ []
Rules rintc vs = Any ∷ Any ∷ (at vs 2 ≤ 1) ∷ []
Rules domain vs = []
Rules (matrix i t) vs =
    -- flags: bits 0..1, 4 and 5, the rest 0
    ((bits (at vs 0) 2 2 ≡ 0) × (at vs 0 < 64)) ∷ (at vs 1 ≤ 5) ∷ (at vs 2 ≤ 11) ∷ Any ∷ (i ≤ most) ∷ (t ≤ most) ∷ []
Rules (side n) vs =
    -- levels 0..3, twice, associativity 0..2, policy 0..2, four bits each
    let a : ℕ = at vs 2 in
    Any ∷ Any ∷ Every ((bits a 0 4 ≤ 3) ∷ (bits a 4 4 ≤ 3) ∷ (bits a 8 4 ≤ 2) ∷ (bits a 12 4 ≤ 2) ∷ []) ∷ []
Rules (bridge n) vs = Any ∷ (at vs 1 ≤ 1) ∷ []
Rules (window n) vs =
    -- ways 0..4 or 8..10
    Any ∷ Any ∷ ((at vs 2 ≤ 4) ⊎ ((8 ≤ at vs 2) × (at vs 2 ≤ 10))) ∷ (at vs 3 ≤ 1) ∷ (at vs 4 ≤ 6) ∷ (at vs 5 ≤ 31) ∷ []
Rules (xor n) vs = (at vs 0 ≤ 6) ∷ []

-- ---- zeros and fixed values

-- those of a layout that starts at p are as they have to be
abbrev pub Fixed : List Item → List ℕ → ℕ → Type 0
Fixed [] bs p = Unit
Fixed (fix w v ∷ is) bs p = (value (part bs p w) ≡ v) × Fixed is bs (p + w)
Fixed (fld w ∷ is) bs p = Fixed is bs (p + w)
Fixed (two w k ∷ is) bs p = Fixed is bs (p + w)
Fixed (to t ∷ is) bs p = Fixed is bs (p + 4)
Fixed (or_none t ∷ is) bs p = Fixed is bs (p + 4)

-- ---- references

-- each reference among the fields names by P what it has to: its number and the type of what it has to name; 0 may be none
abbrev pub References : (ℕ → ℕ → Type 0) → List Item → List ℕ → Type 0
References P [] vs = Unit
References P (fix w v ∷ is) vs = References P is vs
References P (fld w ∷ is) vs = References P is (drop 1 vs)
References P (two w k ∷ is) vs = References P is (drop 2 vs)
References P (to t ∷ is) vs = P (at vs 0) t × References P is (drop 1 vs)
References P (or_none t ∷ is) vs = ((at vs 0 ≡ 0) ⊎ P (at vs 0) t) × References P is (drop 1 vs)
