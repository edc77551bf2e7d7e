-- Order 7 of document 02: the settings of one matrix may stand in any order. A recipe that builds is a head and records, cut in one way;
-- settings that stand directly behind one another are of one matrix; where no place is set to two numbers, nothing tells their order.
use Rattle.std.specs.Prelude.{◌≡◌, ◌↔◌, ℕ, ◌+◌, ◌-◌, ◌*◌, ◌<◌, List, [], ◌∷◌, ◌++◌, length, take}
use Rattle.std.proofs.Math.ListN.{get_elem?}
use Rattle.format.specs.Bytes.{pick, given, at, same}
use Rattle.format.specs.Layout.{width, fields}
use Rattle.format.specs.Table.{hmat}
use Rattle.format.specs.Form.{Width, octets}
use Rattle.format.specs.Kind.{Kind, Matrix, Cell, kind_number, body, opens, sets, part_in}
use Rattle.format.specs.Recipe.{meaning}
use Rattle.format.specs.Build.{build, table, built}
use Rattle.format.specs.Normal.{normal, call}
use Rattle.format.specs.Out.{read_out, recipe, out_written}
use Rattle.laws.specs.Cases.{head, Holds, Refuses}

-- ---- lists

-- P holds of each of them
abbrev pub Each : {A : Type 0} → (A → Type 0) → List A → Type 0
Each P [] = Unit
Each P (x ∷ xs) = P x × Each P xs

-- R holds of every two of them
abbrev pub Pairs : {A : Type 0} → (A → A → Type 0) → List A → Type 0
Pairs R [] = Unit
Pairs R (x ∷ xs) = Each (R x) xs × Pairs R xs

-- ys is a permutation of xs: at each position it has what xs has at position from, no two of them from one
pub record Rearranged {A : Type 0} (xs ys : List A) : Type 0 where
  pub long : length ys ≡ length xs
  pub from : ℕ → ℕ
  pub taken : (p : ℕ) → p < length ys → get_elem? ys p ≡ get_elem? xs (from p)
  pub sole : (p q : ℕ) → p < length ys → q < length ys → from p ≡ from q → p ≡ q

-- ---- a recipe as its head and its records

-- a record behind the head: the kind that its first byte names, and the bytes of its body
pub record Rec : Type 0 where
  pub kind : Kind
  pub bytes : List ℕ

-- the body is as long as the kind fixes
abbrev pub Whole : Rec → Type 0
Whole a = length a.bytes ≡ width (body a.kind)

-- the record's bytes
abbrev pub bytes_of : Rec → List ℕ
bytes_of a = kind_number a.kind ∷ a.bytes

-- the bytes of records, one behind another
unfoldable pub flat : List Rec → List ℕ
flat [] = []
flat (a ∷ cs) = bytes_of a ++ flat cs

-- a head of 28 bytes, and whole records
abbrev pub Cut : List ℕ → List Rec → Type 0
Cut front cs = (length front ≡ 28) × Each Whole cs

-- the recipe builds, where there is room
abbrev pub Builds : List ℕ → Type 0
Builds r = (room : ℕ) × (n : ℕ) × (build r room ≡ given n)

-- ---- settings

-- it sets a place of a matrix: kinds 50 to 52 with indices of a byte, 56 to 58 of two
abbrev pub SetsAs : Width → Rec → Type 0
SetsAs w a = part_in a.kind ≡ sets w

-- of a matrix of either width
abbrev pub Sets : Rec → Type 0
Sets a = (w : Width) × SetsAs w a

-- it makes a matrix: kind 49 with counts of a byte, 55 of two
abbrev pub Opens : Width → Rec → Type 0
Opens w a = part_in a.kind ≡ opens w

-- the record's fields; of a setting the indices of its place, then the number
abbrev pub fields_of : Rec → List ℕ
fields_of a = fields (body a.kind) a.bytes

-- how many are indices
abbrev pub indices : Rec → ℕ
indices a = length (fields_of a) - 1

-- the place that it sets: the kind, and the indices
abbrev pub place : Rec → Kind × List ℕ
place a = (a.kind, take (indices a) (fields_of a))

-- the number that it sets the place to
abbrev pub number : Rec → ℕ
number a = at (fields_of a) (indices a)

-- they set different places, or the same place to the same number
abbrev pub Agree : Rec → Rec → Type 0
Agree a b = place a ≡ place b → number a ≡ number b

-- they set different places
abbrev pub Apart : Rec → Rec → Type 0
Apart a b = place a ≡ place b → ⊥

-- how many of the records are these bytes
abbrev pub times : List ℕ → List Rec → ℕ
times xs [] = 0
times xs (a ∷ cs) = pick (same xs (bytes_of a)) 1 0 + times xs cs

-- the same records, each as often
abbrev pub AsOften : List Rec → List Rec → Type 0
AsOften cs ds = (xs : List ℕ) → times xs cs ≡ times xs ds

-- ---- the theorems

-- nothing tells the recipes r and s apart: their meaning, the answer for every room, the table, the buffer afterwards, the normal form,
-- and of reading the table out the answer for every room, the recipe, and the buffer afterwards
pub record Same (r s : List ℕ) : Type 0 where
  pub meant : meaning s ≡ meaning r
  pub answer : (room : ℕ) → build s room ≡ build r room
  pub tabled : table s ≡ table r
  pub written : (buffer : List ℕ) → built s buffer ≡ built r buffer
  pub form : normal s ≡ normal r
  pub out_answer : (room : ℕ) → read_out (table s) room ≡ read_out (table r) room
  pub out : recipe (table s) ≡ recipe (table r)
  pub out_buffer : (buffer : List ℕ) → out_written (table s) buffer ≡ out_written (table r) buffer

-- between the records xs and ys of a recipe that builds, ds may stand for cs
abbrev pub Exchange : List Rec → List Rec → Type 0
Exchange cs ds =
    (front : List ℕ) (xs ys : List Rec) → Cut front (xs ++ (cs ++ ys)) → Builds (front ++ flat (xs ++ (cs ++ ys)))
    → Same (front ++ flat (xs ++ (cs ++ ys))) (front ++ flat (xs ++ (ds ++ ys)))

-- behind the records xs stand settings of a matrix whose counts are so wide: its record is one of xs, with nothing but its settings behind it
abbrev pub OfOne : Width → List Rec → Type 0
OfOne w xs = (before : List Rec) × (m : Rec) × (ss : List Rec) × (xs ≡ before ++ (m ∷ ss)) × Opens w m × Each (SetsAs w) ss

pub record AnyOrder : Type 0 where
  -- two neighbours that set different places, or the same place to the same number
  pub neighbours : (a b : Rec) → Sets a → Sets b → Agree a b → Exchange (a ∷ b ∷ []) (b ∷ a ∷ [])
  -- every permutation of settings in which no place is set twice
  pub rearranged : (cs ds : List Rec) → Each Sets cs → Pairs Apart cs → Rearranged cs ds → Exchange cs ds
  -- and of those in which a place is set more than once, but to one number
  pub agreed : (cs ds : List Rec) → Each Sets cs → Pairs Agree cs → Rearranged cs ds → Exchange cs ds
  -- a permutation has the same records, each as often, and what has that is a permutation
  pub often : (cs ds : List Rec) → Rearranged cs ds ↔ AsOften cs ds
  -- every recipe that builds is cut into a head and whole records, and in one way
  pub cut : (r : List ℕ) → Builds r → (front : List ℕ) × (cs : List Rec) × Cut front cs × (r ≡ front ++ flat cs)
  pub once : (front other : List ℕ) (cs ds : List Rec) → Cut front cs → Cut other ds → front ++ flat cs ≡ other ++ flat ds → (front ≡ other) × (cs ≡ ds)
  -- settings that stand directly behind one another are of one matrix, and as wide as it
  pub of_one : (front : List ℕ) (xs : List Rec) (a : Rec) (cs ys : List Rec) → Cut front (xs ++ (a ∷ (cs ++ ys))) → Builds (front ++ flat (xs ++ (a ∷ (cs ++ ys))))
      → Each Sets (a ∷ cs) → (w : Width) × OfOne w xs × Each (SetsAs w) (a ∷ cs)

-- ---- what is not claimed

-- a 1 by 1 matrix and two settings of its cell, or of another
abbrev pub twice : Width → List ℕ → List ℕ → List ℕ
twice w a b = head hmat ++ (call (Matrix w) (0 ∷ 0 ∷ 0 ∷ 0 ∷ 1 ∷ 1 ∷ []) ++ (call (Cell w) a ++ call (Cell w) b))

-- of matrices of each width, by the numbers
pub record NotClaimed (w : Width) : Type 0 where
  -- the same place set to two numbers: the last counts, so the table changes
  pub builds : (build (twice w (0 ∷ 0 ∷ 1 ∷ []) (0 ∷ 0 ∷ 2 ∷ [])) 82 ≡ given 82) × (build (twice w (0 ∷ 0 ∷ 2 ∷ []) (0 ∷ 0 ∷ 1 ∷ [])) 82 ≡ given 82)
  pub cells : Holds (twice w (0 ∷ 0 ∷ 1 ∷ []) (0 ∷ 0 ∷ 2 ∷ [])) 80 2 2 × Holds (twice w (0 ∷ 0 ∷ 2 ∷ []) (0 ∷ 0 ∷ 1 ∷ [])) 80 2 1
  -- a recipe that does not build: the refusal's place moves
  pub moves : Refuses (twice w (0 ∷ 0 ∷ 1 ∷ []) (1 ∷ 0 ∷ 2 ∷ [])) 5 (44 + 4 * octets w) × Refuses (twice w (1 ∷ 0 ∷ 2 ∷ []) (0 ∷ 0 ∷ 1 ∷ [])) 5 (41 + 2 * octets w)

-- ---- neighbours of the theorems that do not hold

pub record Refuted : Type 0 where
  -- of neighbours: any two settings, as of one place to two numbers
  pub numbers : ((a b : Rec) → Sets a → Sets b → Exchange (a ∷ b ∷ []) (b ∷ a ∷ [])) → ⊥
  -- records that set nothing
  pub others : ((a b : Rec) → Agree a b → Exchange (a ∷ b ∷ []) (b ∷ a ∷ [])) → ⊥
  -- settings of two matrices, across the second one's record
  pub across : ((a m b : Rec) (w : Width) → Sets a → Opens w m → Sets b → Apart a b → Exchange (a ∷ m ∷ b ∷ []) (b ∷ m ∷ a ∷ [])) → ⊥
  -- a recipe that does not build
  pub unbuilt : ((a b : Rec) → Sets a → Sets b → Apart a b → (front : List ℕ) (xs : List Rec) → Cut front (xs ++ (a ∷ b ∷ []))
      → Same (front ++ flat (xs ++ (a ∷ b ∷ []))) (front ++ flat (xs ++ (b ∷ a ∷ [])))) → ⊥
  -- the bytes of settings, wherever they stand
  pub inside : ((a b : Rec) → Sets a → Sets b → Whole a → Whole b → Apart a b → (xs ys : List ℕ) → Builds (xs ++ (bytes_of a ++ (bytes_of b ++ ys)))
      → Same (xs ++ (bytes_of a ++ (bytes_of b ++ ys))) (xs ++ (bytes_of b ++ (bytes_of a ++ ys)))) → ⊥
  -- of rearranged and agreed: every permutation of settings
  pub twofold : ((cs ds : List Rec) → Each Sets cs → Rearranged cs ds → Exchange cs ds) → ⊥
  -- as many settings, each one of the others
  pub drawn : ((cs ds : List Rec) → Each Sets cs → Pairs Apart cs → length ds ≡ length cs → Each (λ d. 0 < times (bytes_of d) cs) ds → Exchange cs ds) → ⊥
  -- of often: a position may be taken twice
  pub again : ((cs ds : List Rec) (from : ℕ → ℕ) → length ds ≡ length cs → ((p : ℕ) → p < length ds → get_elem? ds p ≡ get_elem? cs (from p)) → AsOften cs ds) → ⊥
  -- of cut: every recipe
  pub uncut : ((r : List ℕ) → (front : List ℕ) × (cs : List Rec) × Cut front cs × (r ≡ front ++ flat cs)) → ⊥
  -- of once: records that are not whole
  pub parted : ((cs ds : List Rec) → flat cs ≡ flat ds → cs ≡ ds) → ⊥
  -- of of_one: settings with another record between them
  pub widths : ((front : List ℕ) (xs : List Rec) (a m b : Rec) (v w : Width) → Cut front (xs ++ (a ∷ m ∷ b ∷ [])) → Builds (front ++ flat (xs ++ (a ∷ m ∷ b ∷ [])))
      → SetsAs v a → SetsAs w b → v ≡ w) → ⊥
