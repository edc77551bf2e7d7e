-- Demand 1 for build: when each answer is given, and at which place, as the tables of documents 01 and 02 have it.
use Rattle.std.specs.Prelude.{◌≡◌, ◌↔◌, ◌⊎◌, ℕ, suc, ◌+◌, ◌≤◌, ◌<◌, List, [], ◌∷◌, length, drop, eqb}
use Rattle.std.proofs.Math.Option.{Option, none, some}
use Rattle.format.specs.Bytes.{pick, Answer, refused, given, at, part}
use Rattle.format.specs.Layout.{width, fields}
use Rattle.format.specs.Table.{Table, pptt, srat, hmat, cedt, code, front, limit, head_of}
use Rattle.format.specs.Form.{cache, memory, acpi, pci, rintc, matrix, side, bridge, window, xor, octets, registers, ways, type_of}
use Rattle.format.specs.Node.{Node, sizes}
use Rattle.format.specs.Kind.{Kind, Processor, Resource, Cache, Memory, Acpi, Pci, Rintc, Domain, Matrix, Initiator, Target, Cell, Side, Handle, Bridge, Window, WindowTarget, Xor, Map, matrix_number, kind_number, body}
use Rattle.format.specs.Recipe.{Newest, a_list, a_matrix, other, newest, added, Meaning}
use Rattle.format.specs.Build.{length_of, build}
use Rattle.laws.specs.Words.{FirstOf, NoneOf, Every, FirstNot, Among, Rules, References}

-- ---- the kinds

-- 16 to 18 PPTT, 32 to 36 SRAT, 48 to 58 HMAT, 64 to 68 CEDT
abbrev pub Belongs : Table → ℕ → Type 0
Belongs pptt b = (16 ≤ b) × (b ≤ 18)
Belongs srat b = (32 ≤ b) × (b ≤ 36)
Belongs hmat b = (48 ≤ b) × (b ≤ 58)
Belongs cedt b = (64 ≤ b) × (b ≤ 68)

-- one of them, 35 of SRAT, is retired
abbrev pub Retired : Table → ℕ → Type 0
Retired t b = Belongs t b × (b ≡ 35)

-- the kind bytes, from the first to the last, directly after which a record of the kind stands, for it joins their node; none: it makes one
abbrev pub joins : Kind → Option (ℕ × ℕ)
joins Processor = none
joins Resource = some (16, 17)
joins Cache = none
joins Memory = none
joins Acpi = none
joins Pci = none
joins Rintc = none
joins Domain = none
joins (Matrix w) = none
joins (Initiator w) = some (matrix_number w, matrix_number w + 3)
joins (Target w) = some (matrix_number w, matrix_number w + 3)
joins (Cell w) = some (matrix_number w, matrix_number w + 3)
joins Side = none
joins Handle = some (53, 54)
joins Bridge = none
joins Window = none
joins WindowTarget = some (65, 66)
joins Xor = none
joins Map = some (67, 68)

-- one that joins stands directly after a record of kind byte b
abbrev pub After : Option (ℕ × ℕ) → ℕ → Type 0
After none b = Unit
After (some j) b = (j.0 ≤ b) × (b ≤ j.1)

-- of the nodes ns, those before the record's own node
abbrev pub earlier : Option (ℕ × ℕ) → List Node → List Node
earlier none ns = ns
earlier (some j) ns = drop 1 ns

-- the record that made a node: one at p made one of its own, one that joins is of the node that the record at w made
abbrev pub made_at : Option (ℕ × ℕ) → ℕ → ℕ → ℕ
made_at none p w = p
made_at (some j) p w = w

-- ---- what a record's node has

-- how many entries its list has
abbrev pub entries : Newest → ℕ
entries (a_list k least most n f us ns) = n
entries (a_matrix i t us ns) = 0
entries other = 0

-- how many it has to have: a window its ways
abbrev pub needed : Newest → ℕ
needed (a_list k least most n f us ns) = least
needed (a_matrix i t us ns) = 0
needed other = 0

-- I and T
abbrev pub counts : Newest → ℕ × ℕ
counts (a_list k least most n f us ns) = (0, 0)
counts (a_matrix i t us ns) = (i, t)
counts other = (0, 0)

-- ---- a record of kind k with the fields vs, behind nodes of which the newest is n

-- a condition for each field of its body, in order: ranges and bit rules; indices below I and T; fields behind the last may hold any number
abbrev pub Ranged : Kind → List ℕ → Newest → List (Type 0)
Ranged Processor vs n = []
Ranged Resource vs n = []
Ranged Cache vs n = Rules cache vs
Ranged Memory vs n = Rules memory vs
Ranged Acpi vs n = Rules acpi vs
Ranged Pci vs n = Rules pci vs
Ranged Rintc vs n = Rules rintc vs
Ranged Domain vs n = []
Ranged (Matrix w) vs n = Rules (matrix (at vs 4) (at vs 5)) vs
Ranged (Initiator w) vs n = (at vs 0 < (counts n).0) ∷ []
Ranged (Target w) vs n = (at vs 0 < (counts n).1) ∷ []
Ranged (Cell w) vs n = (at vs 0 < (counts n).0) ∷ (at vs 1 < (counts n).1) ∷ []
Ranged Side vs n = Rules (side 0) vs
Ranged Handle vs n = []
Ranged Bridge vs n = Rules (bridge (registers (at vs 1))) vs
Ranged Window vs n = Rules (window (ways (at vs 2))) vs
Ranged WindowTarget vs n = []
Ranged Xor vs n = Rules (xor 0) vs
Ranged Map vs n = []

-- where each field of a body begins, counted from the kind byte
abbrev pub places : Kind → List ℕ
places Processor = 1 ∷ 5 ∷ 9 ∷ []
places Resource = 1 ∷ []
places Cache = 1 ∷ 2 ∷ 6 ∷ 10 ∷ 14 ∷ 15 ∷ 16 ∷ 18 ∷ []
places Memory = 1 ∷ 5 ∷ 13 ∷ 21 ∷ []
places Acpi = 1 ∷ 5 ∷ 13 ∷ 17 ∷ []
places Pci = 1 ∷ 5 ∷ 7 ∷ 8 ∷ 9 ∷ 10 ∷ []
places Rintc = 1 ∷ 5 ∷ 9 ∷ 10 ∷ []
places Domain = 1 ∷ 5 ∷ []
places (Matrix w) = 1 ∷ 2 ∷ 3 ∷ 4 ∷ 12 ∷ (12 + octets w) ∷ []
places (Initiator w) = 1 ∷ (1 + octets w) ∷ []
places (Target w) = 1 ∷ (1 + octets w) ∷ []
places (Cell w) = 1 ∷ (1 + octets w) ∷ (1 + octets w + octets w) ∷ []
places Side = 1 ∷ 5 ∷ 13 ∷ []
places Handle = 1 ∷ []
places Bridge = 1 ∷ 5 ∷ 6 ∷ []
places Window = 1 ∷ 9 ∷ 17 ∷ 18 ∷ 19 ∷ 20 ∷ 21 ∷ []
places WindowTarget = 1 ∷ []
places Xor = 1 ∷ []
places Map = 1 ∷ []

-- the 59th resource, the 65,536th SMBIOS handle, a target more than the ways, the 256th map
abbrev pub Full : Kind → Newest → Type 0
Full Processor n = ⊥
Full Resource n = 58 ≤ entries n
Full Cache n = ⊥
Full Memory n = ⊥
Full Acpi n = ⊥
Full Pci n = ⊥
Full Rintc n = ⊥
Full Domain n = ⊥
Full (Matrix w) n = ⊥
Full (Initiator w) n = ⊥
Full (Target w) n = ⊥
Full (Cell w) n = ⊥
Full Side n = ⊥
Full Handle n = 65535 ≤ entries n
Full Bridge n = ⊥
Full Window n = ⊥
Full WindowTarget n = needed n ≤ entries n
Full Xor n = ⊥
Full Map n = 255 ≤ entries n

-- it lacks entries
abbrev pub Lacks : Newest → Type 0
Lacks n = entries n < needed n

-- v is not 0, and below the ordinal of the node that comes behind the nodes ns, whatever type ty it has to be of
abbrev pub Backward : List Node → ℕ → ℕ → Type 0
Backward ns v ty = (1 ≤ v) × (v < suc (length ns))

-- v is the ordinal, counted from 1, of one of the nodes ns, and that is of type ty
abbrev pub Names : List Node → ℕ → ℕ → Type 0
Names ns v ty = Among (λ n before. (v ≡ suc (length before)) × (type_of n.form ≡ ty)) ns

-- ---- the faults in order

-- of the head
abbrev pub head_faults : List ℕ → List (ℕ × Type 0)
head_faults r = (1, at r 0 ≡ 1 → ⊥) ∷ (3, length r < 28) ∷ (5, 3 < at r 1) ∷ []

-- of a whole record of kind k with the fields vs, behind the nodes ns; b: the kind byte of the record directly before
abbrev pub record_faults : Table → ℕ → List Node → Kind → List ℕ → List (ℕ × Type 0)
record_faults t b ns k vs =
    (4, After (joins k) b → ⊥)
    ∷ (5, Every (Ranged k vs (newest ns)) → ⊥)
    ∷ (6, References (Backward (earlier (joins k) ns)) (body k) vs → ⊥)
    ∷ (10, References (Names (earlier (joins k) ns)) (body k) vs → ⊥)
    ∷ (7, Full k (newest ns))
    ∷ (8, limit < front t + sizes (added k vs ns)) ∷ []

-- the place of fault n of such a record at p: of a bad field, those before it being good, its first byte; of every other the kind byte
abbrev pub Where : ℕ → List Node → Kind → List ℕ → ℕ → ℕ → Type 0
Where n ns k vs p place = pick (eqb n 5) ((j : ℕ) × FirstNot j (Ranged k vs (newest ns)) × (place ≡ p + at (places k) j)) (place ≡ p)

-- the fields of a body behind the kind byte at p
abbrev pub fields_at : List ℕ → ℕ → Kind → List ℕ
fields_at r p k = fields (body k) (drop (suc p) r)

-- where the body of a record at p ends
abbrev pub end_of : ℕ → Kind → ℕ
end_of p k = suc p + width (body k)

-- of a record of kind k at p, behind the nodes ns; the record directly before starts at q
abbrev pub faults : Table → List ℕ → ℕ → List Node → ℕ → Kind → List (ℕ × Type 0)
faults t r q ns p k = (3, length r < end_of p k) ∷ record_faults t (at r q) ns k (fields_at r p k)

-- ---- the records, one after the other

-- the head is whole, and names table t
abbrev pub Headed : Table → List ℕ → Type 0
Headed t r = (at r 0 ≡ 1) × (28 ≤ length r) × (at r 1 ≡ code t)

-- a kind byte of table t, that of kind k
abbrev pub OfKind : Table → ℕ → Kind → Type 0
OfKind t b k = Belongs t b × (b ≡ kind_number k)

-- what stands at p may come behind the nodes ns: where the newest lacks entries, it is one; p may be the end
abbrev pub Ready : Table → List ℕ → List Node → ℕ → Type 0
Ready t r ns p = Lacks (newest ns) → OfKind t (at r p) WindowTarget

-- all records of r between the head and place p are without fault, and mean the nodes ns; the last of them, or the head, starts at q; the one that made the newest node at w
pub data Reaches (t : Table) (r : List ℕ) : ℕ → ℕ → List Node → ℕ → Type 0 where
  start : Reaches t r 0 0 [] 28
  next : {q w p : ℕ} {ns : List Node} → Reaches t r q w ns p → Ready t r ns p → (k : Kind) → OfKind t (at r p) k → NoneOf (faults t r q ns p k)
      → Reaches t r p (made_at (joins k) p w) (added k (fields_at r p k) ns) (end_of p k)

-- a record stands at p, none before it is faulty, and it may come there
pub record Comes (t : Table) (r : List ℕ) (q w : ℕ) (ns : List Node) (p : ℕ) : Type 0 where
  pub head : Headed t r
  pub reached : Reaches t r q w ns p
  pub here : p < length r
  pub ready : Ready t r ns p

-- r means m: no record of it is faulty, and the last node lacks nothing
pub record Says (r : List ℕ) (m : Meaning) : Type 0 where
  pub head : Headed m.head.table r
  pub identity : m.head ≡ head_of m.head.table (part r 2 26)
  pub last : ℕ
  pub made : ℕ
  pub reached : Reaches m.head.table r last made m.nodes (length r)
  pub whole : Lacks (newest m.nodes) → ⊥

-- ---- each number

-- 1 and 3 of the head, at its kind byte, and 5 at its first field
abbrev pub AtHead : ℕ → List ℕ → ℕ → Type 0
AtHead n r place = FirstOf n (head_faults r) × (place ≡ pick (eqb n 5) 1 0)

-- 2 of the record at p
abbrev pub BadKind : List ℕ → ℕ → Type 0
BadKind r p = (t : Table) × (q : ℕ) × (w : ℕ) × (ns : List Node) × Comes t r q w ns p × (Belongs t (at r p) → ⊥)

-- 12 of the record at p
abbrev pub RetiredKind : List ℕ → ℕ → Type 0
RetiredKind r p = (t : Table) × (q : ℕ) × (w : ℕ) × (ns : List Node) × Comes t r q w ns p × Retired t (at r p)

-- 2 or 12
abbrev pub NoKind : ℕ → List ℕ → ℕ → Type 0
NoKind n r p = ((n ≡ 2) × BadKind r p) ⊎ ((n ≡ 12) × RetiredKind r p)

-- 3 to 8 and 10, of a record at p
abbrev pub AtRecord : ℕ → List ℕ → ℕ → Type 0
AtRecord n r place =
    (t : Table) × (q : ℕ) × (w : ℕ) × (ns : List Node) × (p : ℕ) × (k : Kind)
    × Comes t r q w ns p × OfKind t (at r p) k × FirstOf n (faults t r q ns p k) × Where n ns k (fields_at r p k) p place

-- 11: behind good records, the newest of whose nodes lacks entries, comes the end or what is no entry; the place is that of the node's own record
abbrev pub Incomplete : List ℕ → ℕ → Type 0
Incomplete r place = (t : Table) × (q : ℕ) × (ns : List Node) × (p : ℕ) × Headed t r × Reaches t r q place ns p × (Ready t r ns p → ⊥)

-- 9: the table of what r means is longer than the room, and that is the place
abbrev pub NoRoom : List ℕ → ℕ → ℕ → Type 0
NoRoom r room p = (m : Meaning) × Says r m × (room < length_of m) × (p ≡ length_of m)

-- the length n of the table of what r means, which has room
abbrev pub HasRoom : List ℕ → ℕ → ℕ → Type 0
HasRoom r room n = (m : Meaning) × Says r m × (length_of m ≤ room) × (n ≡ length_of m)

pub record Exactly (r : List ℕ) (room : ℕ) : Type 0 where
  pub no_head : (p : ℕ) → (build r room ≡ refused 1 p) ↔ AtHead 1 r p
  pub bad_kind : (p : ℕ) → (build r room ≡ refused 2 p) ↔ BadKind r p
  pub retired : (p : ℕ) → (build r room ≡ refused 12 p) ↔ RetiredKind r p
  pub cut : (p : ℕ) → (build r room ≡ refused 3 p) ↔ (AtHead 3 r p ⊎ AtRecord 3 r p)
  pub misplaced : (p : ℕ) → (build r room ≡ refused 4 p) ↔ AtRecord 4 r p
  pub bad_field : (p : ℕ) → (build r room ≡ refused 5 p) ↔ (AtHead 5 r p ⊎ AtRecord 5 r p)
  pub forward : (p : ℕ) → (build r room ≡ refused 6 p) ↔ AtRecord 6 r p
  pub wrong_kind : (p : ℕ) → (build r room ≡ refused 10 p) ↔ AtRecord 10 r p
  pub full_node : (p : ℕ) → (build r room ≡ refused 7 p) ↔ AtRecord 7 r p
  pub too_long : (p : ℕ) → (build r room ≡ refused 8 p) ↔ AtRecord 8 r p
  pub incomplete : (p : ℕ) → (build r room ≡ refused 11 p) ↔ Incomplete r p
  pub no_room : (p : ℕ) → (build r room ≡ refused 9 p) ↔ NoRoom r room p
  pub length : (n : ℕ) → (build r room ≡ given n) ↔ HasRoom r room n

-- ---- exactly one answer

-- what has to hold for an answer
abbrev pub Earned : List ℕ → ℕ → Answer ℕ → Type 0
Earned r room (refused n p) = AtHead n r p ⊎ (NoKind n r p ⊎ (AtRecord n r p ⊎ (((n ≡ 11) × Incomplete r p) ⊎ ((n ≡ 9) × NoRoom r room p))))
Earned r room (given n) = HasRoom r room n

-- it holds for the answer of build, and for no other; a refusal's number is one of the list's
pub record One (r : List ℕ) (room : ℕ) : Type 0 where
  pub earned : Earned r room (build r room)
  pub only : (a : Answer ℕ) → Earned r room a → build r room ≡ a
  pub numbers : (n p : ℕ) → build r room ≡ refused n p → (1 ≤ n) × (n ≤ 12)
