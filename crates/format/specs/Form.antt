-- The forms of records, with their inner counts: types, lengths, layouts, and the ranges of their fields.
use Rattle.std.specs.Prelude.{ℕ, ◌+◌, ◌-◌, ◌*◌, ◌^◌, List, [], ◌∷◌, ◌++◌, Bool, true, replicate, eqb, leb, ltb}
use Rattle.format.specs.Bytes.{pick, both, all, at, bits}
use Rattle.format.specs.Layout.{Item, fix, fld, two, to, or_none}

-- a form for each way a record is laid out
pub data Form : Type 0 where
  processor : ℕ → Form  -- with n resources
  cache memory acpi pci rintc domain : Form
  old_rintc : Form  -- the RINTC without its domain
  matrix : ℕ → ℕ → Form  -- I by T
  side : ℕ → Form  -- with n SMBIOS handles
  bridge : ℕ → Form  -- with n bytes of registers
  window : ℕ → Form  -- with n targets
  xor : ℕ → Form  -- with n maps

-- the type that a record of the form has in its frame
abbrev pub type_of : Form → ℕ
type_of (processor n) = 0
type_of cache = 1
type_of memory = 1
type_of acpi = 5
type_of pci = 5
type_of rintc = 7
type_of old_rintc = 7
type_of domain = 0
type_of (matrix i t) = 1
type_of (side n) = 2
type_of (bridge n) = 0
type_of (window n) = 1
type_of (xor n) = 2

-- the length of a record
abbrev pub size : Form → ℕ
size (processor n) = 20 + 4 * n
size cache = 28
size memory = 40
size acpi = 32
size pci = 32
size rintc = 20
size old_rintc = 16
size domain = 40
size (matrix i t) = 32 + 4 * i + 4 * t + 2 * (i * t)
size (side n) = 32 + 2 * n
size (bridge n) = 32
size (window n) = 36 + 4 * n
size (xor n) = 8 + 8 * n

-- ---- how a recipe writes a matrix

-- its counts and indices are written in a byte, or in two
pub data Width : Type 0 where
  byte pair : Width

-- how many bytes that are
abbrev pub octets : Width → ℕ
octets byte = 1
octets pair = 2

-- a matrix has no more initiators than this, and no more targets
abbrev pub most : ℕ
most = 4096

-- both counts are up to n
abbrev pub up_to : ℕ → ℕ → ℕ → Bool
up_to n i t = both (leb i n) (leb t n)

-- the width that the normal form takes: a byte where both counts are up to 255
abbrev pub narrowest : ℕ → ℕ → Width
narrowest i t = pick (up_to 255 i t) byte pair

-- ---- layouts

-- PPTT and SRAT begin with type and length in a byte each
abbrev pub short : Form → List Item → List Item
short f is = fix 1 (type_of f) ∷ fix 1 (size f) ∷ is

-- HMAT begins with type, 2 zero, length in four bytes
abbrev pub long : Form → List Item → List Item
long f is = fix 2 (type_of f) ∷ fix 2 0 ∷ fix 4 (size f) ∷ is

-- CEDT begins with type, 1 zero, length in two bytes
abbrev pub middle : Form → List Item → List Item
middle f is = fix 1 (type_of f) ∷ fix 1 0 ∷ fix 2 (size f) ∷ is

-- the layout rows
unfoldable pub layout : Form → List Item
layout (processor n) =
    -- 2 zero, flags, parent, id, n, n offsets
    short (processor n) (fix 2 0 ∷ fld 4 ∷ or_none 0 ∷ fld 4 ∷ fix 4 n ∷ replicate n (to 1))
layout cache =
    -- 2 zero, flags 4, next level, size, sets, associativity, attributes, line size, id
    short cache (fix 2 0 ∷ fld 4 ∷ or_none 1 ∷ fld 4 ∷ fld 4 ∷ fld 1 ∷ fld 1 ∷ fld 2 ∷ fld 4 ∷ [])
layout memory =
    -- domain, 2 zero, base, length, 4 zero, flags 4, 8 zero
    short memory (fld 4 ∷ fix 2 0 ∷ fld 8 ∷ fld 8 ∷ fix 4 0 ∷ fld 4 ∷ fix 8 0 ∷ [])
layout acpi =
    -- 0, handle 0, domain, hid, uid, 4 zero, flags 4, 4 zero
    short acpi (fix 1 0 ∷ fix 1 0 ∷ fld 4 ∷ fld 8 ∷ fld 4 ∷ fix 4 0 ∷ fld 4 ∷ fix 4 0 ∷ [])
layout pci =
    -- 0, handle 1, domain, segment, bus, device times 8 plus function, 12 zero, flags 4, 4 zero
    short pci (fix 1 0 ∷ fix 1 1 ∷ fld 4 ∷ fld 2 ∷ fld 1 ∷ two 1 8 ∷ fix 12 0 ∷ fld 4 ∷ fix 4 0 ∷ [])
layout rintc =
    -- 2 zero, domain, uid, flags 4, clock domain
    short rintc (fix 2 0 ∷ fld 4 ∷ fld 4 ∷ fld 4 ∷ fld 4 ∷ [])
layout old_rintc =
    -- 2 zero, uid, flags 4, clock domain
    short old_rintc (fix 2 0 ∷ fld 4 ∷ fld 4 ∷ fld 4 ∷ [])
layout domain =
    -- flags 1 (2), 2 zero, initiator, memory, 20 zero
    long domain (fix 2 1 ∷ fix 2 0 ∷ fld 4 ∷ fld 4 ∷ fix 20 0 ∷ [])
layout (matrix i t) =
    -- flags, data type, transfer size, 0, I 4, T 4, 4 zero, unit 8, I and T values, cells
    long (matrix i t) (fld 1 ∷ fld 1 ∷ fld 1 ∷ fix 1 0 ∷ fix 4 i ∷ fix 4 t ∷ fix 4 0 ∷ fld 8 ∷ (replicate (i + t) (fld 4) ++ replicate (i * t) (fld 2)))
layout (side n) =
    -- domain, 4 zero, size 8, attributes, 2 zero, n 2, n handles
    long (side n) (fld 4 ∷ fix 4 0 ∷ fld 8 ∷ fld 4 ∷ fix 2 0 ∷ fix 2 n ∷ replicate n (fld 2))
layout (bridge n) =
    -- uid, version 4, 4 zero, base 8, length 8
    middle (bridge n) (fld 4 ∷ fld 4 ∷ fix 4 0 ∷ fld 8 ∷ fix 8 n ∷ [])
layout (window n) =
    -- 4 zero, base 8, size 8, ways, arithmetic, 2 zero, granularity 4, restrictions 2, QTG 2, n targets
    middle (window n) (fix 4 0 ∷ fld 8 ∷ fld 8 ∷ fld 1 ∷ fld 1 ∷ fix 2 0 ∷ fld 4 ∷ fld 2 ∷ fld 2 ∷ replicate n (fld 4))
layout (xor n) =
    -- 2 zero, granularity, n, n maps
    middle (xor n) (fix 2 0 ∷ fld 1 ∷ fix 1 n ∷ replicate n (fld 8))

-- ---- counts that a field settles

-- the bytes of a bridge's registers, by its version
unfoldable pub registers : ℕ → ℕ
registers v = pick (eqb v 0) 8192 65536

-- the number of ways, by its code: 0 to 4 stand for 1 to 16, 8 to 10 for 3, 6 and 12; no other code for any
unfoldable pub ways : ℕ → ℕ
ways c = pick (leb c 4) (2 ^ c) (pick (both (leb 8 c) (leb c 10)) (3 * 2 ^ (c - 8)) 0)

-- ---- ranges and bit rules

-- a field whose flag bit is off is 0
abbrev pub kept : ℕ → ℕ → ℕ → Bool
kept flags b v = pick (eqb (bits flags b 1) 1) true (eqb v 0)

-- allocation 0..2, type 0..2, policy, the rest 0; each with its flag
unfoldable pub cache_attributes : ℕ → ℕ → Bool
cache_attributes f a =
    all (leb (bits a 0 2) 2 ∷ leb (bits a 2 2) 2 ∷ ltb a 32 ∷ kept f 3 (bits a 0 2) ∷ kept f 4 (bits a 2 2) ∷ kept f 5 (bits a 4 1) ∷ [])

-- bits 0..1, 4 and 5, the rest 0
unfoldable pub matrix_flags : ℕ → Bool
matrix_flags v = both (eqb (bits v 2 2) 0) (ltb v 64)

-- levels 0..3, twice, associativity 0..2, policy 0..2, four bits each
unfoldable pub side_attributes : ℕ → Bool
side_attributes v = all (leb (bits v 0 4) 3 ∷ leb (bits v 4 4) 3 ∷ leb (bits v 8 4) 2 ∷ leb (bits v 12 4) 2 ∷ [])

-- a field that may hold any number
abbrev pub any : Bool
any = true

-- a test for each field, in order, of a matrix for its counts too, where a body has them; fields behind the last test may hold any number
unfoldable pub ranges : Form → List ℕ → List Bool
ranges (processor n) vs = []
ranges cache vs =
    let flags : ℕ = at vs 0 in
    ltb flags 256 ∷ any ∷ kept flags 0 (at vs 2) ∷ kept flags 1 (at vs 3) ∷ kept flags 2 (at vs 4)
    ∷ cache_attributes flags (at vs 5) ∷ kept flags 6 (at vs 6) ∷ kept flags 7 (at vs 7) ∷ []
ranges memory vs = any ∷ any ∷ any ∷ leb (at vs 3) 7 ∷ []
ranges acpi vs = any ∷ any ∷ any ∷ leb (at vs 3) 3 ∷ []
ranges pci vs = any ∷ any ∷ any ∷ leb (at vs 3) 31 ∷ leb (at vs 4) 7 ∷ leb (at vs 5) 3 ∷ []
ranges rintc vs = any ∷ any ∷ leb (at vs 2) 1 ∷ []
ranges old_rintc vs = any ∷ leb (at vs 1) 1 ∷ []
ranges domain vs = []
ranges (matrix i t) vs = matrix_flags (at vs 0) ∷ leb (at vs 1) 5 ∷ leb (at vs 2) 11 ∷ any ∷ leb i most ∷ leb t most ∷ []
ranges (side n) vs = any ∷ any ∷ side_attributes (at vs 2) ∷ []
ranges (bridge n) vs = any ∷ leb (at vs 1) 1 ∷ []
ranges (window n) vs = any ∷ any ∷ ltb 0 (ways (at vs 2)) ∷ leb (at vs 3) 1 ∷ leb (at vs 4) 6 ∷ leb (at vs 5) 31 ∷ []
ranges (xor n) vs = leb (at vs 0) 6 ∷ []
