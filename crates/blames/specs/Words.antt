-- A place of a recipe in words: the field that begins there, its record, and where that begins.
use Rattle.std.specs.Prelude.{ℕ, ◌+◌, List, [], ◌∷◌, ◌++◌, not, length, drop, eqb, leb, ltb}
use Rattle.std.proofs.Math.Option.{Option, none, some}
use Rattle.format.specs.Bytes.{pick, at}
use Rattle.format.specs.Layout.{Item, wide, width}
use Rattle.format.specs.Table.{Table}
use Rattle.format.specs.Kind.{Kind, Processor, Resource, Cache, Memory, Acpi, Pci, Rintc, Domain, Matrix, Initiator, Target, Cell, Side, Handle, Bridge, Window, WindowTarget, Xor, Map, body}
use Rattle.format.specs.Recipe.{Calls, done, bad_kind, cut_off, called, cut, table_of}
use Rattle.format.specs.Listing.{spaced}
use Rattle.text.specs.Text.{text}

-- ---- names

-- what a record is called, of either width
unfoldable pub record_name : Kind → List ℕ
record_name Processor = text "processor"
record_name Resource = text "resource"
record_name Cache = text "cache"
record_name Memory = text "memory affinity"
record_name Acpi = text "generic initiator"
record_name Pci = text "generic initiator"
record_name Rintc = text "RINTC affinity"
record_name Domain = text "proximity domain"
record_name (Matrix w) = text "matrix"
record_name (Initiator w) = text "initiator value"
record_name (Target w) = text "target value"
record_name (Cell w) = text "cell"
record_name Side = text "side cache"
record_name Handle = text "SMBIOS handle"
record_name Bridge = text "CXL host bridge"
record_name Window = text "CXL window"
record_name WindowTarget = text "target of a CXL window"
record_name Xor = text "XOR maths"
record_name Map = text "XOR map"

-- what the fields of a body are called, in its order
unfoldable pub field_names : Kind → List (List ℕ)
field_names Processor = text "flags" ∷ text "parent" ∷ text "processor ID" ∷ []
field_names Resource = text "cache" ∷ []
field_names Cache = text "flags" ∷ text "next level" ∷ text "size" ∷ text "sets" ∷ text "associativity" ∷ text "attributes" ∷ text "line size" ∷ text "ID" ∷ []
field_names Memory = text "domain" ∷ text "base" ∷ text "length" ∷ text "flags" ∷ []
field_names Acpi = text "domain" ∷ text "hid" ∷ text "uid" ∷ text "flags" ∷ []
field_names Pci = text "domain" ∷ text "segment" ∷ text "bus" ∷ text "device" ∷ text "function" ∷ text "flags" ∷ []
field_names Rintc = text "domain" ∷ text "uid" ∷ text "flags" ∷ text "clock domain" ∷ []
field_names Domain = text "initiator" ∷ text "memory" ∷ []
field_names (Matrix w) = text "flags" ∷ text "data type" ∷ text "transfer size" ∷ text "base unit" ∷ text "initiators" ∷ text "targets" ∷ []
field_names (Initiator w) = text "index" ∷ text "value" ∷ []
field_names (Target w) = text "index" ∷ text "value" ∷ []
field_names (Cell w) = text "initiator" ∷ text "target" ∷ text "value" ∷ []
field_names Side = text "domain" ∷ text "size" ∷ text "attributes" ∷ []
field_names Handle = text "handle" ∷ []
field_names Bridge = text "uid" ∷ text "version" ∷ text "base" ∷ []
field_names Window = text "base" ∷ text "size" ∷ text "ways" ∷ text "arithmetic" ∷ text "granularity" ∷ text "restrictions" ∷ text "QTG" ∷ []
field_names WindowTarget = text "uid" ∷ []
field_names Xor = text "granularity" ∷ []
field_names Map = text "map" ∷ []

-- the name of the field that begins at a place, nothing where none does; p: where the first one begins
unfoldable pub name_at : ℕ → List Item → List (List ℕ) → ℕ → List ℕ
name_at p [] ns place = []
name_at p (i ∷ is) [] place = []
name_at p (i ∷ is) (n ∷ ns) place = pick (eqb place p) n (name_at (p + wide i) is ns place)

-- "FIELD of the RECORD"; nothing of a field without a name
unfoldable pub of_the : List ℕ → List ℕ → List ℕ
of_the [] name = []
of_the (c ∷ cs) name = (c ∷ cs) ++ (text " of the " ++ name)

-- the same of the field of a record that begins at a place; p: where the first one begins
unfoldable pub field_of : Kind → ℕ → ℕ → List ℕ
field_of k p place = of_the (name_at p (body k) (field_names k) place) (record_name k)

-- ---- records

-- the record of kind k at p, where it ends behind the place; else another
abbrev pub if_holds : ℕ → ℕ → Kind → Option (Kind × ℕ) → Option (Kind × ℕ)
if_holds place p k other = pick (ltb place (p + 1 + width (body k))) (some (k, p)) other

-- the first record that ends behind a place: its kind, and where it begins
unfoldable pub holder : ℕ → Calls → Option (Kind × ℕ)
holder place done = none
holder place (bad_kind n p) = none
holder place (cut_off p k) = if_holds place p k none
holder place (called p k vs rest) = if_holds place p k (holder place rest)

-- the records behind the head, 28 bytes, that names a table
abbrev pub records_of : Option Table → List ℕ → Calls
records_of none r = done
records_of (some t) r = cut t 0 28 (drop 28 r)

-- ---- words

-- the place of the record behind its field; nothing of no field
unfoldable pub words : List ℕ → ℕ → List ℕ
words [] p = []
words (c ∷ cs) p = (c ∷ cs) ++ (text " at" ++ spaced p)

-- for the field that begins at a place of the head: only the table code can be bad
unfoldable pub head_words : ℕ → List ℕ
head_words place = words (of_the (pick (eqb place 1) (text "table code") []) (text "head")) 0

-- for the field that begins at a place of a record of kind k at p
unfoldable pub record_words : ℕ → Option (Kind × ℕ) → List ℕ
record_words place none = []
record_words place (some (k, p)) = words (field_of k (p + 1) place) p

-- for the field that begins at a place of a recipe; nothing where none does, and of bytes that do not begin with a head
unfoldable pub field_words : List ℕ → ℕ → List ℕ
field_words r place =
    pick (not (eqb (at r 0) 1)) []
    (pick (leb (length r) place) []
    (pick (ltb place 28) (head_words place)
    (record_words place (holder place (records_of (table_of (at r 1)) r)))))
