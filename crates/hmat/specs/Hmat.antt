-- What the node types of HMAT are in the words of the format.
use Rattle.std.specs.Prelude.{ℕ, ◌+◌, ◌*◌, ◌^◌, List, [], ◌∷◌, ◌++◌, take, replicate}
use Rattle.std.specs.Int.Bits.{bit_or}
use Rattle.format.specs.Bytes.{le, over}
use Rattle.format.specs.Layout.{lay}
use Rattle.format.specs.Form.{Form, domain, matrix, side, size, layout}
use Rattle.format.specs.Node.{Node, node}
use Rattle.format.specs.Recipe.{unset}
use Rattle.hmat.specs.declared.MemoryProximityDomain.{MemoryProximityDomain}
use Rattle.hmat.specs.declared.SystemLocality.{SystemLocality}
use Rattle.hmat.specs.declared.MemorySideCache.{MemorySideCache}
use Rattle.hmat.specs.declared.DataType.{DataType}
use Rattle.hmat.specs.declared.MinTransferSize.{MinTransferSize}
use Rattle.hmat.specs.declared.LocalityType.{LocalityType}
use Rattle.hmat.specs.declared.CacheLevel.{CacheLevel}
use Rattle.hmat.specs.declared.Associativity.{Associativity}
use Rattle.hmat.specs.declared.WritePolicy.{WritePolicy}
use Rattle.hmat.specs.Numbers.{data_type_number, transfer_number, locality_number, level_number, associativity_number, policy_number}

-- ---- domains

abbrev pub domain_of : ℕ → ℕ → MemoryProximityDomain
domain_of i m = record { proximity_domain_initiator = i; proximity_domain_memory = m }

-- row 5 shows initiator and memory
abbrev pub domain_shown : MemoryProximityDomain → List ℕ
domain_shown d = d.proximity_domain_initiator ∷ d.proximity_domain_memory ∷ []

abbrev pub domain_node : MemoryProximityDomain → Node
domain_node d = node domain (domain_shown d)

-- ---- matrices

abbrev pub matrix_of : LocalityType → DataType → MinTransferSize → ℕ → ℕ → ℕ → SystemLocality
matrix_of l d s u i t =
    record { flags = locality_number l; data_type = data_type_number d; min_transfer_size = transfer_number s; entry_base_unit = u; initiators = i; targets = t }

-- with flag bit k on
abbrev pub matrix_with : ℕ → SystemLocality → SystemLocality
matrix_with k m =
    record { flags = bit_or m.flags (2 ^ k); data_type = m.data_type; min_transfer_size = m.min_transfer_size; entry_base_unit = m.entry_base_unit; initiators = m.initiators; targets = m.targets }

abbrev pub matrix_form : SystemLocality → Form
matrix_form m = matrix m.initiators m.targets

-- the fields before the values
abbrev pub matrix_fields : SystemLocality → List ℕ
matrix_fields m = m.flags ∷ m.data_type ∷ m.min_transfer_size ∷ m.entry_base_unit ∷ []

-- the fields of a recipe's record
abbrev pub matrix_call : SystemLocality → List ℕ
matrix_call m = matrix_fields m ++ (m.initiators ∷ m.targets ∷ [])

abbrev pub matrix_head : SystemLocality → Node
matrix_head m = node (matrix_form m) (matrix_fields m)

-- of which nothing is set
abbrev pub matrix_node : SystemLocality → Node
matrix_node m = node (matrix_form m) (unset m.initiators m.targets (matrix_fields m))

-- the 32 bytes before the values
unfoldable pub matrix_front : SystemLocality → List ℕ
matrix_front m = lay (take 11 (layout (matrix_form m))) (matrix_fields m)

-- the bytes of I and T values of 0 and of I times T cells of 65535
abbrev pub matrix_unset : SystemLocality → List ℕ
matrix_unset m = replicate (4 * (m.initiators + m.targets)) 0 ++ replicate (2 * (m.initiators * m.targets)) 255

-- rows 6 and 12 show flags, data type, transfer size, I, T, unit
abbrev pub matrix_shown : SystemLocality → List ℕ
matrix_shown m =
    m.flags ∷ m.data_type ∷ m.min_transfer_size ∷ m.initiators ∷ m.targets ∷ m.entry_base_unit ∷ []

-- ---- side caches

-- levels at bits 0 and 4, associativity at bit 8, policy at bit 12, line size in the top half
abbrev pub attributes_of : CacheLevel → CacheLevel → Associativity → WritePolicy → ℕ → ℕ
attributes_of all this a p line =
    level_number all + level_number this * 2 ^ 4 + associativity_number a * 2 ^ 8 + policy_number p * 2 ^ 12 + line * 2 ^ 16

abbrev pub side_of : ℕ → ℕ → CacheLevel → CacheLevel → Associativity → WritePolicy → ℕ → MemorySideCache
side_of d s all this a p line =
    record { proximity_domain = d; cache_size = s; attributes = attributes_of all this a p line; smbios_handles = 0 }

abbrev pub side_form : MemorySideCache → Form
side_form s = side s.smbios_handles

-- the fields before the handles
abbrev pub side_fields : MemorySideCache → List ℕ
side_fields s = s.proximity_domain ∷ s.cache_size ∷ s.attributes ∷ []

abbrev pub side_head : MemorySideCache → Node
side_head s = node (side_form s) (side_fields s)

-- the 32 bytes before the handles
unfoldable pub side_front : MemorySideCache → List ℕ
side_front s = lay (take 9 (layout (side_form s))) (side_fields s)

-- the bytes of handles
unfoldable pub handles : List ℕ → List ℕ
handles [] = []
handles (h ∷ hs) = le 2 h ++ handles hs

-- row 7 shows domain, size, attributes, n
abbrev pub side_shown : MemorySideCache → List ℕ
side_shown s = s.proximity_domain ∷ s.cache_size ∷ s.attributes ∷ s.smbios_handles ∷ []

-- a handle more than n in the record at p: the length in four bytes, the count in two, and the handle
unfoldable pub grown : List ℕ → ℕ → ℕ → ℕ → List ℕ
grown out p n h = over (over (over out (p + 4) (le 4 (size (side (n + 1))))) (p + 30) (le 2 (n + 1))) (p + 32 + 2 * n) (le 2 h)
