-- What the records of SRAT are in the words of the format, and what constructors and setters make of them.
use Rattle.std.specs.Prelude.{ℕ, ◌^◌, List, [], ◌∷◌, ◌++◌, Bool, false, eqb, leb}
use Rattle.std.specs.Int.Bits.{bit_or}
use Rattle.format.specs.Bytes.{pick, all, value, part}
use Rattle.format.specs.Form.{Form, memory, acpi, pci, rintc, old_rintc, any}
use Rattle.format.specs.Node.{Node, node}
use Rattle.format.specs.Kind as kind
use Rattle.format.specs.Field.{bad_in}
use Rattle.srat.specs.declared.Handle.{Handle}
use Rattle.srat.specs.declared.Handle.TheVariants.{Acpi, Pci}
use Rattle.srat.specs.declared.MemoryAffinity.{MemoryAffinity}
use Rattle.srat.specs.declared.GenericInitiator.{GenericInitiator}
use Rattle.srat.specs.declared.RintcAffinity.{RintcAffinity}
use Rattle.srat.specs.declared.OldRintcAffinity.{OldRintcAffinity}

-- ---- handles

-- the form of an initiator with this handle
abbrev pub handle_form : Handle → Form
handle_form (Acpi h u) = acpi
handle_form (Pci s b d f) = pci

-- what the record says of it: 0 ACPI or 1 PCI
abbrev pub handle_type : Handle → ℕ
handle_type (Acpi h u) = 0
handle_type (Pci s b d f) = 1

-- hid and uid; or segment, bus, device and function
abbrev pub handle_values : Handle → List ℕ
handle_values (Acpi h u) = h ∷ u ∷ []
handle_values (Pci s b d f) = s ∷ b ∷ d ∷ f ∷ []

-- the handle type of a record, and the zeros behind the handle: 4 behind hid and uid, 12 behind device and function
unfoldable pub handle_fixed : List ℕ → Bool
handle_fixed bs =
    let ty : ℕ = value (part bs 3 1) in
    pick (eqb ty 0) (eqb (value (part bs 20 4)) 0) (pick (eqb ty 1) (eqb (value (part bs 12 12)) 0) false)

-- the place of the first field of a handle outside its range, counted from the kind byte; 0 where there is none
abbrev pub handle_bad : Handle → ℕ
handle_bad (Acpi h u) = 0
handle_bad (Pci s b d f) = bad_in kind.Pci (any ∷ any ∷ any ∷ leb d 31 ∷ leb f 7 ∷ [])

-- the place of the flags behind a handle, counted from the kind byte
abbrev pub flags_place : Handle → ℕ
flags_place (Acpi h u) = 17
flags_place (Pci s b d f) = 10

-- a RINTC of n bytes, with its domain or without: the type, the length, two zeros
abbrev pub rintc_fixed : ℕ → List ℕ → Bool
rintc_fixed n bs = all (eqb (value (part bs 0 1)) 7 ∷ eqb (value (part bs 1 1)) n ∷ eqb (value (part bs 2 2)) 0 ∷ [])

-- ---- nodes of the format

-- domain, base, length, flags
abbrev pub memory_node : MemoryAffinity → Node
memory_node m = node memory (m.proximity_domain ∷ m.base_address ∷ m.length ∷ m.flags ∷ [])

-- domain, the handle's own fields, flags
abbrev pub initiator_node : GenericInitiator → Node
initiator_node i = node (handle_form i.handle) (i.proximity_domain ∷ (handle_values i.handle ++ (i.flags ∷ [])))

-- domain, uid, flags, clock domain
abbrev pub rintc_node : RintcAffinity → Node
rintc_node r = node rintc (r.proximity_domain ∷ r.acpi_processor_uid ∷ r.flags ∷ r.clock_domain ∷ [])

-- uid, flags, clock domain
abbrev pub old_rintc_node : OldRintcAffinity → Node
old_rintc_node r = node old_rintc (r.acpi_processor_uid ∷ r.flags ∷ r.clock_domain ∷ [])

-- ---- values as a reading call shows them

-- row 2: domain, base, length, flags
abbrev pub memory_shown : MemoryAffinity → List ℕ
memory_shown m = m.proximity_domain ∷ m.base_address ∷ m.length ∷ m.flags ∷ []

-- row 3: handle type, domain, handle, flags
abbrev pub initiator_shown : GenericInitiator → List ℕ
initiator_shown i = handle_type i.handle ∷ i.proximity_domain ∷ (handle_values i.handle ++ (i.flags ∷ []))

-- row 11: domain, uid, flags, clock domain
abbrev pub rintc_shown : RintcAffinity → List ℕ
rintc_shown r = r.proximity_domain ∷ r.acpi_processor_uid ∷ r.flags ∷ r.clock_domain ∷ []

-- row 4: uid, flags, clock domain
abbrev pub old_rintc_shown : OldRintcAffinity → List ℕ
old_rintc_shown r = r.acpi_processor_uid ∷ r.flags ∷ r.clock_domain ∷ []

-- ---- constructors and setters

-- memory with no flag set
abbrev pub memory_of : ℕ → ℕ → ℕ → MemoryAffinity
memory_of domain base n = record { proximity_domain = domain; base_address = base; length = n; flags = 0 }

-- the same memory with flag bit k set
abbrev pub memory_with : ℕ → MemoryAffinity → MemoryAffinity
memory_with k m =
    record { proximity_domain = m.proximity_domain; base_address = m.base_address; length = m.length; flags = bit_or m.flags (2 ^ k) }

-- an initiator with no flag set
abbrev pub initiator_of : ℕ → Handle → GenericInitiator
initiator_of domain h = record { proximity_domain = domain; handle = h; flags = 0 }

-- the same initiator with flag bit k set
abbrev pub initiator_with : ℕ → GenericInitiator → GenericInitiator
initiator_with k i = record { proximity_domain = i.proximity_domain; handle = i.handle; flags = bit_or i.flags (2 ^ k) }

-- an interrupt controller with no flag set
abbrev pub rintc_of : ℕ → ℕ → ℕ → RintcAffinity
rintc_of domain uid clock = record { proximity_domain = domain; acpi_processor_uid = uid; flags = 0; clock_domain = clock }

-- the same interrupt controller with flag bit k set
abbrev pub rintc_with : ℕ → RintcAffinity → RintcAffinity
rintc_with k r =
    record { proximity_domain = r.proximity_domain; acpi_processor_uid = r.acpi_processor_uid; flags = bit_or r.flags (2 ^ k); clock_domain = r.clock_domain }
