-- A processor in the words of the format: its fields, the fixed part of its record, its resources, and what one more does to the record.
use Rattle.std.specs.Prelude.{ℕ, ◌+◌, ◌^◌, List, [], ◌∷◌, ◌++◌, take}
use Rattle.std.specs.Int.Bits.{bit_or}
use Rattle.format.specs.Bytes.{le, value, part, over}
use Rattle.format.specs.Layout.{lay, fields}
use Rattle.format.specs.Form.{processor, size, layout}
use Rattle.format.specs.Node.{Node, node}
use Rattle.format.specs.Read.{shown}
use Rattle.pptt.specs.declared.CacheHandle.{CacheHandle}
use Rattle.pptt.specs.declared.ProcessorHandle.{ProcessorHandle}
use Rattle.pptt.specs.declared.ProcessorNode.{ProcessorNode}
use Rattle.pptt.specs.declared.Resource.{Resource}

-- the fields before the resources
abbrev pub processor_fields : ProcessorNode → List ℕ
processor_fields p = p.flags ∷ p.parent.0 ∷ p.acpi_processor_id ∷ []

-- the values that a reading call shows: the number of resources is the last
abbrev pub processor_shown : ProcessorNode → List ℕ
processor_shown p = processor_fields p ++ (p.resources ∷ [])

-- the node with the resources ws
abbrev pub processor_node : ProcessorNode → List ℕ → Node
processor_node p ws = node (processor p.resources) (processor_fields p ++ ws)

abbrev pub processor_of : ℕ → ProcessorHandle → ℕ → ℕ → ProcessorNode
processor_of flags parent id n = record { flags = flags; parent = parent; acpi_processor_id = id; resources = n }

-- flag bit j is on; the rest stays
abbrev pub flagged : ℕ → ProcessorNode → ProcessorNode
flagged j p = processor_of (bit_or p.flags (2 ^ j)) p.parent p.acpi_processor_id p.resources

-- the seven items before the resources: 20 bytes
unfoldable pub fixed_part : ℕ → List ℕ → List ℕ
fixed_part n vs = lay (take 7 (layout (processor n))) vs

-- the i-th resource of the record at p is c; it stands where a record of i resources ends
abbrev pub with_resource : List ℕ → ℕ → ℕ → CacheHandle → List ℕ
with_resource bs p i c = over bs (p + size (processor i)) (le 4 c.0)

-- the record of n resources at p has one more: its length, its count, and the resource behind the others
unfoldable pub grown : List ℕ → ℕ → ℕ → CacheHandle → List ℕ
grown bs p n c = with_resource (over (over bs (p + 1) (le 1 (size (processor (n + 1))))) (p + 16) (le 4 (n + 1))) p n c

-- what is shown of the record that bs begin with, of as many resources as it says
unfoldable pub processor_in : List ℕ → List ℕ
processor_in bs = let n : ℕ = value (part bs 16 4) in shown (processor n) (fields (layout (processor n)) bs)

-- the i-th resource of the record that bs begin with
abbrev pub resource_in : List ℕ → ℕ → CacheHandle
resource_in bs i = record { 0 = value (part bs (size (processor i)) 4) }

-- the one field of a resource
abbrev pub resource_fields : Resource → List ℕ
resource_fields r = r.cache.0 ∷ []
