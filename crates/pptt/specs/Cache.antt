-- A cache in the words of the format: its eight values in the order of the layout, and what a builder's setters do to them.
use Rattle.std.specs.Prelude.{ℕ, ◌^◌, List, [], ◌∷◌, set}
use Rattle.std.specs.Int.Bits.{bit_or}
use Rattle.format.specs.Bytes.{at}
use Rattle.format.specs.Form.{cache}
use Rattle.format.specs.Node.{Node, node}
use Rattle.pptt.specs.declared.CacheHandle.{CacheHandle}
use Rattle.pptt.specs.declared.CacheNode.{CacheNode}
use Rattle.pptt.specs.declared.CacheNodeBuilder.{CacheNodeBuilder}
use Rattle.pptt.specs.declared.AllocationType.{AllocationType}
use Rattle.pptt.specs.declared.AllocationType.TheVariants.{Read, Write, Both}
use Rattle.pptt.specs.declared.CacheType.{CacheType}
use Rattle.pptt.specs.declared.CacheType.TheVariants.{Data, Instruction, Unified}
use Rattle.pptt.specs.declared.WritePolicy.{WritePolicy}
use Rattle.pptt.specs.declared.WritePolicy.TheVariants.{Writeback, Writethrough}

-- the values, in the order of the layout and of a reading call
abbrev pub cache_shown : CacheNode → List ℕ
cache_shown n = n.flags ∷ n.next_level.0 ∷ n.size ∷ n.set_count ∷ n.associativity ∷ n.attributes ∷ n.line_size ∷ n.id ∷ []

abbrev pub cache_node : CacheNode → Node
cache_node n = node cache (cache_shown n)

-- before another cache; the rest stays
abbrev pub cache_before : CacheNode → CacheHandle → CacheNode
cache_before n h =
    record { flags = n.flags; next_level = h; size = n.size; set_count = n.set_count; associativity = n.associativity; attributes = n.attributes; line_size = n.line_size; id = n.id }

-- the cache of eight values
abbrev pub cache_of : List ℕ → CacheNode
cache_of vs =
    record { flags = at vs 0; next_level = record { 0 = at vs 1 }; size = at vs 2; set_count = at vs 3; associativity = at vs 4; attributes = at vs 5; line_size = at vs 6; id = at vs 7 }

-- the values that a builder has
abbrev pub made : CacheNodeBuilder → List ℕ
made b = cache_shown b.node

-- the builder of eight values
abbrev pub builder_of : List ℕ → CacheNodeBuilder
builder_of vs = record { node = cache_of vs }

-- value k is v; the rest stays
abbrev pub holding : ℕ → ℕ → CacheNodeBuilder → CacheNodeBuilder
holding k v b = builder_of (set (made b) k v)

-- the same, and flag bit j is on
abbrev pub noted : ℕ → ℕ → ℕ → CacheNodeBuilder → CacheNodeBuilder
noted j k v b = holding 0 (bit_or b.node.flags (2 ^ j)) (holding k v b)

-- in the attributes: bits 0..1
abbrev pub allocation_bits : AllocationType → ℕ
allocation_bits Read = 0
allocation_bits Write = 1
allocation_bits Both = 2

-- in the attributes: bits 2..3
abbrev pub type_bits : CacheType → ℕ
type_bits Data = 0
type_bits Instruction = 4
type_bits Unified = 8

-- in the attributes: bit 4
abbrev pub policy_bits : WritePolicy → ℕ
policy_bits Writeback = 0
policy_bits Writethrough = 16
