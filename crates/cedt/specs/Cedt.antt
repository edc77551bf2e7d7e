-- What the node types of CEDT are in the words of the format.
use Rattle.std.specs.Prelude.{ℕ, ◌+◌, ◌*◌, ◌^◌, List, [], ◌∷◌, ◌++◌, take}
use Rattle.std.specs.Int.Bits.{bit_or}
use Rattle.format.specs.Bytes.{le, over}
use Rattle.format.specs.Layout.{lay}
use Rattle.format.specs.Form.{Form, bridge, window, xor, size, layout, registers, ways}
use Rattle.format.specs.Node.{Node, node}
use Rattle.cedt.specs.declared.CxlHostBridge.{CxlHostBridge}
use Rattle.cedt.specs.declared.CxlFixedMemory.{CxlFixedMemory}
use Rattle.cedt.specs.declared.CxlTarget.{CxlTarget}
use Rattle.cedt.specs.declared.XorInterleaveMath.{XorInterleaveMath}
use Rattle.cedt.specs.declared.XorMap.{XorMap}
use Rattle.cedt.specs.declared.CxlVersion.{CxlVersion}
use Rattle.cedt.specs.declared.InterleaveArithmetic.{InterleaveArithmetic}
use Rattle.cedt.specs.declared.InterleaveGranularity.{InterleaveGranularity}
use Rattle.cedt.specs.declared.InterleaveWays.{InterleaveWays}
use Rattle.cedt.specs.Numbers.{version_number, arithmetic_number, granularity_number, ways_number}

-- ---- bridges

-- the registers of a bridge start at its base
abbrev pub bridge_of : ℕ → CxlVersion → ℕ → CxlHostBridge
bridge_of u v b = record { host_bridge_uid = u; cxl_version = version_number v; port_base = b }

-- its version settles how many bytes its registers take
abbrev pub bridge_form : CxlHostBridge → Form
bridge_form b = bridge (registers b.cxl_version)

-- row 8 shows uid, version, base
abbrev pub bridge_shown : CxlHostBridge → List ℕ
bridge_shown b = b.host_bridge_uid ∷ b.cxl_version ∷ b.port_base ∷ []

-- it has no list: these are all of its fields
abbrev pub bridge_node : CxlHostBridge → Node
bridge_node b = node (bridge_form b) (bridge_shown b)

-- ---- windows

-- without restrictions
abbrev pub window_of : ℕ → ℕ → InterleaveArithmetic → InterleaveGranularity → InterleaveWays → ℕ → CxlFixedMemory
window_of b s a g w q =
    record { base_addr = b; size = s; interleave_ways = ways_number w; interleave_arithmetic = arithmetic_number a; interleave_granularity = granularity_number g; window_restrictions = 0; qtg_id = q }

-- with bit k of the restrictions on
abbrev pub window_with : ℕ → CxlFixedMemory → CxlFixedMemory
window_with k w =
    record { base_addr = w.base_addr; size = w.size; interleave_ways = w.interleave_ways; interleave_arithmetic = w.interleave_arithmetic; interleave_granularity = w.interleave_granularity; window_restrictions = bit_or w.window_restrictions (2 ^ k); qtg_id = w.qtg_id }

-- the code of its ways settles how many targets it has
abbrev pub window_form : CxlFixedMemory → Form
window_form w = window (ways w.interleave_ways)

-- the fields before the targets
abbrev pub window_fields : CxlFixedMemory → List ℕ
window_fields w =
    w.base_addr ∷ w.size ∷ w.interleave_ways ∷ w.interleave_arithmetic ∷ w.interleave_granularity ∷ w.window_restrictions ∷ w.qtg_id ∷ []

-- of which no target is set: in its bytes each is 0
abbrev pub window_node : CxlFixedMemory → Node
window_node w = node (window_form w) (window_fields w)

-- the 36 bytes before the targets
unfoldable pub window_front : CxlFixedMemory → List ℕ
window_front w = lay (take 12 (layout (window_form w))) (window_fields w)

-- row 9 shows base, size, the code of the ways, arithmetic, granularity, restrictions, QTG
abbrev pub window_shown : CxlFixedMemory → List ℕ
window_shown w = window_fields w

-- where target i stands of a window whose record starts at p
abbrev pub target_in : ℕ → ℕ → ℕ
target_in p i = p + 36 + 4 * i

-- the one field of a target
abbrev pub target_fields : CxlTarget → List ℕ
target_fields t = t.0 ∷ []

-- ---- the mathematics of interleaving

-- without maps
abbrev pub maths_of : InterleaveGranularity → XorInterleaveMath
maths_of g = record { granularity = granularity_number g; xormaps = 0 }

-- with as many maps as it counts
abbrev pub maths_form : XorInterleaveMath → Form
maths_form m = xor m.xormaps

-- the field before the maps
abbrev pub maths_fields : XorInterleaveMath → List ℕ
maths_fields m = m.granularity ∷ []

-- the node without its maps
abbrev pub maths_head : XorInterleaveMath → Node
maths_head m = node (maths_form m) (maths_fields m)

-- the 8 bytes before the maps
unfoldable pub maths_front : XorInterleaveMath → List ℕ
maths_front m = lay (take 6 (layout (maths_form m))) (maths_fields m)

-- the bytes of maps
unfoldable pub maps : List ℕ → List ℕ
maps [] = []
maps (m ∷ ms) = le 8 m ++ maps ms

-- row 10 shows granularity, n
abbrev pub maths_shown : XorInterleaveMath → List ℕ
maths_shown m = m.granularity ∷ m.xormaps ∷ []

-- the one field of a map
abbrev pub map_fields : XorMap → List ℕ
map_fields m = m.0 ∷ []

-- a map more than n in the record at p: the length in two bytes, the count in one, and the map
unfoldable pub grown : List ℕ → ℕ → ℕ → ℕ → List ℕ
grown out p n m = over (over (over out (p + 2) (le 2 (size (xor (n + 1))))) (p + 7) (le 1 (n + 1))) (p + 8 + 8 * n) (le 8 m)
