-- Where the next level of a cache stands, and that what is shown of a cache is what the format shows.
use mathlib.Core.Path.{◌≡◌, ap}
use Prim.Native.Nat.{ℕ}
use mathlib.Core.List.{List}
use Rattle.format.specs.Bytes.{at, value, part}
use Rattle.format.specs.Layout.{as_is, fields}
use Rattle.format.specs.Form.{cache, layout}
use Rattle.format.specs.Node.{Node, node_at}
use Rattle.format.specs.Kind.{Cache, body}
use Rattle.format.specs.Read.{shown}
use Rattle.laws.proofs.Offsets.{fields-at}
use Rattle.laws.proofs.Fields.{fields-now}
use Rattle.pptt.specs.declared.CacheNode.{CacheNode}
use Rattle.pptt.specs.Cache.{cache_shown, cache_node}

-- the next level is the second field of a record and of a body
pub next-record : (bs : List ℕ) → at (fields (layout cache) bs) 1 ≡ value (part bs 8 4)
unfolding layout
next-record bs = rw (fields-at as_is (layout cache) bs 0)

pub next-body : (bs : List ℕ) → at (fields (body Cache) bs) 1 ≡ value (part bs 1 4)
unfolding body
next-body bs = rw (fields-now Cache bs)

-- of the node of some bytes the format shows these values
pub cache-shown : (n : CacheNode) (bs : List ℕ) → cache_node n ≡ node_at as_is cache bs → cache_shown n ≡ shown cache (fields (layout cache) bs)
unfolding node_at shown
cache-shown n bs e = ap (λ (m : Node). m.values) e
