-- What is written of a record, by the node that its body makes: the record of the format, its references at the places that were found.
use mathlib.Core.Path.{◌≡◌, ap}
use Prim.Native.Nat.{ℕ}
use mathlib.Core.List.{List, []}
use native.Mathlib.Omega.{arith}
use Rattle.format.specs.Bytes.{over}
use Rattle.format.specs.Layout.{as_is, lay_with}
use Rattle.format.specs.Form.{Form, processor, cache, side, xor, size, layout}
use Rattle.format.specs.Node.{Node, node, bytes}
use Rattle.format.specs.Recipe.{unset}
use Rattle.pptt.specs.declared.ProcessorHandle.{ProcessorHandle}
use Rattle.pptt.specs.declared.ProcessorNode.{ProcessorNode}
use Rattle.pptt.specs.declared.CacheHandle.{CacheHandle}
use Rattle.pptt.specs.declared.CacheNode.{CacheNode}
use Rattle.pptt.specs.Processor.{processor_fields, processor_node, processor_of, fixed_part}
use Rattle.pptt.specs.Cache.{cache_shown, cache_node, cache_before}
use Rattle.hmat.specs.declared.SystemLocality.{SystemLocality}
use Rattle.hmat.specs.declared.MemorySideCache.{MemorySideCache}
use Rattle.hmat.specs.Hmat.{matrix_call, matrix_node, side_fields, side_head, side_front}
use Rattle.cedt.specs.declared.XorInterleaveMath.{XorInterleaveMath}
use Rattle.cedt.specs.Cedt.{maths_fields, maths_head, maths_front}
use Rattle.writes.specs.Writes.{unset_matrix}

-- without references
pub plain-appended : (f : Form) (vs out : List ℕ) (p : ℕ) (n : Node) → n ≡ node f vs → over out p (bytes as_is n) ≡ over out p (bytes as_is (node f vs))
plain-appended f vs out p n e = rw e

-- a processor, with its parent
pub processor-appended : (vs out : List ℕ) (p : ℕ) (n m : ProcessorNode) (h : ProcessorHandle) → processor_node n [] ≡ node (processor 0) vs
    → m ≡ processor_of n.flags h n.acpi_processor_id n.resources
    → over out p (fixed_part m.resources (processor_fields m)) ≡ over out p (bytes (λ k. h.0) (node (processor 0) vs))
unfolding bytes lay_with layout fixed_part
processor-appended vs out p n m h e f =
    let z : n.resources ≡ 0 = omega (arith, ap (λ (x : Node). size x.form) e) in
    let y : processor_fields n ≡ vs = ap (λ (x : Node). x.values) e in
    rw (f, z, ← y)

-- a cache, with its next level
pub cache-appended : (vs out : List ℕ) (p : ℕ) (n m : CacheNode) (h : CacheHandle) → cache_node n ≡ node cache vs → m ≡ cache_before n h
    → over out p (bytes as_is (cache_node m)) ≡ over out p (bytes (λ k. h.0) (node cache vs))
unfolding bytes lay_with layout
cache-appended vs out p n m h e f = let y : cache_shown n ≡ vs = ap (λ (x : Node). x.values) e in rw (f, ← y)

-- a matrix of which nothing is set
pub matrix-appended : (vs out : List ℕ) (p : ℕ) (n : SystemLocality) → matrix_call n ≡ vs → over out p (bytes as_is (matrix_node n)) ≡ over out p (bytes as_is (unset_matrix vs))
unfolding unset
matrix-appended vs out p n e = rw (← e)

-- a side cache without handles
pub side-appended : (vs out : List ℕ) (p : ℕ) (n : MemorySideCache) → side_head n ≡ node (side 0) vs → over out p (side_front n) ≡ over out p (bytes as_is (node (side 0) vs))
unfolding bytes lay_with layout side_front
side-appended vs out p n e =
    let z : n.smbios_handles ≡ 0 = omega (arith, ap (λ (x : Node). size x.form) e) in
    let y : side_fields n ≡ vs = ap (λ (x : Node). x.values) e in
    rw (z, ← y)

-- maths without maps
pub maths-appended : (vs out : List ℕ) (p : ℕ) (n : XorInterleaveMath) → maths_head n ≡ node (xor 0) vs → over out p (maths_front n) ≡ over out p (bytes as_is (node (xor 0) vs))
unfolding bytes lay_with layout maths_front
maths-appended vs out p n e =
    let z : n.xormaps ≡ 0 = omega (arith, ap (λ (x : Node). size x.form) e) in
    let y : maths_fields n ≡ vs = ap (λ (x : Node). x.values) e in
    rw (z, ← y)
