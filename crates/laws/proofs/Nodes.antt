-- A layout is as wide as its form's size says; so a node's record is read back as the node, and a sound record is the record of what is read from it.
use mathlib.Core.Path.{◌≡◌, refl, ap, ◌∙◌}
use Prim.Native.Nat.{ℕ, zero, suc, ◌+◌, ◌*◌}
use mathlib.Core.List.{List, [], ◌∷◌, ◌++◌}
use mathlib.Core.Bool.{true}
use native.Mathlib.Nat.{suc-mul}
use native.Mathlib.Omega.{arith}
use lib.ListN.{length, replicate}
use lib.Seq.{take_all}
use Rattle.format.specs.Bytes.{all, Bytes}
use Rattle.format.specs.Layout.{Item, fld, to, wide, width, as_is, lay_with, fields, fixed_ok}
use Rattle.format.specs.Form.{Form, processor, cache, memory, acpi, pci, rintc, old_rintc, domain, matrix, side, bridge, window, xor, size, layout, ranges}
use Rattle.format.specs.Node.{Node, node, bytes, node_at}
use Rattle.format.specs.Read.{sound}
use Rattle.laws.proofs.Lays.{Fit, both_true, length-lay, fields-lay, lay-fields}

pub width-append : (is js : List Item) → width (is ++ js) ≡ width is + width js
unfolding width
width-append [] js = omega arith
width-append (i ∷ is) js = rw (width-append is js) (omega arith)

pub width-replicate : (n : ℕ) (i : Item) → width (replicate n i) ≡ n * wide i
unfolding width
width-replicate zero i = omega arith
width-replicate (suc n) i = rw (width-replicate n i, suc-mul) (omega arith)

pub width-layout : (f : Form) → width (layout f) ≡ size f
unfolding width layout
width-layout (processor n) = rw (width-replicate n (to 1)) (omega arith)
width-layout cache = refl
width-layout memory = refl
width-layout acpi = refl
width-layout pci = refl
width-layout old_rintc = refl
width-layout rintc = refl
width-layout domain = refl
width-layout (matrix i t) = rw (width-append (replicate (i + t) (fld 4)) (replicate (i * t) (fld 2)), width-replicate (i + t) (fld 4), width-replicate (i * t) (fld 2)) (omega arith)
width-layout (side n) = rw (width-replicate n (fld 2)) (omega arith)
width-layout (bridge n) = refl
width-layout (window n) = rw (width-replicate n (fld 4)) (omega arith)
width-layout (xor n) = rw (width-replicate n (fld 8)) (omega arith)

pub length-record : (g : ℕ → ℕ) (f : Form) (vs : List ℕ) → length (lay_with g (layout f) vs) ≡ size f
length-record g f vs = length-lay g (layout f) vs ∙ width-layout f

pub length-bytes : (g : ℕ → ℕ) (n : Node) → length (bytes g n) ≡ size n.form
unfolding bytes
length-bytes g n = length-record g n.form n.values

-- a node whose fields fit, from its record
pub node-bytes : (n : Node) (rest : List ℕ) → Fit (layout n.form) n.values → node_at as_is n.form (bytes as_is n ++ rest) ≡ n
unfolding node_at bytes
node-bytes n rest f = ap (node n.form) (fields-lay (layout n.form) n.values rest f)

-- a sound record, from its node
pub bytes-node : (f : Form) (bs : List ℕ) → Bytes bs → length bs ≡ size f → sound f bs ≡ true → bytes as_is (node_at as_is f bs) ≡ bs
unfolding node_at bytes sound
bytes-node f bs h l e =
    let p = both_true (fixed_ok (layout f) bs) (all (ranges f (fields (layout f) bs))) e in
    let w : width (layout f) ≡ size f = width-layout f in
    lay-fields (layout f) bs h (omega arith) p.0 ∙ take_all (width (layout f)) bs (omega arith)
