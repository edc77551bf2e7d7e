-- A layout read by places is the layout read from there on, by induction over the items; and what is known of a node by its first fields.
use mathlib.Core.Path.{◌≡◌, refl, sym, ap}
use Prim.Native.Nat.{ℕ, zero, suc, ◌+◌}
use mathlib.Core.List.{List, [], ◌∷◌, ◌++◌}
use mathlib.Core.Bool.{true}
use native.Mathlib.Nat.{add_assoc, add-zero}
use lib.ListN.{take, drop, replicate}
use lib.Seq.{drop-drop}
use Rattle.format.specs.Bytes.{both, value, part}
use Rattle.format.specs.Layout.{Item, wide, as_is, is_fixed, width, fields_with, fixed_ok}
use Rattle.format.specs.Form.{Form, layout}
use Rattle.format.specs.Node.{Node, node, node_at}
use Rattle.laws.specs.Offsets.{fields_at, fixed_at, trimmed}
use Rattle.laws.proofs.Tests.{both-assoc}

pub fields-at : (g : ℕ → ℕ) (is : List Item) (bs : List ℕ) (p : ℕ) → fields_with g is (drop p bs) ≡ fields_at g is bs p
unfolding fields_with part
fields-at g [] bs p = refl
fields-at g (i ∷ is) bs p = rw (drop-drop (wide i) p bs, fields-at g is bs (p + wide i))

pub fixed-at : (is : List Item) (bs : List ℕ) (p : ℕ) → fixed_ok is (drop p bs) ≡ fixed_at is bs p
unfolding fixed_ok part
fixed-at [] bs p = refl
fixed-at (i ∷ is) bs p = rw (drop-drop (wide i) p bs, fixed-at is bs (p + wide i))

-- in a list of an item that is not fixed, nothing is
pub fixed-list : (i : Item) → ((x : ℕ) → is_fixed i x ≡ true) → (n : ℕ) (bs : List ℕ) (p : ℕ) → fixed_at (replicate n i) bs p ≡ true
fixed-list i e zero bs p = refl
fixed-list i e (suc n) bs p = rw (e (value (part bs p (wide i))), fixed-list i e n bs (p + wide i))

-- layouts one behind the other
pub fixed-append : (is js : List Item) (bs : List ℕ) (p : ℕ) → fixed_at (is ++ js) bs p ≡ both (fixed_at is bs p) (fixed_at js bs (p + width is))
unfolding width
fixed-append [] js bs p = rw add-zero
fixed-append (i ∷ is) js bs p = rw (fixed-append is js bs (p + wide i), both-assoc, add_assoc)

pub node_at_lem : (g : ℕ → ℕ) (f : Form) (bs : List ℕ) → node_at g f bs ≡ node f (fields_at g (layout f) bs 0)
unfolding node_at
node_at_lem g f bs = rw (fields-at g (layout f) bs 0)

-- ---- a node that is known by its first fields

pub form_of : (x y : Node) (n : ℕ) → x ≡ trimmed n y → y.form ≡ x.form
form_of x y n e = sym (ap (λ (z : Node). z.form) e)

pub first-of : (x y : Node) (n : ℕ) → x ≡ trimmed n y → take n y.values ≡ x.values
first-of x y n e = sym (ap (λ (z : Node). z.values) e)

-- in a record
pub form-known : {x : Node} (n : ℕ) (f : Form) (bs : List ℕ) → x ≡ trimmed n (node_at as_is f bs) → x.form ≡ f
unfolding node_at
form-known n f bs e = ap (λ (z : Node). z.form) e
