-- A node between its two writings: its record in a table and its record in a recipe.
use mathlib.Core.Path.{◌≡◌, refl, sym, ap, ◌∙◌}
use Prim.Native.Nat.{ℕ, zero, suc, ◌+◌, ◌*◌, ◌^◌, ◌≤◌, ◌<◌}
use mathlib.Core.List.{List, [], ◌∷◌, ◌++◌, map}
use mathlib.Core.Bool.{Bool, true, false}
use native.Mathlib.Omega.{arith}
use native.Mathlib.Nat.{mul-pos, one-le-pow, zero-lt-suc}
use lib.ListN.{length, take, drop}
use lib.Dec.{eqb, leb}
use borrow.Author.Tests.{eq-eqb, ne_eqb, le-leb, lt-leb}
use Rattle.format.specs.Bytes.{pick, both, all, le, value, join, part}
use Rattle.format.specs.Layout.{Item, fix, fld, two, to, or_none, wide, as_is, width, lay_with, fields_with, fixed_ok}
use Rattle.format.specs.Form.{Form, byte, pair, layout, ranges}
use Rattle.format.specs.Node.{Node, node, bytes, node_at}
use Rattle.format.specs.Kind.{Kind, Processor, Resource, Cache, Memory, Acpi, Pci, Rintc, Domain, Matrix, Initiator, Target, Cell, Side, Handle, Bridge, Window, WindowTarget, Xor, Map, kind_number, body}
use Rattle.format.specs.Normal.{call}
use Rattle.format.specs.Read.{sound}
use Rattle.format.specs.Field.{first_bad, bad_in, bad_field}
use Rattle.format.specs.Recipe.{fault_at}
use Rattle.laws.specs.Numbers.{numbers}
use Rattle.laws.specs.Offsets.{fields_at, fixed_at}
use Rattle.laws.proofs.Offsets.{fields-at, fixed-at}
use Rattle.laws.proofs.Bytes.{value-parts, part-take}
use Rattle.laws.proofs.Lays.{length-lay}
use Rattle.laws.proofs.Joins.{lay-join}
use Rattle.laws.proofs.Shapes.{Plain}

-- ---- what a test of code says of the test that it stands for

pub failed : {a b : Bool} → a ≡ b → a ≡ false → b ≡ false
failed e h = sym e ∙ h

pub passed : {a b : Bool} → a ≡ b → a ≡ true → b ≡ true
passed e h = sym e ∙ h

pub differs : {x y v : ℕ} → x ≡ y → (x ≡ v → ⊥) → eqb y v ≡ false
differs {x} {y} {v} e h = rw e at (ne_eqb x v h)

pub equals : {x y v : ℕ} → x ≡ y → x ≡ v → eqb y v ≡ true
equals {x} {y} {v} e h = rw e at (eq-eqb x v h)

pub above : {x y v : ℕ} → x ≡ y → v < x → leb y v ≡ false
above {x} {y} {v} e h = rw e at (lt-leb x v h)

pub within : {x y v : ℕ} → x ≡ y → x ≤ v → leb y v ≡ true
within {x} {y} {v} e h = rw e at (le-leb x v h)

-- ---- ranges

all_first : (t : Bool) (ts : List Bool) → all (t ∷ ts) ≡ both t (all ts)
all_first true [] = refl
all_first false [] = refl
all_first t (u ∷ ts) = refl

-- every test passes where the first bad field has no place
pub all-bad : (p : ℕ) (is : List Item) (ts : List Bool) → 0 < p → all ts ≡ eqb (first_bad p is ts) 0
unfolding first_bad
all-bad p is [] h = refl
all-bad p [] (t ∷ ts) h = rw (all_first t ts, all-bad p [] ts h) (by t)
  where
    by : (t : Bool) → both t (eqb (first_bad p [] ts) 0) ≡ eqb (pick t (first_bad p [] ts) p) 0
    by true = refl
    by false = rw (ne_eqb p 0 (λ e. omega arith))
all-bad p (i ∷ is) (t ∷ ts) h = rw (all_first t ts, all-bad (p + wide i) is ts (omega arith)) (by t)
  where
    by : (t : Bool) → both t (eqb (first_bad (p + wide i) is ts) 0) ≡ eqb (pick t (first_bad (p + wide i) is ts) p) 0
    by true = refl
    by false = rw (ne_eqb p 0 (λ e. omega arith))

-- it is not past the end of the layout
bad-within : (p : ℕ) (is : List Item) (ts : List Bool) → first_bad p is ts ≤ p + width is
unfolding first_bad width
bad-within p is [] = omega arith
bad-within p [] (t ∷ ts) = by t (bad-within p [] ts)
  where
    by : (t : Bool) → first_bad p [] ts ≤ p + 0 → pick t (first_bad p [] ts) p ≤ p + 0
    by true h = h
    by false h = omega arith
bad-within p (i ∷ is) (t ∷ ts) = by t (bad-within (p + wide i) is ts)
  where
    by : (t : Bool) → first_bad (p + wide i) is ts ≤ p + wide i + width is → pick t (first_bad (p + wide i) is ts) p ≤ p + (wide i + width is)
    by true h = omega arith
    by false h = omega arith

-- nor is what is refused of a record past the end of the record
pub fault-within : (n : ℕ) (k : Kind) (ts : List Bool) → fault_at n k ts ≤ 1 + width (body k)
unfolding fault_at
fault-within n k ts = by (eqb n 5)
  where
    by : (x : Bool) → pick x (bad_in k ts) 0 ≤ 1 + width (body k)
    by true = bad-within 1 (body k) ts
    by false = omega arith

pub good-fields : (n : Node) → all (ranges n.form n.values) ≡ eqb (bad_field n) 0
unfolding bad_field
good-fields n = all-bad 1 _ (ranges n.form n.values) (omega arith)

-- a record is sound where its fixed values are, and its node has no bad field
pub sound-node : (f : Form) (bs : List ℕ) → sound f bs ≡ both (fixed_ok (layout f) bs) (eqb (bad_field (node_at as_is f bs)) 0)
unfolding sound node_at
sound-node f bs = rw (good-fields (node f (fields_with as_is (layout f) bs)))

-- ---- by places

pub fixed-now : (f : Form) (bs : List ℕ) → fixed_ok (layout f) bs ≡ fixed_at (layout f) bs 0
fixed-now f bs = fixed-at (layout f) bs 0

pub fields-now : (k : Kind) (bs : List ℕ) → fields_with as_is (body k) bs ≡ fields_at as_is (body k) bs 0
fields-now k bs = fields-at as_is (body k) bs 0

-- bytes behind the fields do not matter
fields-window : (is : List Item) (bs : List ℕ) (n p : ℕ) → p + width is ≤ n → fields_at as_is is (take n bs) p ≡ fields_at as_is is bs p
unfolding width
fields-window [] bs n p h = refl
fields-window (i ∷ is) bs n p h = rw (part-take bs n p (wide i) (omega arith), fields-window is bs n (p + wide i) (omega arith))

pub body-window : (k : Kind) (bs : List ℕ) (n : ℕ) → width (body k) ≤ n → fields_with as_is (body k) (take n bs) ≡ fields_with as_is (body k) bs
body-window k bs n h = fields-now k (take n bs) ∙ fields-window (body k) bs n 0 (omega arith) ∙ sym (fields-now k bs)

pub body_at : (k : Kind) (f : Form) (bs : List ℕ) → node f (fields_with as_is (body k) bs) ≡ node f (fields_at as_is (body k) bs 0)
body_at k f bs = rw (fields-now k bs)

-- ---- calls as numbers at their widths

pub call-join : (k : Kind) (vs : List ℕ) → call k vs ≡ join (1 ∷ map wide (body k)) (kind_number k ∷ numbers as_is (body k) vs)
unfolding join le
call-join k vs = rw (lay-join as_is (body k) vs) (by k)
  where
    by : (k : Kind) → kind_number k ∷ join (map wide (body k)) (numbers as_is (body k) vs) ≡ le 1 (kind_number k) ++ join (map wide (body k)) (numbers as_is (body k) vs)
    by Processor = refl
    by Resource = refl
    by Cache = refl
    by Memory = refl
    by Acpi = refl
    by Pci = refl
    by Rintc = refl
    by Domain = refl
    by (Matrix byte) = refl
    by (Matrix pair) = refl
    by (Initiator byte) = refl
    by (Initiator pair) = refl
    by (Target byte) = refl
    by (Target pair) = refl
    by (Cell byte) = refl
    by (Cell pair) = refl
    by Side = refl
    by Handle = refl
    by Bridge = refl
    by Window = refl
    by WindowTarget = refl
    by Xor = refl
    by Map = refl

pub length-call : (k : Kind) (vs : List ℕ) → length (call k vs) ≡ suc (width (body k))
length-call k vs = ap suc (length-lay as_is (body k) vs)

-- ---- layouts without a reference

module _ (f g : ℕ → ℕ) where
  lay-plain : (is : List Item) (vs : List ℕ) → Plain is → lay_with f is vs ≡ lay_with g is vs
  unfolding lay_with
  lay-plain [] vs p = refl
  lay-plain (fix w v ∷ is) vs p = rw (lay-plain is vs p)
  lay-plain (fld w ∷ is) vs p = rw (lay-plain is (drop 1 vs) p)
  lay-plain (two w k ∷ is) vs p = rw (lay-plain is (drop 2 vs) p)
  lay-plain (to t ∷ is) vs p = absurd p
  lay-plain (or_none t ∷ is) vs p = absurd p

  pub fields-plain : (is : List Item) (bs : List ℕ) → Plain is → fields_with f is bs ≡ fields_with g is bs
  unfolding fields_with
  fields-plain [] bs p = refl
  fields-plain (fix w v ∷ is) bs p = rw (fields-plain is (drop w bs) p)
  fields-plain (fld w ∷ is) bs p = rw (fields-plain is (drop w bs) p)
  fields-plain (two w k ∷ is) bs p = rw (fields-plain is (drop w bs) p)
  fields-plain (to t ∷ is) bs p = absurd p
  fields-plain (or_none t ∷ is) bs p = absurd p

  pub bytes-plain : (n : Node) → Plain (layout n.form) → bytes f n ≡ bytes g n
  unfolding bytes
  bytes-plain n p = lay-plain (layout n.form) n.values p

-- ---- zeros in two parts

eqb-sum : (a b k : ℕ) → 0 < k → eqb (a + k * b) 0 ≡ both (eqb a 0) (eqb b 0)
eqb-sum zero zero k h = eq-eqb (0 + k * 0) 0 (omega arith)
eqb-sum zero (suc b) k h =
    let l : 0 < k * suc b = mul-pos h (omega arith) in
    rw (ne_eqb (0 + k * suc b) 0 (λ e. omega arith), ne_eqb (suc b) 0 (λ e. omega arith))
eqb-sum (suc a) b k h = rw (ne_eqb (suc a + k * b) 0 (λ e. omega arith), ne_eqb (suc a) 0 (λ e. omega arith))

-- zeros are zeros in both parts
pub zeros-parts : (bs : List ℕ) (p a b : ℕ) → eqb (value (part bs p (a + b))) 0 ≡ both (eqb (value (part bs p a)) 0) (eqb (value (part bs (p + a) b)) 0)
zeros-parts bs p a b = rw (← value-parts bs p a b) (eqb-sum (value (part bs p a)) (value (part bs (p + a) b)) (256 ^ a) (one-le-pow a 256 (zero-lt-suc 255)))
