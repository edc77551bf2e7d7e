-- What a reader finds in the record of each form, by computation from its layout: its type, its size, its row and its form.
use mathlib.Core.Path.{◌≡◌, refl, sym}
use Prim.Native.Nat.{ℕ, zero, suc, ◌+◌, ◌-◌, ◌*◌, ◌/◌, ◌%◌, ◌^◌, ◌≤◌, ◌<◌}
use mathlib.Core.List.{List, [], ◌∷◌, ◌++◌}
use mathlib.Core.Bool.{Bool, true, false}
use native.Mathlib.Omega.{arith}
use native.Mathlib.Nat.{mul-le-mul, pow-le-pow_right, zero-lt-suc}
use lib.ListN.{length, drop, replicate, take-append-drop}
use borrow.Author.Tests.{eq-eqb, le-leb, leb-true}
use Rattle.format.specs.Bytes.{pick, both, at, le, value, part}
use Rattle.format.specs.Layout.{Item, fix, fld, two, to, or_none, arities, lay_with}
use Rattle.format.specs.Table.{Table, revision, least}
use Rattle.format.specs.Form.{Form, processor, cache, memory, acpi, pci, rintc, old_rintc, domain, matrix, side, bridge, window, xor, size, type_of, byte, pair, most, up_to, narrowest, layout, registers, ways, ranges}
use Rattle.format.specs.Row.{home, row_type, counted, column, matches, form_in}
use Rattle.format.specs.Read.{type_in, size_in}
use Rattle.laws.specs.Rename.{rename}
use Rattle.laws.specs.Demand3.{row_for}
use Rattle.laws.proofs.Bytes.{value-le}
use Rattle.laws.proofs.Lays.{rest-length, both_true}
use Rattle.laws.proofs.Nodes.{length-record}
use lib.Seq.{get_or-drop, drop-drop}
use lib.Dec.{leb}

-- a field by its place, and as the first of the fields from there on

pub second : (vs : List ℕ) → at vs 1 ≡ at (drop 1 vs) 0
second vs = sym (get_or-drop 1 vs 0 0)

pub third : (vs : List ℕ) → at vs 2 ≡ at (drop 1 (drop 1 vs)) 0
third vs = rw drop-drop (sym (get_or-drop 2 vs 0 0))

pub fourth : (vs : List ℕ) → at vs 3 ≡ at (drop 1 (drop 1 (drop 1 vs))) 0
fourth vs = rw (drop-drop, drop-drop) (sym (get_or-drop 3 vs 0 0))

-- the counts of a form are within their limits, and those that a field settles are what it says; a retired form is not built
abbrev pub Within : Form → List ℕ → Type 0
Within (processor n) vs = n ≤ 58
Within cache vs = Unit
Within memory vs = Unit
Within acpi vs = Unit
Within pci vs = Unit
Within old_rintc vs = ⊥
Within rintc vs = Unit
Within domain vs = Unit
Within (matrix i t) vs = (i ≤ most) × (t ≤ most)
Within (side n) vs = n ≤ 65535
Within (bridge n) vs = (at vs 1 < 256 ^ 4) × (n ≡ registers (at vs 1))
Within (window n) vs = (at vs 2 < 256 ^ 1) × (n ≡ ways (at vs 2)) × (0 < n)
Within (xor n) vs = n ≤ 255

-- the table that a form's record belongs to
abbrev pub table_for : Form → Table
table_for f = home (row_for f)

pub least_size : (f : Form) → least (table_for f) ≤ size f
least_size (processor n) = omega arith
least_size cache = omega arith
least_size memory = omega arith
least_size acpi = omega arith
least_size pci = omega arith
least_size old_rintc = omega arith
least_size rintc = omega arith
least_size domain = omega arith
least_size (matrix i t) = omega arith
least_size (side n) = omega arith
least_size (bridge n) = omega arith
least_size (window n) = omega arith
least_size (xor n) = omega arith

pub square : (i t : ℕ) → i ≤ most → t ≤ most → i * t ≤ most * most
square i t h k = mul-le-mul h k

-- the counts of a matrix are those of the row that the width of its normal form says
counted-in : (i t : ℕ) → i ≤ most → t ≤ most → counted (narrowest i t) i t ≡ true
counted-in i t h k = by (up_to 255 i t) refl
  where
    by : (x : Bool) → up_to 255 i t ≡ x → counted (pick x byte pair) i t ≡ true
    by true e = e
    by false e = rw (e, le-leb i most h, le-leb t most k)

-- a window has 16 ways at most
pub few-ways : (c : ℕ) → ways c ≤ 16
unfolding ways
few-ways c = by (leb c 4) refl (both (leb 8 c) (leb c 10)) refl
  where
    power : (k c : ℕ) → c ≤ k → 2 ^ c ≤ 2 ^ k
    power k c l = pow-le-pow_right (zero-lt-suc 1) l

    by : (x : Bool) → leb c 4 ≡ x → (y : Bool) → both (leb 8 c) (leb c 10) ≡ y → pick x (2 ^ c) (pick y (3 * 2 ^ (c - 8)) 0) ≤ 16
    by true e y f = power 4 c (leb-true c 4 e)
    by false e true f = let l = both_true (leb 8 c) (leb c 10) f in let p = power 2 (c - 8) (omega (arith, leb-true c 10 l.1)) in omega arith
    by false e false f = omega arith

pub size_below : (f : Form) (vs : List ℕ) → Within f vs → size f < 256 ^ 4
size_below (processor n) vs w = omega arith
size_below cache vs w = omega arith
size_below memory vs w = omega arith
size_below acpi vs w = omega arith
size_below pci vs w = omega arith
size_below old_rintc vs w = omega arith
size_below rintc vs w = omega arith
size_below domain vs w = omega arith
size_below (matrix i t) vs w = omega (arith, square i t w.0 w.1)
size_below (side n) vs w = omega arith
size_below (bridge n) vs w = omega arith
size_below (window n) vs w = omega (arith, few-ways (at vs 2), w.1)
size_below (xor n) vs w = omega arith

pub type-for : (f : Form) → type_of f ≡ row_type (row_for f)
type-for (processor n) = refl
type-for cache = refl
type-for memory = refl
type-for acpi = refl
type-for pci = refl
type-for old_rintc = refl
type-for rintc = refl
type-for domain = refl
type-for (matrix i t) = refl
type-for (side n) = refl
type-for (bridge n) = refl
type-for (window n) = refl
type-for (xor n) = refl

module _ (g : ℕ → ℕ) where
  pub type-in : (f : Form) (vs rest : List ℕ) → type_in (table_for f) (lay_with g (layout f) vs ++ rest) ≡ type_of f
  unfolding lay_with layout le value
  type-in (processor n) vs rest = refl
  type-in cache vs rest = refl
  type-in memory vs rest = refl
  type-in acpi vs rest = refl
  type-in pci vs rest = refl
  type-in old_rintc vs rest = refl
  type-in rintc vs rest = refl
  type-in domain vs rest = refl
  type-in (matrix i t) vs rest = refl
  type-in (side n) vs rest = refl
  type-in (bridge n) vs rest = refl
  type-in (window n) vs rest = refl
  type-in (xor n) vs rest = refl

  pub size_in_lem : (f : Form) (vs rest : List ℕ) → Within f vs → size_in (table_for f) (lay_with g (layout f) vs ++ rest) ≡ size f
  unfolding lay_with layout le value part
  size_in_lem (processor n) vs rest w = omega arith
  size_in_lem cache vs rest w = refl
  size_in_lem memory vs rest w = refl
  size_in_lem acpi vs rest w = refl
  size_in_lem pci vs rest w = refl
  size_in_lem old_rintc vs rest w = refl
  size_in_lem rintc vs rest w = refl
  size_in_lem domain vs rest w = refl
  size_in_lem (matrix i t) vs rest w = value-le 4 (size (matrix i t)) (size_below (matrix i t) vs w)
  size_in_lem (side n) vs rest w = value-le 4 (size (side n)) (size_below (side n) vs w)
  size_in_lem (bridge n) vs rest w = refl
  size_in_lem (window n) vs rest w = value-le 2 (size (window n)) (omega (arith, few-ways (at vs 2), w.1))
  size_in_lem (xor n) vs rest w = value-le 2 (size (xor n)) (omega arith)

  count-i : (i t : ℕ) (vs : List ℕ) → i ≤ most → value (part (lay_with g (layout (matrix i t)) vs) 12 4) ≡ i
  unfolding lay_with layout le value part
  count-i i t vs h = value-le 4 i (omega arith)

  count-t : (i t : ℕ) (vs : List ℕ) → t ≤ most → value (part (lay_with g (layout (matrix i t)) vs) 16 4) ≡ t
  unfolding lay_with layout le value part
  count-t i t vs h = value-le 4 t (omega arith)

  count-n : (n : ℕ) (vs : List ℕ) → n ≤ 65535 → value (part (lay_with g (layout (side n)) vs) 30 2) ≡ n
  unfolding lay_with layout le value part
  count-n n vs h = value-le 2 n (omega arith)

  count-version : (n : ℕ) (vs : List ℕ) → at vs 1 < 256 ^ 4 → value (part (lay_with g (layout (bridge n)) vs) 8 4) ≡ at vs 1
  unfolding lay_with layout le value part
  count-version n vs h = rw (second vs) (value-le 4 (at (drop 1 vs) 0) (rw (second vs) at h))

  count_code : (n : ℕ) (vs : List ℕ) → at vs 2 < 256 ^ 1 → value (part (lay_with g (layout (window n)) vs) 24 1) ≡ at vs 2
  unfolding lay_with layout le value part
  count_code n vs h = rw (third vs) (value-le 1 (at (drop 1 (drop 1 vs)) 0) (rw (third vs) at h))

  count-maps : (n : ℕ) (vs : List ℕ) → n ≤ 255 → value (part (lay_with g (layout (xor n)) vs) 7 1) ≡ n
  unfolding lay_with layout le value part
  count-maps n vs h = value-le 1 n (omega arith)

  handle-acpi : (vs : List ℕ) → at (lay_with g (layout acpi) vs) 3 ≡ 0
  unfolding lay_with layout le
  handle-acpi vs = refl

  handle-pci : (vs : List ℕ) → at (lay_with g (layout pci) vs) 3 ≡ 1
  unfolding lay_with layout le
  handle-pci vs = refl

  column-in : (f : Form) (vs : List ℕ) → Within f vs → column (row_for f) (lay_with g (layout f) vs) ≡ true
  unfolding column
  column-in (processor n) vs w =
      rw (length-record g (processor n) vs, le-leb 20 (20 + 4 * n) (omega arith), le-leb (20 + 4 * n) 252 (omega arith), eq-eqb ((20 + 4 * n) % 4) 0 (omega arith))
  column-in cache vs w = rw (length-record g cache vs)
  column-in memory vs w = rw (length-record g memory vs)
  column-in acpi vs w = rw (length-record g acpi vs)
  column-in pci vs w = rw (length-record g pci vs)
  column-in old_rintc vs w = rw (length-record g old_rintc vs)
  column-in rintc vs w = rw (length-record g rintc vs)
  column-in domain vs w = rw (length-record g domain vs)
  column-in (matrix i t) vs w =
      rw (length-record g (matrix i t) vs, count-i i t vs w.0, count-t i t vs w.1, le-leb 32 (size (matrix i t)) (omega arith), counted-in i t w.0 w.1)
  column-in (side n) vs w = rw (length-record g (side n) vs, le-leb 32 (size (side n)) (omega arith))
  column-in (bridge n) vs w = rw (length-record g (bridge n) vs)
  column-in (window n) vs w = rw (length-record g (window n) vs, le-leb 40 (size (window n)) (omega arith))
  column-in (xor n) vs w = rw (length-record g (xor n) vs, le-leb 8 (size (xor n)) (omega arith))

  pub row_in : (f : Form) (vs : List ℕ) → Within f vs → matches (revision (table_for f)) (type_of f) (lay_with g (layout f) vs) (row_for f) ≡ true
  unfolding matches
  row_in f vs w = rw (eq-eqb (revision (table_for f)) (revision (table_for f)) refl, eq-eqb (type_of f) (row_type (row_for f)) (type-for f), column-in f vs w)

  pub form_in_lem : (f : Form) (vs : List ℕ) → Within f vs → form_in (row_for f) (lay_with g (layout f) vs) ≡ f
  unfolding form_in
  form_in_lem (processor n) vs w =
      let e : (20 + 4 * n - 20) / 4 ≡ n = omega arith in
      rw (length-record g (processor n) vs, e)
  form_in_lem cache vs w = refl
  form_in_lem memory vs w = refl
  form_in_lem acpi vs w = rw (handle-acpi vs)
  form_in_lem pci vs w = rw (handle-pci vs)
  form_in_lem old_rintc vs w = refl
  form_in_lem rintc vs w = refl
  form_in_lem domain vs w = refl
  form_in_lem (matrix i t) vs w = rw (count-i i t vs w.0, count-t i t vs w.1)
  form_in_lem (side n) vs w = rw (count-n n vs w)
  form_in_lem (bridge n) vs w = rw (count-version n vs w.0, ← w.1)
  form_in_lem (window n) vs w = rw (count_code n vs w.0, ← w.1)
  form_in_lem (xor n) vs w = rw (count-maps n vs w)

-- ---- layouts without references

abbrev pub Plain : List Item → Type 0
Plain [] = Unit
Plain (fix w v ∷ is) = Plain is
Plain (fld w ∷ is) = Plain is
Plain (two w k ∷ is) = Plain is
Plain (to t ∷ is) = ⊥
Plain (or_none t ∷ is) = ⊥

pub plain-fld : (n w : ℕ) → Plain (replicate n (fld w))
plain-fld zero w = tt
plain-fld (suc n) w = plain-fld n w

pub plain-append : (is js : List Item) → Plain is → Plain js → Plain (is ++ js)
plain-append [] js p q = q
plain-append (fix w v ∷ is) js p q = plain-append is js p q
plain-append (fld w ∷ is) js p q = plain-append is js p q
plain-append (two w k ∷ is) js p q = plain-append is js p q
plain-append (to t ∷ is) js p q = p
plain-append (or_none t ∷ is) js p q = p

pub plain-matrix : (i t : ℕ) → Plain (replicate (i + t) (fld 4) ++ replicate (i * t) (fld 2))
plain-matrix i t = plain-append (replicate (i + t) (fld 4)) (replicate (i * t) (fld 2)) (plain-fld (i + t) 4) (plain-fld (i * t) 2)

module _ (g : ℕ → ℕ) where
  rename-plain : (is : List Item) (vs : List ℕ) → Plain is → length vs ≡ arities is → rename g is vs ≡ vs
  unfolding rename
  rename-plain [] [] p l = refl
  rename-plain [] (v ∷ vs) p l = absurd (omega arith)
  rename-plain (fix w v ∷ is) vs p l = rename-plain is vs p (rest-length (fix w v) is vs l)
  rename-plain (fld w ∷ is) vs p l = rw (rename-plain is (drop 1 vs) p (rest-length (fld w) is vs l)) (take-append-drop 1 vs)
  rename-plain (two w k ∷ is) vs p l = rw (rename-plain is (drop 2 vs) p (rest-length (two w k) is vs l)) (take-append-drop 2 vs)
  rename-plain (to t ∷ is) vs p l = absurd p
  rename-plain (or_none t ∷ is) vs p l = absurd p

  cache-ranges : (vs : List ℕ) → length vs ≡ 8 → ranges cache (rename g (layout cache) vs) ≡ ranges cache vs
  unfolding ranges rename layout
  cache-ranges [] l = absurd (omega arith)
  cache-ranges (a ∷ []) l = absurd (omega arith)
  cache-ranges (a ∷ b ∷ []) l = absurd (omega arith)
  cache-ranges (a ∷ b ∷ c ∷ []) l = absurd (omega arith)
  cache-ranges (a ∷ b ∷ c ∷ d ∷ []) l = absurd (omega arith)
  cache-ranges (a ∷ b ∷ c ∷ d ∷ e ∷ []) l = absurd (omega arith)
  cache-ranges (a ∷ b ∷ c ∷ d ∷ e ∷ f ∷ []) l = absurd (omega arith)
  cache-ranges (a ∷ b ∷ c ∷ d ∷ e ∷ f ∷ h ∷ []) l = absurd (omega arith)
  cache-ranges (a ∷ b ∷ c ∷ d ∷ e ∷ f ∷ h ∷ i ∷ vs) l = refl

  plain-ranges : (f : Form) (vs : List ℕ) → Plain (layout f) → length vs ≡ arities (layout f) → ranges f (rename g (layout f) vs) ≡ ranges f vs
  plain-ranges f vs p l = rw (rename-plain (layout f) vs p l)

  -- the ranges look at no reference
  pub ranges-rename : (f : Form) (vs : List ℕ) → length vs ≡ arities (layout f) → ranges f (rename g (layout f) vs) ≡ ranges f vs
  unfolding ranges layout
  ranges-rename (processor n) vs l = refl
  ranges-rename cache vs l = cache-ranges vs l
  ranges-rename memory vs l = plain-ranges memory vs tt l
  ranges-rename acpi vs l = plain-ranges acpi vs tt l
  ranges-rename pci vs l = plain-ranges pci vs tt l
  ranges-rename old_rintc vs l = plain-ranges old_rintc vs tt l
  ranges-rename rintc vs l = plain-ranges rintc vs tt l
  ranges-rename domain vs l = refl
  ranges-rename (matrix i t) vs l = plain-ranges (matrix i t) vs (plain-matrix i t) l
  ranges-rename (side n) vs l = plain-ranges (side n) vs (plain-fld n 2) l
  ranges-rename (bridge n) vs l = plain-ranges (bridge n) vs tt l
  ranges-rename (window n) vs l = plain-ranges (window n) vs (plain-fld n 4) l
  ranges-rename (xor n) vs l = plain-ranges (xor n) vs (plain-fld n 8) l

  -- nor does what a field settles
  pub within-rename : (f : Form) (vs : List ℕ) → length vs ≡ arities (layout f) → Within f vs → Within f (rename g (layout f) vs)
  unfolding layout
  within-rename (processor n) vs l w = w
  within-rename cache vs l w = w
  within-rename memory vs l w = w
  within-rename acpi vs l w = w
  within-rename pci vs l w = w
  within-rename old_rintc vs l w = w
  within-rename rintc vs l w = w
  within-rename domain vs l w = w
  within-rename (matrix i t) vs l w = w
  within-rename (side n) vs l w = w
  within-rename (bridge n) vs l w = rw (rename-plain (layout (bridge n)) vs tt l) w
  within-rename (window n) vs l w = rw (rename-plain (layout (window n)) vs (plain-fld n 4) l) w
  within-rename (xor n) vs l w = w
