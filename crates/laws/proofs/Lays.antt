-- The laws of layouts, each by one induction over the items: what is laid is read again, what is read is laid again,
-- and to write or read references by g is to write or read the renamed fields.
use mathlib.Core.Path.{◌≡◌, refl, sym, ap}
use Prim.Native.Nat.{ℕ, ◌+◌, ◌-◌, ◌*◌, ◌/◌, ◌%◌, ◌^◌, ◌≤◌, ◌<◌}
use mathlib.Core.List.{List, [], ◌∷◌, ◌++◌, append_assoc}
use mathlib.Core.Bool.{Bool, true, false}
use native.Mathlib.Nat.{add-zero, mod-eq_of_lt, mod-lt, div-eq_of_lt, mul-add-div_right, mul-add-mod_self_right, div-add-mod'}
use native.Mathlib.Omega.{arith}
use lib.ListN.{length, take, drop, length-append, length-drop, take-append-drop}
use lib.Seq.{take_at, drop_at, take-add, length-take-le}
use borrow.Author.Tests.{eq-eqb, eqb-true}
use Rattle.format.specs.Bytes.{both, Bytes, at, le, value}
use Rattle.format.specs.Layout.{Item, fix, fld, two, to, or_none, wide, arity, arities, number_with, number, taken_with, as_is, is_fixed, width, lay_with, fields_with, lay, fields, fixed_ok}
use Rattle.laws.specs.Rename.{renamed, rename}
use Rattle.laws.proofs.Bytes.{length-le, value-le, le-value, value-lt, bytes_take, bytes_drop}

pub both_true : (a b : Bool) → both a b ≡ true → (a ≡ true) × (b ≡ true)
both_true true b e = (refl, e)
both_true false b e = (e, cc)

-- ---- fields that fit their items

-- the second of two fields is below the factor of the first
abbrev pub Low : Item → List ℕ → Type 0
Low (fix w v) vs = Unit
Low (fld w) vs = Unit
Low (two w k) vs = at vs 1 < k
Low (to t) vs = Unit
Low (or_none t) vs = Unit

pub record FitItem (i : Item) (vs : List ℕ) : Type 0 where
  pub there : arity i ≤ length vs
  pub below : number i vs < 256 ^ wide i
  pub low : Low i vs

abbrev pub Fit : List Item → List ℕ → Type 0
Fit [] vs = vs ≡ []
Fit (i ∷ is) vs = FitItem i vs × Fit is (drop (arity i) vs)

-- the fields behind an item's own are as many as the other items'
pub rest-length : (i : Item) (is : List Item) (vs : List ℕ) → length vs ≡ arities (i ∷ is) → length (drop (arity i) vs) ≡ arities is
rest-length i is vs l = simp length-drop (omega arith)

pub fit_length : (is : List Item) (vs : List ℕ) → Fit is vs → length vs ≡ arities is
fit_length [] vs f = ap length f
fit_length (i ∷ is) vs (f, g) =
    let e : length (drop (arity i) vs) ≡ arities is = fit_length is (drop (arity i) vs) g in
    let a : arity i ≤ length vs = f.there in
    let d : length (drop (arity i) vs) ≡ length vs - arity i = length-drop (arity i) vs in
    omega arith

-- ---- one item

one : (vs : List ℕ) → 1 ≤ length vs → at vs 0 ∷ [] ≡ take 1 vs
one [] h = absurd (omega arith)
one (v ∷ vs) h = refl

high : (a b k : ℕ) → b < k → (a * k + b) / k ≡ a
high a b k h =
    let p : 0 < k = omega arith in
    rw (mul-add-div_right p, div-eq_of_lt h, add-zero)

low : (a b k : ℕ) → b < k → (a * k + b) % k ≡ b
low a b k h = rw (mul-add-mod_self_right, mod-eq_of_lt h)

pair : (k : ℕ) (vs : List ℕ) → 2 ≤ length vs → at vs 1 < k → (at vs 0 * k + at vs 1) / k ∷ (at vs 0 * k + at vs 1) % k ∷ [] ≡ take 2 vs
pair k [] h l = absurd (omega arith)
pair k (a ∷ []) h l = absurd (omega arith)
pair k (a ∷ b ∷ vs) h l = rw (high a b k l, low a b k l)

taken-number : (i : Item) (vs : List ℕ) → FitItem i vs → taken_with as_is i (number i vs) ≡ take (arity i) vs
taken-number (fix w v) vs f = refl
taken-number (fld w) vs f = one vs f.there
taken-number (two w k) vs f = pair k vs f.there f.low
taken-number (to t) vs f = one vs f.there
taken-number (or_none t) vs f = one vs f.there

number-taken : (i : Item) (x : ℕ) (ws : List ℕ) → is_fixed i x ≡ true → number i (taken_with as_is i x ++ ws) ≡ x
number-taken (fix w v) x ws e = sym (eqb-true x v e)
number-taken (fld w) x ws e = refl
number-taken (two w k) x ws e = div-add-mod' x k
number-taken (to t) x ws e = refl
number-taken (or_none t) x ws e = refl

rest-taken : (g : ℕ → ℕ) (i : Item) (x : ℕ) (ws : List ℕ) → drop (arity i) (taken_with g i x ++ ws) ≡ ws
rest-taken g (fix w v) x ws = refl
rest-taken g (fld w) x ws = refl
rest-taken g (two w k) x ws = refl
rest-taken g (to t) x ws = refl
rest-taken g (or_none t) x ws = refl

is-fixed : (i : Item) (vs : List ℕ) → is_fixed i (number i vs) ≡ true
is-fixed (fix w v) vs = eq-eqb v v refl
is-fixed (fld w) vs = refl
is-fixed (two w k) vs = refl
is-fixed (to t) vs = refl
is-fixed (or_none t) vs = refl

-- what stands behind an item's fields changes nothing in them
pub item-append : (g : ℕ → ℕ) (i : Item) (vs us : List ℕ) → arity i ≤ length vs → (drop (arity i) (vs ++ us) ≡ drop (arity i) vs ++ us) × (number_with g i (vs ++ us) ≡ number_with g i vs)
item-append g (fix w v) vs us l = (refl, refl)
item-append g (fld w) [] us l = absurd (omega arith)
item-append g (fld w) (v ∷ vs) us l = (refl, refl)
item-append g (two w k) [] us l = absurd (omega arith)
item-append g (two w k) (v ∷ []) us l = absurd (omega arith)
item-append g (two w k) (v ∷ x ∷ vs) us l = (refl, refl)
item-append g (to t) [] us l = absurd (omega arith)
item-append g (to t) (v ∷ vs) us l = (refl, refl)
item-append g (or_none t) [] us l = absurd (omega arith)
item-append g (or_none t) (v ∷ vs) us l = (refl, refl)

-- ---- the whole layout

pub length-lay : (g : ℕ → ℕ) (is : List Item) (vs : List ℕ) → length (lay_with g is vs) ≡ width is
unfolding lay_with width
length-lay g [] vs = refl
length-lay g (i ∷ is) vs = rw (length-append, length-le, length-lay g is (drop (arity i) vs))

pub fields-lay : (is : List Item) (vs rest : List ℕ) → Fit is vs → fields is (lay is vs ++ rest) ≡ vs
unfolding lay_with fields_with
fields-lay [] vs rest f = sym f
fields-lay (i ∷ is) vs rest (f, g) =
    let x = number i vs in
    let zs = lay is (drop (arity i) vs) ++ rest in
    rw (append_assoc, take_at (le (wide i) x) zs (wide i) (length-le (wide i) x), drop_at (le (wide i) x) zs (wide i) (length-le (wide i) x), value-le (wide i) x f.below, taken-number i vs f, fields-lay is (drop (arity i) vs) rest g, take-append-drop)

pub fixed-lay : (is : List Item) (vs rest : List ℕ) → Fit is vs → fixed_ok is (lay is vs ++ rest) ≡ true
unfolding lay_with fixed_ok
fixed-lay [] vs rest f = refl
fixed-lay (i ∷ is) vs rest (f, g) =
    let x = number i vs in
    let zs = lay is (drop (arity i) vs) ++ rest in
    rw (append_assoc, take_at (le (wide i) x) zs (wide i) (length-le (wide i) x), drop_at (le (wide i) x) zs (wide i) (length-le (wide i) x), value-le (wide i) x f.below, is-fixed i vs, fixed-lay is (drop (arity i) vs) rest g)

pub lay-fields : (is : List Item) (bs : List ℕ) → Bytes bs → width is ≤ length bs → fixed_ok is bs ≡ true → lay is (fields is bs) ≡ take (width is) bs
unfolding lay_with fields_with fixed_ok width
lay-fields [] bs h l e = refl
lay-fields (i ∷ is) bs h l e =
    let p = both_true (is_fixed i (value (take (wide i) bs))) (fixed_ok is (drop (wide i) bs)) e in
    let n : length (take (wide i) bs) ≡ wide i = length-take-le (wide i) bs (omega arith) in
    let x = value (take (wide i) bs) in
    let ws = fields is (drop (wide i) bs) in
    let y : le (wide i) x ≡ take (wide i) bs = rw n at (le-value (take (wide i) bs) (bytes_take (wide i) bs h)) in
    rw (number-taken i x ws p.0, y, rest-taken as_is i x ws, lay-fields is (drop (wide i) bs) (bytes_drop (wide i) bs h) (simp length-drop (omega arith)) p.1, take-add)

-- ---- what is read fits

-- the factor of two fields in one is not 0
abbrev pub SaneItem : Item → Type 0
SaneItem (fix w v) = Unit
SaneItem (fld w) = Unit
SaneItem (two w k) = 0 < k
SaneItem (to t) = Unit
SaneItem (or_none t) = Unit

abbrev pub Sane : List Item → Type 0
Sane [] = Unit
Sane (i ∷ is) = SaneItem i × Sane is

item-fit : (i : Item) (x : ℕ) (ws : List ℕ) → SaneItem i → is_fixed i x ≡ true → x < 256 ^ wide i → FitItem i (taken_with as_is i x ++ ws)
item-fit (fix w v) x ws s e l =
    let q : x ≡ v = eqb-true x v e in
    record { there = omega arith; below = rw q at l; low = tt }
item-fit (fld w) x ws s e l = record { there = omega arith; below = l; low = tt }
item-fit (two w k) x ws s e l = record { there = omega arith; below = rw (div-add-mod' x k) l; low = mod-lt x s }
item-fit (to t) x ws s e l = record { there = omega arith; below = l; low = tt }
item-fit (or_none t) x ws s e l = record { there = omega arith; below = l; low = tt }

pub fields_fit : (is : List Item) (bs : List ℕ) → Sane is → Bytes bs → width is ≤ length bs → fixed_ok is bs ≡ true → Fit is (fields is bs)
unfolding fields_with fixed_ok width
fields_fit [] bs s h l e = refl
fields_fit (i ∷ is) bs (s, t) h l e =
    let w = wide i in
    let x = value (take w bs) in
    let p = both_true (is_fixed i x) (fixed_ok is (drop w bs)) e in
    let n : length (take w bs) ≡ w = length-take-le w bs (omega arith) in
    let b : x < 256 ^ w = rw n at (value-lt (take w bs) (bytes_take w bs h)) in
    let ws = fields is (drop w bs) in
    (item-fit i x ws s p.0 b, rw (rest-taken as_is i x ws) (fields_fit is (drop w bs) t (bytes_drop w bs h) (simp length-drop (omega arith)) p.1))

-- ---- references under another name

module _ (g : ℕ → ℕ) where
  taken-renamed : (i : Item) (x : ℕ) (ws : List ℕ) → renamed g i (take (arity i) (taken_with as_is i x ++ ws)) ≡ taken_with g i x
  taken-renamed (fix w v) x ws = refl
  taken-renamed (fld w) x ws = refl
  taken-renamed (two w k) x ws = refl
  taken-renamed (to t) x ws = refl
  taken-renamed (or_none t) x ws = refl

  pub fields-rename : (is : List Item) (bs : List ℕ) → fields_with g is bs ≡ rename g is (fields is bs)
  unfolding fields_with rename
  fields-rename [] bs = refl
  fields-rename (i ∷ is) bs =
      let x = value (take (wide i) bs) in
      let ws = fields is (drop (wide i) bs) in
      rw (taken-renamed i x ws, rest-taken as_is i x ws, fields-rename is (drop (wide i) bs))

  -- what stands in an item's renamed fields, and behind them
  pub item-renamed : (i : Item) (vs ws : List ℕ) → arity i ≤ length vs
      → (number i (renamed g i (take (arity i) vs) ++ ws) ≡ number_with g i vs) × (drop (arity i) (renamed g i (take (arity i) vs) ++ ws) ≡ ws)
  item-renamed (fix w v) vs ws l = (refl, refl)
  item-renamed (fld w) [] ws l = absurd (omega arith)
  item-renamed (fld w) (v ∷ vs) ws l = (refl, refl)
  item-renamed (two w k) [] ws l = absurd (omega arith)
  item-renamed (two w k) (v ∷ []) ws l = absurd (omega arith)
  item-renamed (two w k) (v ∷ x ∷ vs) ws l = (refl, refl)
  item-renamed (to t) [] ws l = absurd (omega arith)
  item-renamed (to t) (v ∷ vs) ws l = (refl, refl)
  item-renamed (or_none t) [] ws l = absurd (omega arith)
  item-renamed (or_none t) (v ∷ vs) ws l = (refl, refl)

  pub lay-rename : (is : List Item) (vs : List ℕ) → length vs ≡ arities is → lay_with g is vs ≡ lay is (rename g is vs)
  unfolding lay_with rename
  lay-rename [] vs l = refl
  lay-rename (i ∷ is) vs l =
      let ws = rename g is (drop (arity i) vs) in
      let e = item-renamed i vs ws (omega arith) in
      rw (e.0, e.1, lay-rename is (drop (arity i) vs) (rest-length i is vs l))

  fit-item : (below : (v : ℕ) → g v < 256 ^ 4) (i : Item) (vs ws : List ℕ) → FitItem i vs → FitItem i (renamed g i (take (arity i) vs) ++ ws)
  fit-item below (fix w v) vs ws f = record { there = omega arith; below = f.below; low = tt }
  fit-item below (fld w) [] ws f = let l : 1 ≤ 0 = f.there in absurd (omega arith)
  fit-item below (fld w) (v ∷ vs) ws f = record { there = omega arith; below = f.below; low = tt }
  fit-item below (two w k) [] ws f = let l : 2 ≤ 0 = f.there in absurd (omega arith)
  fit-item below (two w k) (v ∷ []) ws f = let l : 2 ≤ 1 = f.there in absurd (omega arith)
  fit-item below (two w k) (v ∷ x ∷ vs) ws f = record { there = omega arith; below = f.below; low = f.low }
  fit-item below (to t) [] ws f = let l : 1 ≤ 0 = f.there in absurd (omega arith)
  fit-item below (to t) (v ∷ vs) ws f = record { there = omega arith; below = below v; low = tt }
  fit-item below (or_none t) [] ws f = let l : 1 ≤ 0 = f.there in absurd (omega arith)
  fit-item below (or_none t) (v ∷ vs) ws f = record { there = omega arith; below = below v; low = tt }

  -- fields that fit do so under names of four bytes
  pub fit-rename : (below : (v : ℕ) → g v < 256 ^ 4) (is : List Item) (vs : List ℕ) → Fit is vs → Fit is (rename g is vs)
  unfolding rename
  fit-rename below [] vs f = refl
  fit-rename below (i ∷ is) vs (f, h) =
      let ws = rename g is (drop (arity i) vs) in
      (fit-item below i vs ws f, rw (item-renamed i vs ws f.there).1 (fit-rename below is (drop (arity i) vs) h))
