-- References: ordinals and places stand for each other, and a whole layout's references stay good when they are renamed.
use mathlib.Core.Path.{◌≡◌, refl}
use Prim.Native.Nat.{ℕ, suc, ◌+◌, ◌≤◌, ◌<◌}
use mathlib.Core.List.{List, [], ◌∷◌, ◌++◌}
use mathlib.Core.Bool.{Bool, true, false}
use native.Mathlib.Omega.{arith}
use lib.ListN.{length, take, drop, take-append-drop}
use lib.Dec.{eqb}
use borrow.Author.Tests.{eq-eqb, ne_eqb, eqb-true, le-leb}
use Rattle.format.specs.Bytes.{pick}
use Rattle.format.specs.Layout.{Item, fix, fld, two, to, or_none, arity, arities, number, is_good, refs_good}
use Rattle.format.specs.Table.{Table, pptt, srat, hmat, cedt, front}
use Rattle.format.specs.Form.{Form, processor, cache, memory, acpi, pci, rintc, old_rintc, domain, matrix, side, bridge, window, xor, size}
use Rattle.format.specs.Node.{Node, Entry, sizes, starts, at_place, is_ordinal, at_ordinal, place_of, ordinal_of}
use Rattle.laws.specs.Rename.{renamed, rename}
use Rattle.laws.proofs.Lays.{both_true, rest-length, item-renamed}

-- the places fall from b on, and none is 0
abbrev pub Rising : ℕ → List Entry → Type 0
Rising b [] = 0 < b
Rising b (e ∷ es) = (e.offset < b) × Rising e.offset es

rising-pos : (b : ℕ) (es : List Entry) → Rising b es → 0 < b
rising-pos b [] r = r
rising-pos b (e ∷ es) r = omega (arith, rising-pos e.offset es r.1)

pick-below : (x : Bool) (a c b : ℕ) → a < b → c < b → pick x a c < b
pick-below true a c b h k = h
pick-below false a c b h k = k

pub place-below : (b : ℕ) (es : List Entry) (k : ℕ) → Rising b es → place_of es k < b
unfolding place_of
place-below b [] k r = r
place-below b (e ∷ es) k r =
    pick-below (eqb (suc (length es)) k) e.offset (place_of es k) b r.0 (omega (arith, place-below e.offset es k r.1, r.0))

pub ordinal-below : (es : List Entry) (p : ℕ) → ordinal_of es p < suc (length es)
unfolding ordinal_of
ordinal-below [] p = omega arith
ordinal-below (e ∷ es) p = pick-below (eqb e.offset p) (suc (length es)) (ordinal_of es p) (suc (suc (length es))) (omega arith) (omega (arith, ordinal-below es p))

-- what renaming by f keeps of a good reference: it is good by the other names, leads back by g, and is not none
abbrev pub Kept : (ℕ → ℕ) → (ℕ → ℕ) → (ℕ → ℕ → Bool) → ℕ → ℕ → Type 0
Kept f g ok v t = (ok (f v) t ≡ true) × (g (f v) ≡ v) × (0 < f v)

-- ---- an ordinal that names a record of type t: so does its place, and leads back

there-at : (e : Entry) (es : List Entry) (k t : ℕ) (x : Bool) → eqb (suc (length es)) k ≡ x → Rising e.offset es
    → (at_ordinal es k t ≡ true → Kept (place_of es) (ordinal_of es) (at_place es) k t)
    → pick x (eqb e.type t) (at_ordinal es k t) ≡ true → Kept (place_of (e ∷ es)) (ordinal_of (e ∷ es)) (at_place (e ∷ es)) k t
unfolding place_of ordinal_of at_place
there-at e es k t true q r ih h =
    (rw (q, eq-eqb e.offset e.offset refl) h, rw (q, eq-eqb e.offset e.offset refl) (eqb-true (suc (length es)) k q), rw q (rising-pos e.offset es r))
there-at e es k t false q r ih h =
    let i = ih h in
    let l : place_of es k < e.offset = place-below e.offset es k r in
    let d : eqb e.offset (place_of es k) ≡ false = ne_eqb e.offset (place_of es k) (λ z. omega arith) in
    (rw (q, d) i.0, rw (q, d) i.1, rw q i.2)

pub there : (b : ℕ) (es : List Entry) → Rising b es → (k t : ℕ) → at_ordinal es k t ≡ true → Kept (place_of es) (ordinal_of es) (at_place es) k t
unfolding at_ordinal
there b [] r k t h = let z : ◌≡◌ {A = ℕ} 0 1 = cc in absurd (omega arith)
there b (e ∷ es) r k t h = there-at e es k t (eqb (suc (length es)) k) refl r.1 (there e.offset es r.1 k t) h

-- ---- and from a place

back_at : (e : Entry) (es : List Entry) (p t : ℕ) (x : Bool) → eqb e.offset p ≡ x
    → (at_place es p t ≡ true → Kept (ordinal_of es) (place_of es) (at_ordinal es) p t)
    → pick x (eqb e.type t) (at_place es p t) ≡ true → Kept (ordinal_of (e ∷ es)) (place_of (e ∷ es)) (at_ordinal (e ∷ es)) p t
unfolding place_of ordinal_of at_ordinal
back_at e es p t true q ih h =
    (rw (q, eq-eqb (suc (length es)) (suc (length es)) refl) h, rw (q, eq-eqb (suc (length es)) (suc (length es)) refl) (eqb-true e.offset p q), rw q (omega arith))
back_at e es p t false q ih h =
    let i = ih h in
    let l : ordinal_of es p < suc (length es) = ordinal-below es p in
    let d : eqb (suc (length es)) (ordinal_of es p) ≡ false = ne_eqb (suc (length es)) (ordinal_of es p) (λ z. omega arith) in
    (rw (q, d) i.0, rw (q, d) i.1, rw q i.2)

pub back : (es : List Entry) (p t : ℕ) → at_place es p t ≡ true → Kept (ordinal_of es) (place_of es) (at_ordinal es) p t
unfolding at_place
back [] p t h = let z : ◌≡◌ {A = ℕ} 0 1 = cc in absurd (omega arith)
back (e ∷ es) p t h = back_at e es p t (eqb e.offset p) refl (back es p t) h

-- ---- 0 stands for itself

pub place-zero : (es : List Entry) → place_of es 0 ≡ 0
unfolding place_of
place-zero [] = refl
place-zero (e ∷ es) = rw (ne_eqb (suc (length es)) 0 (λ z. omega arith)) (place-zero es)

pub ordinal-zero : (b : ℕ) (es : List Entry) → Rising b es → ordinal_of es 0 ≡ 0
unfolding ordinal_of
ordinal-zero b [] r = refl
ordinal-zero b (e ∷ es) r =
    let l : 0 < e.offset = rising-pos e.offset es r.1 in
    rw (ne_eqb e.offset 0 (λ z. omega arith)) (ordinal-zero e.offset es r.1)

-- ---- what names a record of some type names a record

pub named-within : (es : List Entry) (k t : ℕ) → at_ordinal es k t ≡ true → (1 ≤ k) × (k ≤ length es)
unfolding at_ordinal
named-within [] k t h = let z : ◌≡◌ {A = ℕ} 0 1 = cc in absurd (omega arith)
named-within (e ∷ es) k t h = by (eqb (suc (length es)) k) refl h (named-within es k t)
  where
    by : (x : Bool) → eqb (suc (length es)) k ≡ x → pick x (eqb e.type t) (at_ordinal es k t) ≡ true → (at_ordinal es k t ≡ true → (1 ≤ k) × (k ≤ length es))
        → (1 ≤ k) × (k ≤ suc (length es))
    by true q h ih = let e = eqb-true (suc (length es)) k q in (omega arith, omega arith)
    by false q h ih = let l = ih h in (l.0, omega (arith, l.1))

is-ordinal : (es : List Entry) (k t : ℕ) → at_ordinal es k t ≡ true → is_ordinal (length es) k t ≡ true
unfolding is_ordinal
is-ordinal es k t h = let l = named-within es k t h in rw (le-leb 1 k l.0, le-leb k (length es) l.1)

module _ (ok ok' : ℕ → ℕ → Bool) (weaker : (v t : ℕ) → ok v t ≡ true → ok' v t ≡ true) where
  item-weaker : (i : Item) (x : ℕ) → is_good ok i x ≡ true → is_good ok' i x ≡ true
  item-weaker (fix w v) x h = refl
  item-weaker (fld w) x h = refl
  item-weaker (two w k) x h = refl
  item-weaker (to t) x h = weaker x t h
  item-weaker (or_none t) x h = by (eqb x 0) h
    where
      by : (y : Bool) → pick y true (ok x t) ≡ true → pick y true (ok' x t) ≡ true
      by true h = refl
      by false h = weaker x t h

  -- references that are good are so by a weaker test
  refs-weaker : (is : List Item) (vs : List ℕ) → refs_good ok is vs ≡ true → refs_good ok' is vs ≡ true
  unfolding refs_good
  refs-weaker [] vs h = refl
  refs-weaker (i ∷ is) vs h =
      let p = both_true (is_good ok i (number i vs)) (refs_good ok is (drop (arity i) vs)) h in
      rw (item-weaker i (number i vs) p.0) (refs-weaker is (drop (arity i) vs) p.1)

-- ---- the starts of nodes

pub length-starts : (t : Table) (ns : List Node) → length (starts t ns) ≡ length ns
unfolding starts
length-starts t [] = refl
length-starts t (n ∷ ns) = rw (length-starts t ns)

-- references that name nodes of the right types name nodes
pub refs-backward : (t : Table) (ns : List Node) (is : List Item) (vs : List ℕ) → refs_good (at_ordinal (starts t ns)) is vs ≡ true → refs_good (is_ordinal (length ns)) is vs ≡ true
refs-backward t ns is vs h =
    let es = starts t ns in
    rw (← length-starts t ns) (refs-weaker (at_ordinal es) (is_ordinal (length es)) (is-ordinal es) is vs h)

-- they rise

pub size-pos : (f : Form) → 0 < size f
size-pos (processor n) = omega arith
size-pos cache = omega arith
size-pos memory = omega arith
size-pos acpi = omega arith
size-pos pci = omega arith
size-pos old_rintc = omega arith
size-pos rintc = omega arith
size-pos domain = omega arith
size-pos (matrix i t) = omega arith
size-pos (side n) = omega arith
size-pos (bridge n) = omega arith
size-pos (window n) = omega arith
size-pos (xor n) = omega arith

-- no node is empty
pub few-nodes : (ns : List Node) → length ns ≤ sizes ns
unfolding sizes
few-nodes [] = omega arith
few-nodes (n ∷ ns) = omega (arith, few-nodes ns, size-pos n.form)

pub front-pos : (t : Table) → 0 < front t
front-pos pptt = omega arith
front-pos srat = omega arith
front-pos hmat = omega arith
front-pos cedt = omega arith

pub starts-rise : (t : Table) (ns : List Node) → Rising (front t + sizes ns) (starts t ns)
unfolding sizes starts
starts-rise t [] = omega (arith, front-pos t)
starts-rise t (n ∷ ns) = (omega (arith, size-pos n.form), starts-rise t ns)

-- ---- a whole layout, renamed by f and back by g

module _ (f g : ℕ → ℕ) (ok ok' : ℕ → ℕ → Bool) (f0 : f 0 ≡ 0) (g0 : g 0 ≡ 0) (keep : (v t : ℕ) → ok v t ≡ true → Kept f g ok' v t) where
  none-good : (v t : ℕ) (x : Bool) → eqb v 0 ≡ x → pick x true (ok v t) ≡ true → (pick (eqb (f v) 0) true (ok' (f v) t) ≡ true) × (g (f v) ≡ v)
  none-good v t true q h =
      let z : v ≡ 0 = eqb-true v 0 q in
      (rw (z, f0), rw (z, f0, g0))
  none-good v t false q h =
      let k = keep v t h in
      let l : 0 < f v = k.2 in
      (rw (ne_eqb (f v) 0 (λ z. omega arith)) k.0, k.1)

  -- an item's good reference is good when renamed, and renamed back
  item-good : (i : Item) (vs ws : List ℕ) → arity i ≤ length vs → is_good ok i (number i vs) ≡ true
      → (is_good ok' i (number i (renamed f i (take (arity i) vs) ++ ws)) ≡ true) × (renamed g i (take (arity i) (renamed f i (take (arity i) vs) ++ ws)) ≡ take (arity i) vs)
  item-good (fix w v) vs ws l h = (refl, refl)
  item-good (fld w) [] ws l h = absurd (omega arith)
  item-good (fld w) (v ∷ vs) ws l h = (refl, refl)
  item-good (two w k) [] ws l h = absurd (omega arith)
  item-good (two w k) (v ∷ []) ws l h = absurd (omega arith)
  item-good (two w k) (v ∷ x ∷ vs) ws l h = (refl, refl)
  item-good (to t) [] ws l h = absurd (omega arith)
  item-good (to t) (v ∷ vs) ws l h = let k = keep v t h in (k.0, rw k.1)
  item-good (or_none t) [] ws l h = absurd (omega arith)
  item-good (or_none t) (v ∷ vs) ws l h = let k = none-good v t (eqb v 0) refl h in (k.0, rw k.1)

  pub refs-kept : (is : List Item) (vs : List ℕ) → length vs ≡ arities is → refs_good ok is vs ≡ true
      → (refs_good ok' is (rename f is vs) ≡ true) × (rename g is (rename f is vs) ≡ vs)
  unfolding refs_good rename
  refs-kept [] [] l h = (refl, refl)
  refs-kept [] (v ∷ vs) l h = absurd (omega arith)
  refs-kept (i ∷ is) vs l h =
      let p = both_true (is_good ok i (number i vs)) (refs_good ok is (drop (arity i) vs)) h in
      let ws = rename f is (drop (arity i) vs) in
      let j = item-good i vs ws (omega arith) p.0 in
      let d = (item-renamed f i vs ws (omega arith)).1 in
      let r = refs-kept is (drop (arity i) vs) (rest-length i is vs l) p.1 in
      (rw (j.0, d, r.0), rw (j.1, d, r.1) (take-append-drop (arity i) vs))
