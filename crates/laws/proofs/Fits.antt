-- Fields that are joined or set fit, and references of joined layouts stay good, by induction over the items or the index.
use mathlib.Core.Path.{◌≡◌, refl, ap}
use Prim.Native.Nat.{ℕ, zero, suc, ◌+◌, ◌^◌, ◌≤◌, ◌<◌}
use mathlib.Core.List.{List, [], ◌∷◌, ◌++◌}
use mathlib.Core.Bool.{Bool, true}
use native.Mathlib.Omega.{arith}
use native.Mathlib.Nat.{one-le-pow, zero-add, suc-add}
use lib.ListN.{length, drop, set, replicate, length-append, get_or-append}
use Rattle.format.specs.Bytes.{at}
use Rattle.format.specs.Layout.{Item, fix, fld, two, to, or_none, arity, arities, as_is, number, is_good, refs_good}
use Rattle.laws.proofs.Lays.{Fit, FitItem, Low, both_true, rest-length, item-append}
use Rattle.laws.proofs.Shapes.{Plain}

-- ---- one item

pub fix-fit : {w v : ℕ} {vs : List ℕ} → v < 256 ^ w → FitItem (fix w v) vs
fix-fit l = record { there = omega arith; below = l; low = tt }

pub zero-fit : {w : ℕ} {vs : List ℕ} → FitItem (fix w 0) vs
zero-fit {w} = fix-fit (one-le-pow w 256 (omega arith))

-- a first field of w bytes
pub fld-fit : {w v : ℕ} {vs : List ℕ} → v < 256 ^ w → FitItem (fld w) (v ∷ vs)
fld-fit l = record { there = omega arith; below = l; low = tt }

-- a field fits at another width where its number does
pub refit : {w v : ℕ} {vs : List ℕ} → at vs 0 < 256 ^ v → FitItem (fld w) vs → FitItem (fld v) vs
refit l f = record { there = f.there; below = l; low = tt }

pub wider : {w v : ℕ} {vs : List ℕ} → 256 ^ w ≤ 256 ^ v → FitItem (fld w) vs → FitItem (fld v) vs
wider l f = refit (omega (arith, f.below)) f

-- ---- joined

low-append : (i : Item) (vs us : List ℕ) → arity i ≤ length vs → Low i vs → Low i (vs ++ us)
low-append (fix w v) vs us l h = tt
low-append (fld w) vs us l h = tt
low-append (two w k) vs us l h = rw (get_or-append vs us 0 1 (omega arith)) h
low-append (to t) vs us l h = tt
low-append (or_none t) vs us l h = tt

-- an item's fields fit whatever stands behind them
item-fit-append : (i : Item) (vs us : List ℕ) → FitItem i vs → FitItem i (vs ++ us)
item-fit-append i vs us f =
    record {
      there = simp length-append (omega (arith, f.there));
      below = rw (item-append as_is i vs us f.there).1 f.below;
      low = low-append i vs us f.there f.low;
    }

pub fit_append : (is js : List Item) (vs us : List ℕ) → Fit is vs → Fit js us → Fit (is ++ js) (vs ++ us)
fit_append [] js vs us f g = rw f g
fit_append (i ∷ is) js vs us (f, h) g =
    (item-fit-append i vs us f, rw (item-append as_is i vs us f.there).0 (fit_append is js (drop (arity i) vs) us h g))

pub good-append : (ok : ℕ → ℕ → Bool) (is js : List Item) (vs us : List ℕ) → length vs ≡ arities is → refs_good ok is vs ≡ true → refs_good ok js us ≡ true → refs_good ok (is ++ js) (vs ++ us) ≡ true
unfolding refs_good
good-append ok [] js [] us l h g = g
good-append ok [] js (v ∷ vs) us l h g = absurd (omega arith)
good-append ok (i ∷ is) js vs us l h g =
    let a = item-append as_is i vs us (omega arith) in
    let p = both_true (is_good ok i (number i vs)) (refs_good ok is (drop (arity i) vs)) h in
    rw (a.0, a.1, p.0) (good-append ok is js (drop (arity i) vs) us (rest-length i is vs l) p.1 g)

pub replicate-snoc : (n : ℕ) (i : Item) → replicate n i ++ (i ∷ []) ≡ i ∷ replicate n i
replicate-snoc zero i = refl
replicate-snoc (suc n) i = ap (λ (l : List Item). i ∷ l) (replicate-snoc n i)

pub plain-good : (ok : ℕ → ℕ → Bool) (is : List Item) (vs : List ℕ) → Plain is → refs_good ok is vs ≡ true
unfolding refs_good
plain-good ok [] vs p = refl
plain-good ok (fix w v ∷ is) vs p = plain-good ok is vs p
plain-good ok (fld w ∷ is) vs p = plain-good ok is (drop 1 vs) p
plain-good ok (two w k ∷ is) vs p = plain-good ok is (drop 2 vs) p
plain-good ok (to t ∷ is) vs p = absurd p
plain-good ok (or_none t ∷ is) vs p = absurd p

-- ---- lists of one width

pub fit_same : (n w v : ℕ) → v < 256 ^ w → Fit (replicate n (fld w)) (replicate n v)
fit_same zero w v l = refl
fit_same (suc n) w v l = (fld-fit l, fit_same n w v l)

-- a list of n fields of w bytes in front of others, set among the first n
pub set_front : (n w : ℕ) (js : List Item) (vs : List ℕ) (k v : ℕ) → k < n → v < 256 ^ w → Fit (replicate n (fld w) ++ js) vs → Fit (replicate n (fld w) ++ js) (set vs k v)
set_front zero w js vs k v l b f = absurd (omega arith)
set_front (suc n) w js [] k v l b f = let z : 1 ≤ 0 = f.0.there in absurd (omega arith)
set_front (suc n) w js (x ∷ vs) zero v l b f = (fld-fit b, f.1)
set_front (suc n) w js (x ∷ vs) (suc k) v l b f = (fld-fit f.0.below, set_front n w js vs k v (omega arith) b f.1)

fit-set : (n w : ℕ) (vs : List ℕ) (k v : ℕ) → v < 256 ^ w → Fit (replicate n (fld w)) vs → Fit (replicate n (fld w)) (set vs k v)
fit-set zero w [] k v l f = refl
fit-set zero w (x ∷ vs) k v l f = cc
fit-set (suc n) w [] k v l f = f
fit-set (suc n) w (x ∷ vs) zero v l f = (fld-fit l, f.1)
fit-set (suc n) w (x ∷ vs) (suc k) v l f = (fld-fit f.0.below, fit-set n w vs k v l f.1)

-- the same, set behind the first n, among m of another width
pub set-behind : (n w m u : ℕ) (vs : List ℕ) (k v : ℕ) → v < 256 ^ u → Fit (replicate n (fld w) ++ replicate m (fld u)) vs → Fit (replicate n (fld w) ++ replicate m (fld u)) (set vs (n + k) v)
set-behind zero w m u vs k v b f = rw zero-add (fit-set m u vs k v b f)
set-behind (suc n) w m u [] k v b f = let z : 1 ≤ 0 = f.0.there in absurd (omega arith)
set-behind (suc n) w m u (x ∷ vs) k v b f = rw suc-add ((fld-fit f.0.below, set-behind n w m u vs k v b f.1))
