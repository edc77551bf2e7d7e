-- Writing list after list: what is still to come is laid over what there is; calls by their low bytes, and lists of a layout turn by turn.
use mathlib.Core.Path.{◌≡◌, refl, sym, ap, subst, ◌∙◌}
use Prim.Native.Nat.{ℕ, zero, suc, ◌+◌, ◌*◌, ◌-◌, ◌/◌, ◌%◌, ◌^◌, ◌≤◌, ◌<◌, min}
use mathlib.Core.Bool.{Bool, true, false}
use mathlib.Core.List.{List, [], ◌∷◌, ◌++◌, append-nil, append_assoc}
use native.Mathlib.Omega.{arith}
use native.Mathlib.Numerals.{add-one}
use native.Mathlib.Nat.{add_comm, add-suc, zero-add, add-zero, mul-zero, mul-suc, mul-add-div, mul-add-mod_self_left, div-eq_of_lt, mod-eq_of_lt}
use lib.ListN.{length, replicate, length-append}
use lib.Dec.{eqb}
use Rattle.format.specs.Bytes.{pick, value, part, le, over}
use Rattle.format.specs.Layout.{Item, as_is, fld, to, wide, taken_with, width, lay_with, lay}
use Rattle.format.specs.Form.{Width, byte, pair, octets}
use Rattle.format.specs.Kind.{Kind, Resource, Initiator, Cell, Handle, WindowTarget, Map, body}
use Rattle.format.specs.Normal.{call, each, each_set}
use Rattle.laws.specs.Offsets.{fields_at}
use Rattle.laws.proofs.Bytes.{le-mod, over-over, over_none, length_over}
use Rattle.laws.proofs.Fields.{length-call}
use Rattle.readout.specs.Bounds.{setting_most}
use Rattle.readout.specs.Laid.{Laid, Calls, up_to}
use Rattle.readout.specs.Places.{setting, nth, value_calls, cell_calls}

-- ---- what is still to come

-- xs, laid from place p on over the buffer b, gives what ys laid from place at on over the buffer a gives
pub record Coming (a : List ℕ) (at : ℕ) (ys : List ℕ) (b : List ℕ) (p : ℕ) (xs : List ℕ) : Type 0 where
  pub bytes : over b p xs ≡ over a at ys
  pub next : p + length xs ≡ at + length ys

pub all-coming : (a : List ℕ) (at : ℕ) (ys : List ℕ) → Coming a at ys a at ys
all-coming a at ys = record { bytes = refl; next = refl }

-- the first of it is laid
pub come : {a b b' ys xs zs : List ℕ} {at p p' : ℕ} → Laid b b' p xs p' → Coming a at ys b p (xs ++ zs) → Coming a at ys b' p' zs
come {a} {b} {b'} {ys} {xs} {zs} {at} {p} {p'} l m =
    let n : length (xs ++ zs) ≡ length xs + length zs = length-append xs zs in
    record {
      bytes = rw (l.bytes, l.next) (over-over b p xs zs ∙ m.bytes);
      next = omega (arith, l.next, m.next);
    }

-- nothing is left
pub all_laid : {a b ys : List ℕ} {at p : ℕ} → Coming a at ys b p [] → Laid a b at ys p
all_laid {a} {b} {ys} {at} {p} m = record { bytes = sym (over_none b p [] (omega arith)) ∙ m.bytes; next = omega (arith, m.next) }

pub laid-length : {a b xs : List ℕ} {p q : ℕ} → Laid a b p xs q → length b ≡ length a
laid-length {a} {b} {xs} {p} {q} l = rw (l.bytes, length_over)

-- one behind the other
pub laid_on : {a b c xs ys : List ℕ} {p q r : ℕ} → Laid a b p xs q → Laid b c q ys r → Laid a c p (xs ++ ys) r
laid_on {a} {b} {c} {xs} {ys} {p} {q} {r} l m = all_laid (come m (rw append-nil (come l (all-coming a p (xs ++ ys)))))

-- ---- calls

-- what a record's own call lays, and how many bytes that is
pub put-laid : {a b xs ys : List ℕ} {p r : ℕ} → b ≡ over a p xs → r ≡ length xs → xs ≡ ys → Laid a b p ys (p + r)
put-laid {a} {b} {xs} {ys} {p} {r} w l e = record { bytes = w ∙ ap (over a p) e; next = ap (λ (x : ℕ). p + x) (l ∙ ap length e) }

-- an index and a reference are written by their low bytes
low-index : (w : Width) (v : ℕ) → le (octets w) (v % 65536) ≡ le (octets w) v
low-index byte v =
    let e : v % 65536 % 256 ≡ v % 256 = omega arith in
    sym (le-mod 1 (v % 65536)) ∙ rw e (le-mod 1 v)
low-index pair v = le-mod 2 v

pub low_word : (x v : ℕ) → x ≡ v % 4294967296 → le 4 x ≡ le 4 v
low_word x v e = ap (le 4) e ∙ le-mod 4 v

pub low-setting : (w : Width) (kind j v : ℕ) → kind ∷ lay (body (Initiator w)) (j % 65536 ∷ v ∷ []) ≡ setting w kind j v
unfolding lay_with body
low-setting w kind j v = rw (low-index w j)

pub low-cell : (w : Width) (i j v : ℕ) → call (Cell w) (i % 65536 ∷ j % 65536 ∷ v ∷ []) ≡ call (Cell w) (i ∷ j ∷ v ∷ [])
unfolding lay_with body
low-cell w i j v = rw (low-index w i, low-index w j)

-- how long the calls of one number are at most, and the settings
pub handle_short : (vs : List ℕ) → length (call Handle vs) ≤ 9
unfolding body width
handle_short vs = omega (arith, length-call Handle vs)

pub target_short : (vs : List ℕ) → length (call WindowTarget vs) ≤ 9
unfolding body width
target_short vs = omega (arith, length-call WindowTarget vs)

pub map_short : (vs : List ℕ) → length (call Map vs) ≤ 9
unfolding body width
map_short vs = omega (arith, length-call Map vs)

pub resource_short : (vs : List ℕ) → length (call Resource vs) ≤ 9
unfolding body width
resource_short vs = omega (arith, length-call Resource vs)

pub value_short : (w : Width) (kind j v : ℕ) → length (value_calls w kind j v) ≤ setting_most
unfolding body width
value_short w kind j v = by w (eqb v 0)
  where
    by : (w : Width) (b : Bool) → length (pick b [] (setting w kind j v)) ≤ setting_most
    by w true = omega arith
    by byte false = omega (arith, length-call (Initiator byte) (j ∷ v ∷ []))
    by pair false = omega (arith, length-call (Initiator pair) (j ∷ v ∷ []))

pub cell_short : (w : Width) (i j v : ℕ) → length (cell_calls w i j v) ≤ setting_most
unfolding body width
cell_short w i j v = by w (eqb v 65535)
  where
    by : (w : Width) (b : Bool) → length (pick b [] (call (Cell w) (i ∷ j ∷ v ∷ []))) ≤ setting_most
    by w true = omega arith
    by byte false = omega (arith, length-call (Cell byte) (i ∷ j ∷ v ∷ []))
    by pair false = omega (arith, length-call (Cell pair) (i ∷ j ∷ v ∷ []))

pub short_value : (w : Width) (kind j v : ℕ) → length (value_calls w kind j v) ≤ 9
unfolding body width
short_value w kind j v = omega (arith, value_short w kind j v)

pub short_cell : (w : Width) (i j v : ℕ) → length (cell_calls w i j v) ≤ 9
unfolding body width
short_cell w i j v = omega (arith, cell_short w i j v)

-- nothing is laid
pub none-laid : (a : List ℕ) (p : ℕ) → Laid a a p [] p
none-laid a p = all_laid (all-coming a p [])

-- ---- what a function gives for each number, one behind the other

module _ (f : ℕ → List ℕ) where
  -- what is laid up to i, and what i gives
  pub next-laid : {a b b' : List ℕ} {at p r : ℕ} (i : ℕ) → Laid a b at (up_to f i) p → b' ≡ over b p (f i) → r ≡ length (f i) → Laid a b' at (up_to f (i + 1)) (p + r)
  unfolding up_to
  next-laid i l w e = rw (add-one i) (laid_on l (put-laid w e refl))

  pub up_to-short : (z : ℕ) → ((i : ℕ) → length (f i) ≤ z) → (n : ℕ) → length (up_to f n) ≤ z * n
  unfolding up_to
  up_to-short z h zero = omega arith
  up_to-short z h (suc n) = rw (length-append, mul-suc) (omega (arith, up_to-short z h n, h n))

  pub up_to-append : (m n : ℕ) → up_to f (m + n) ≡ up_to f m ++ up_to (λ i. f (m + i)) n
  unfolding up_to
  up_to-append m zero = rw (add-zero m) (sym (append-nil _))
  up_to-append m (suc n) = rw (add-suc, up_to-append m n, append_assoc)

  up_to-first : (n : ℕ) → up_to f (suc n) ≡ f 0 ++ up_to (λ i. f (suc i)) n
  unfolding up_to
  up_to-first zero = sym (append-nil _)
  up_to-first (suc n) = rw (up_to-first n, append_assoc)

pub up_to-same : (f h : ℕ → List ℕ) (n : ℕ) → ((i : ℕ) → i < n → f i ≡ h i) → up_to f n ≡ up_to h n
unfolding up_to
up_to-same f h zero e = refl
up_to-same f h (suc n) e = rw (up_to-same f h n (λ i l. e i (omega arith)), e n (omega arith))

-- ---- the numbers of a layout's list

-- g: how a reference is read
module _ (g : ℕ → ℕ) (it : Item) (bs : List ℕ) where
  -- the number at i of those from p on
  abbrev pub entry : ℕ → ℕ → ℕ
  entry p i = value (part bs (p + wide it * i) (wide it))

  entry-next : (p i : ℕ) → entry p (suc i) ≡ entry (p + wide it) i
  entry-next p i = let e : p + wide it * suc i ≡ p + wide it + wide it * i = rw mul-suc (omega arith) in rw e

  -- a call for each, read by h
  abbrev pub calls_each : (k : Kind) → ℕ → (ℕ → ℕ) → ((vs : List ℕ) → length (call k vs) ≤ 9) → Calls
  calls_each k p h l = record { of = λ i. call k (h (entry p i) ∷ []); short = λ i. l (h (entry p i) ∷ []) }

  each-fields : (k : Kind) (h : ℕ → ℕ) → ((v : ℕ) → taken_with g it v ≡ h v ∷ []) → (n p : ℕ) → up_to (λ i. call k (h (entry p i) ∷ [])) n ≡ each k (fields_at g (replicate n it) bs p)
  unfolding up_to each
  each-fields k h o zero p = refl
  each-fields k h o (suc n) p =
      let s : up_to (λ i. call k (h (entry p (suc i)) ∷ [])) n ≡ up_to (λ i. call k (h (entry (p + wide it) i) ∷ [])) n = up_to-same (λ i. call k (h (entry p (suc i)) ∷ [])) (λ i. call k (h (entry (p + wide it) i) ∷ [])) n (λ i l. rw (entry-next p i)) in
      up_to-first (λ i. call k (h (entry p i) ∷ [])) n ∙ rw (s, each-fields k h o n (p + wide it), o, mul-zero, add-zero)

  -- calls of one number each
  pub each-laid : {a b : List ℕ} {at q : ℕ} (k : Kind) (h : ℕ → ℕ) → ((v : ℕ) → taken_with g it v ≡ h v ∷ []) → (n p : ℕ) → Laid a b at (up_to (λ i. call k (h (entry p i) ∷ [])) n) q
      → Laid a b at (each k (fields_at g (replicate n it) bs p)) q × (q ≤ at + suc (width (body k)) * n)
  each-laid {a} {b} {at} {q} k h o n p l =
      let s = up_to-short (λ i. call k (h (entry p i) ∷ [])) (suc (width (body k))) (λ i. omega (arith, length-call k (h (entry p i) ∷ []))) n in
      (rw (each-fields k h o n p) at l, omega (arith, l.next, s))

  set-fields : (s : ℕ → ℕ → List ℕ) (u : ℕ) → ((v : ℕ) → taken_with g it v ≡ v ∷ []) → (n j p : ℕ)
      → up_to (λ i. pick (eqb (entry p i) u) [] (s (j + i) (entry p i))) n ≡ each_set s u j (fields_at g (replicate n it) bs p)
  unfolding up_to each_set
  set-fields s u o zero j p = refl
  set-fields s u o (suc n) j p =
      let e = up_to-same (λ i. pick (eqb (entry p (suc i)) u) [] (s (j + suc i) (entry p (suc i)))) (λ i. pick (eqb (entry (p + wide it) i) u) [] (s (suc j + i) (entry (p + wide it) i))) n
      (λ i l. let a : j + suc i ≡ suc j + i = omega arith in ap (λ (v : ℕ). pick (eqb v u) [] (s (j + suc i) v)) (entry-next p i) ∙ ap (λ (m : ℕ). pick (eqb (entry (p + wide it) i) u) [] (s m (entry (p + wide it) i))) a) in
      up_to-first (λ i. pick (eqb (entry p i) u) [] (s (j + i) (entry p i))) n ∙ rw (e, set-fields s u o n (suc j) (p + wide it), o, mul-zero, add-zero p, add-zero j)

  -- settings of those that are not unset
  pub set-laid : {a b : List ℕ} {at q : ℕ} (s : ℕ → ℕ → List ℕ) (u : ℕ) → ((v : ℕ) → taken_with g it v ≡ v ∷ []) → (n p : ℕ) → Laid a b at (up_to (λ i. pick (eqb (entry p i) u) [] (s i (entry p i))) n) q
      → Laid a b at (each_set s u 0 (fields_at g (replicate n it) bs p)) q
  set-laid {a} {b} {at} {q} s u o n p l = let e : up_to (λ i. pick (eqb (entry p i) u) [] (s i (entry p i))) n ≡ each_set s u 0 (fields_at g (replicate n it) bs p) = up_to-same _ _ n (λ i l. rw zero-add) ∙ set-fields s u o n 0 p in subst (λ (xs : List ℕ). Laid a b at xs q) e l

-- ---- a matrix's numbers, each at a place that is not past the last one

abbrev pub value_list : Width → ℕ → List ℕ → ℕ → Calls
value_list w kind bs p = record { of = λ j. value_calls w kind j (nth 4 bs p j); short = λ j. short_value w kind j (nth 4 bs p j) }

abbrev pub cell_list : Width → ℕ → List ℕ → ℕ → Calls
cell_list w i bs p = record { of = λ j. cell_calls w i j (nth 2 bs p j); short = λ j. short_cell w i j (nth 2 bs p j) }

values-seen : (w : Width) (kind : ℕ) (bs : List ℕ) (p n : ℕ) → p + 4 * n < 2 ^ 64 → up_to (λ j. value_calls w kind j (nth 4 bs p j)) n ≡ up_to (λ j. value_calls w kind j (value (part bs (p + 4 * j) 4))) n
values-seen w kind bs p n l = up_to-same _ _ n (λ j k. let e : min (p + 4 * j) (2 ^ 64 - 1) ≡ p + 4 * j = omega arith in rw e)

cells-seen : (w : Width) (i : ℕ) (bs : List ℕ) (p n : ℕ) → p + 2 * n < 2 ^ 64 → up_to (λ j. cell_calls w i j (nth 2 bs p j)) n ≡ up_to (λ j. cell_calls w i j (value (part bs (p + 2 * j) 2))) n
cells-seen w i bs p n l = up_to-same _ _ n (λ j k. let e : min (p + 2 * j) (2 ^ 64 - 1) ≡ p + 2 * j = omega arith in rw e)

pub values-laid : (w : Width) (kind : ℕ) (bs : List ℕ) (p n : ℕ) {a b : List ℕ} {at q : ℕ} → p + 4 * n < 2 ^ 64 → Laid a b at (up_to (value_list w kind bs p).of n) q
    → Laid a b at (each_set (setting w kind) 0 0 (fields_at as_is (replicate n (fld 4)) bs p)) q × (q ≤ at + setting_most * n)
values-laid w kind bs p n {a} {b} {at} {q} l m =
    let k = subst (λ (xs : List ℕ). Laid a b at xs q) (values-seen w kind bs p n l) m in
    (set-laid as_is (fld 4) bs (setting w kind) 0 (λ v. refl) n p k, omega (arith, m.next, up_to-short (value_list w kind bs p).of setting_most (λ j. value_short w kind j (nth 4 bs p j)) n))

pub cells-laid : (w : Width) (i : ℕ) (bs : List ℕ) (p n : ℕ) {a b : List ℕ} {at q : ℕ} → p + 2 * n < 2 ^ 64 → Laid a b at (up_to (cell_list w i bs p).of n) q
    → Laid a b at (up_to (λ j. cell_calls w i j (value (part bs (p + 2 * j) 2))) n) q × (q ≤ at + setting_most * n)
cells-laid w i bs p n {a} {b} {at} {q} l m =
    (subst (λ (xs : List ℕ). Laid a b at xs q) (cells-seen w i bs p n l) m, omega (arith, m.next, up_to-short (cell_list w i bs p).of setting_most (λ j. cell_short w i j (nth 2 bs p j)) n))

-- ---- the cells row by row

-- the cells of so many rows, of t columns, from p on
abbrev pub row_cells : Width → ℕ → List ℕ → ℕ → ℕ → List ℕ
row_cells w t bs p e = cell_calls w (e / t) (e % t) (value (part bs (p + 2 * e) 2))

-- one row more
row-next : (w : Width) (t : ℕ) (bs : List ℕ) (p i : ℕ) → up_to (row_cells w t bs p) (i * t) ++ up_to (λ j. cell_calls w i j (value (part bs (p + 2 * (i * t) + 2 * j) 2))) t ≡ up_to (row_cells w t bs p) ((i + 1) * t)
row-next w t bs p i =
    let s : (i + 1) * t ≡ i * t + t = omega arith in
    let e = up_to-same (λ j. row_cells w t bs p (i * t + j)) (λ j. cell_calls w i j (value (part bs (p + 2 * (i * t) + 2 * j) 2))) t
    (λ j l. let c : i * t + j ≡ t * i + j = omega arith in let d : (i * t + j) / t ≡ i = rw c (mul-add-div (omega arith) i j ∙ rw (div-eq_of_lt l, add-zero)) in let m : (i * t + j) % t ≡ j = rw c (mul-add-mod_self_left t i j ∙ mod-eq_of_lt l) in let q : p + 2 * (i * t + j) ≡ p + 2 * (i * t) + 2 * j = omega arith in rw (d, m, q)) in
    rw (s, up_to-append (row_cells w t bs p) (i * t) t, e)

pub rows-next : (w : Width) (t : ℕ) (bs : List ℕ) (p i : ℕ) {a b b' : List ℕ} {at q q' : ℕ} → Laid a b at (up_to (row_cells w t bs p) (i * t)) q
    → Laid b b' q (up_to (λ j. cell_calls w i j (value (part bs (p + 2 * (i * t) + 2 * j) 2))) t) q' → Laid a b' at (up_to (row_cells w t bs p) ((i + 1) * t)) q'
rows-next w t bs p i {a} {b} {b'} {at} {q} {q'} l m = subst (λ (xs : List ℕ). Laid a b' at xs q') (row-next w t bs p i) (laid_on l m)

pub rows-short : (w : Width) (t : ℕ) (bs : List ℕ) (p n : ℕ) → length (up_to (row_cells w t bs p) n) ≤ setting_most * n
rows-short w t bs p n = up_to-short (row_cells w t bs p) setting_most (λ e. cell_short w (e / t) (e % t) (value (part bs (p + 2 * e) 2))) n

pub rows-laid : (w : Width) (t : ℕ) (bs : List ℕ) (p n : ℕ) {a b : List ℕ} {at q : ℕ} → Laid a b at (up_to (row_cells w t bs p) n) q
    → Laid a b at (each_set (λ e v. call (Cell w) (e / t ∷ e % t ∷ v ∷ [])) 65535 0 (fields_at as_is (replicate n (fld 2)) bs p)) q
rows-laid w t bs p n l = set-laid as_is (fld 2) bs (λ e v. call (Cell w) (e / t ∷ e % t ∷ v ∷ [])) 65535 (λ v. refl) n p l

-- a list of references is as long whatever they are
pub length-each : (k : Kind) (g : ℕ → ℕ) (y n : ℕ) (bs : List ℕ) (p : ℕ) → length (each k (fields_at g (replicate n (to y)) bs p)) ≡ suc (width (body k)) * n
unfolding each
length-each k g y zero bs p = sym (mul-zero _)
length-each k g y (suc n) bs p = rw (length-append, length-call, length-each k g y n bs (p + 4), mul-suc) (add_comm _ _)
