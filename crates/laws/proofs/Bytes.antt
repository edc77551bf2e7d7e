-- Numbers as bytes, parts of a list, a list laid over another, and sums: each law once, over the width and the place, by induction on the list or the width.
use mathlib.Core.Path.{◌≡◌, refl, ap, ◌∙◌}
use Prim.Native.Nat.{ℕ, zero, suc, ◌+◌, ◌-◌, ◌*◌, ◌/◌, ◌%◌, ◌^◌, ◌≤◌, ◌<◌, min}
use mathlib.Core.List.{List, [], ◌∷◌, ◌++◌, append-nil}
use native.Mathlib.Nat.{pow-suc, pow-succ', div-add-mod, div-div-eq-div-mul, div-lt_iff_lt-mul, div-one, mul_assoc, mul_comm, zero-add, add_assoc, mul-zero, suc-add, zero-lt-suc, one-le-pow, mod-eq_of_lt}
use native.Mathlib.Numerals.{add-one}
use native.Mathlib.Omega.{arith}
use lib.Arith.{mod-mul}
use lib.ListN.{length, take, drop, replicate, set, length-take, length-drop, drop_of_length-le}
use lib.Seq.{take-take, take-nil, drop-nil, take-add, drop-drop, drop-cons, drop-length}
use Rattle.format.specs.Bytes.{Bytes, at, le, value, join, part, over, sum}

-- ---- numbers as bytes

pub length-le : (w v : ℕ) → length (le w v) ≡ w
unfolding le
length-le zero v = refl
length-le (suc w) v = ap suc (length-le w (v / 256))

below : (w v : ℕ) → v < 256 ^ suc w → v / 256 < 256 ^ w
below w v h = (div-lt_iff_lt-mul (zero-lt-suc 255)).1 (rw (pow-succ', mul_comm 256) at h)

pub value-le : (w v : ℕ) → v < 256 ^ w → value (le w v) ≡ v
unfolding le value
value-le zero v h = omega arith
value-le (suc w) v h = rw (value-le w (v / 256) (below w v h)) (omega (arith, div-add-mod v 256))

low : (b n : ℕ) → b < 256 → (b + 256 * n) % 256 ≡ b
low b n h = omega arith

high : (b n : ℕ) → b < 256 → (b + 256 * n) / 256 ≡ n
high b n h = omega arith

pub le-value : (bs : List ℕ) → Bytes bs → le (length bs) (value bs) ≡ bs
unfolding le value
le-value [] h = refl
le-value (b ∷ bs) h = rw (low b (value bs) h.0, high b (value bs) h.0, le-value bs h.1)

pub value-lt : (bs : List ℕ) → Bytes bs → value bs < 256 ^ length bs
unfolding value
value-lt [] h = zero-lt-suc 0
value-lt (b ∷ bs) h = rw pow-succ' (omega (arith, value-lt bs h.1, h.0))

pub le-add : (a b v : ℕ) → le (a + b) v ≡ le a v ++ le b (v / 256 ^ a)
unfolding le
le-add zero b v = rw (zero-add, div-one)
le-add (suc a) b v = rw (suc-add, pow-succ', ← div-div-eq-div-mul, le-add a b (v / 256))

pub le-mod : (a v : ℕ) → le a (v % 256 ^ a) ≡ le a v
unfolding le
le-mod zero v = refl
le-mod (suc a) v =
    let e : v % 256 ^ suc a ≡ v % 256 + 256 * (v / 256 % 256 ^ a) =
    rw pow-suc (omega (arith, mod-mul v (one-le-pow a 256 (zero-lt-suc 255)) (zero-lt-suc 255))) in
    let l : v % 256 < 256 = omega arith in
    rw (e, low _ _ l, high _ _ l, le-mod a (v / 256))

-- a number written in two parts
pub le_parts : (a b v : ℕ) → le a (v % 256 ^ a) ++ le b (v / 256 ^ a) ≡ le (a + b) v
le_parts a b v = rw (le-mod, ← le-add)

-- a turn of a loop over the bytes of a number
pub le-turn : (w i r : ℕ) → i < w → le (w - i) r ≡ r % 256 ∷ le (w - (i + 1)) (r / 256)
unfolding le
le-turn w i r h = let e : w - i ≡ suc (w - (i + 1)) = omega arith in rw e

-- ---- lists of bytes

pub bytes_take : (n : ℕ) (bs : List ℕ) → Bytes bs → Bytes (take n bs)
bytes_take zero bs h = tt
bytes_take (suc n) [] h = tt
bytes_take (suc n) (b ∷ bs) h = (h.0, bytes_take n bs h.1)

pub bytes_drop : (n : ℕ) (bs : List ℕ) → Bytes bs → Bytes (drop n bs)
bytes_drop zero bs h = h
bytes_drop (suc n) [] h = tt
bytes_drop (suc n) (b ∷ bs) h = bytes_drop n bs h.1

pub bytes-part : (bs : List ℕ) (p n : ℕ) → Bytes bs → Bytes (part bs p n)
unfolding part
bytes-part bs p n h = bytes_take n (drop p bs) (bytes_drop p bs h)

pub bytes_of : (bs : List ℕ) → ((i : ℕ) → at bs i < 256) → Bytes bs
bytes_of [] h = tt
bytes_of (b ∷ bs) h = (h 0, bytes_of bs (λ i. h (suc i)))

pub bytes-at : (bs : List ℕ) (i : ℕ) → Bytes bs → at bs i < 256
bytes-at [] i h = zero-lt-suc 255
bytes-at (b ∷ bs) zero h = h.0
bytes-at (b ∷ bs) (suc i) h = bytes-at bs i h.1

-- a turn of a loop over a list
pub drop-turn : (xs : List ℕ) (i : ℕ) → i < length xs → drop i xs ≡ at xs i ∷ drop (i + 1) xs
drop-turn xs i h = rw (add-one, drop-cons xs i 0)

pub replicate-turn : (n i v : ℕ) → i < n → replicate (n - i) v ≡ v ∷ replicate (n - (i + 1)) v
replicate-turn n i v h = let e : n - i ≡ suc (n - (i + 1)) = omega arith in rw e

-- ---- a part of a list

pub part-add : (xs : List ℕ) (p a b : ℕ) → part xs p (a + b) ≡ part xs p a ++ part xs (p + a) b
unfolding part
part-add xs p a b = rw (take-add, drop-drop)

pub length_part : (xs : List ℕ) (p n : ℕ) → p + n ≤ length xs → length (part xs p n) ≡ n
unfolding part
length_part xs p n h = simp (length-take, length-drop) (omega arith)

-- where a part ends before a cut, the cut does not matter
pub part-take : (xs : List ℕ) (n p k : ℕ) → p + k ≤ n → part (take n xs) p k ≡ part xs p k
unfolding part
part-take xs n zero k h = take-take k n xs (omega arith)
part-take [] n (suc p) k h = rw take-nil
part-take (x ∷ xs) zero (suc p) k h = absurd (omega arith)
part-take (x ∷ xs) (suc n) (suc p) k h = part-take xs n p k (omega arith)

-- a part of the n bytes from p on is a part of the whole
pub part-window : (xs : List ℕ) (p n i k : ℕ) → i + k ≤ n → part (take n (drop p xs)) i k ≡ part xs (p + i) k
unfolding part
part-window xs p n i k h = rw (part-take (drop p xs) n i k h, drop-drop i p xs)

pub value-append : (xs ys : List ℕ) → value (xs ++ ys) ≡ value xs + 256 ^ length xs * value ys
unfolding value
value-append [] ys = omega arith
value-append (x ∷ xs) ys = rw (value-append xs ys, pow-succ', mul_assoc) (omega arith)

value-take : (xs : List ℕ) (a b : ℕ) → value (take a xs) + 256 ^ a * value (take b (drop a xs)) ≡ value (take (a + b) xs)
unfolding value
value-take xs zero b = rw (zero-add b) (omega arith)
value-take [] (suc a) b = rw (suc-add, take-nil, mul-zero)
value-take (x ∷ xs) (suc a) b = rw (suc-add, ← value-take xs a b, pow-succ', mul_assoc) (omega arith)

-- a number read in two parts; what lies past the end counts as 0 in both
pub value-parts : (xs : List ℕ) (p a b : ℕ) → value (part xs p a) + 256 ^ a * value (part xs (p + a) b) ≡ value (part xs p (a + b))
unfolding part
value-parts xs p a b = rw (← drop-drop a p xs, value-take)

pub value-byte : (xs : List ℕ) (p : ℕ) → at xs p ≡ value (part xs p 1)
unfolding value part
value-byte [] zero = refl
value-byte [] (suc p) = refl
value-byte (x ∷ xs) zero = omega arith
value-byte (x ∷ xs) (suc p) = value-byte xs p

-- ---- a list laid over another

pub length_over : {A : Type 0} (bs : List A) (p : ℕ) (cs : List A) → length (over bs p cs) ≡ length bs
unfolding over
length_over [] p cs = refl
length_over (b ∷ bs) (suc p) cs = ap suc (length_over bs p cs)
length_over (b ∷ bs) zero [] = refl
length_over (b ∷ bs) zero (c ∷ cs) = ap suc (length_over bs zero cs)

-- one less on each side of a minimum
peel : (a b m : ℕ) → min (suc a) (suc m - 0) ≡ min (suc b) (suc m - 0) → min a (m - 0) ≡ min b (m - 0)
peel a b m h = omega arith

-- one list laid behind another, or behind what fits of it
pub over-behind : {A : Type 0} (bs : List A) (p : ℕ) (xs ys : List A) (n : ℕ) → min n (length bs - p) ≡ min (length xs) (length bs - p)
    → over (over bs p xs) (p + n) ys ≡ over bs p (xs ++ ys)
unfolding over
over-behind [] p xs ys n e = refl
over-behind (b ∷ bs) (suc p) xs ys n e = rw (suc-add, over-behind bs p xs ys n (omega arith))
over-behind (b ∷ bs) zero [] ys n e = let z : 0 + n ≡ 0 = omega arith in rw z
over-behind (b ∷ bs) zero (x ∷ xs) ys zero e = absurd (omega arith)
over-behind (b ∷ bs) zero (x ∷ xs) ys (suc n) e =
    let s : 0 + suc n ≡ suc (0 + n) = omega arith in
    rw (s, over-behind bs zero xs ys n (peel n (length xs) (length bs) e))

pub over-over : {A : Type 0} (bs : List A) (p : ℕ) (xs ys : List A) → over (over bs p xs) (p + length xs) ys ≡ over bs p (xs ++ ys)
over-over bs p xs ys = over-behind bs p xs ys (length xs) refl

-- a call that lays one list behind what is laid already
pub over-next : (bs : List ℕ) (p : ℕ) (xs os : List ℕ) (n : ℕ) (ys ps : List ℕ) → os ≡ over bs p xs → ps ≡ over os n ys → n ≡ p + length xs
    → ps ≡ over bs p (xs ++ ys)
over-next bs p xs os n ys ps e f h = rw (f, e, h, over-over)

-- nothing to lay down, or nothing to lay it over
pub over_none : {A : Type 0} (bs : List A) (p : ℕ) (cs : List A) → min (length cs) (length bs - p) ≡ 0 → over bs p cs ≡ bs
unfolding over
over_none [] p cs h = refl
over_none (b ∷ bs) (suc p) cs h = rw (over_none bs p cs (omega arith))
over_none (b ∷ bs) zero [] h = refl
over_none (b ∷ bs) zero (c ∷ cs) h = absurd (omega arith)

pub over-past : {A : Type 0} (bs : List A) (p : ℕ) (cs : List A) → length bs ≤ p → over bs p cs ≡ bs
over-past bs p cs h = over_none bs p cs (omega arith)

-- one byte laid down
pub over-one : (bs : List ℕ) (p c : ℕ) → set bs p c ≡ over bs p (c ∷ [])
unfolding over
over-one [] p c = refl
over-one (b ∷ bs) zero c = rw (over_none bs 0 [] (omega arith))
over-one (b ∷ bs) (suc p) c = rw (over-one bs p c)

pub over-byte : (bs : List ℕ) (p v : ℕ) → v < 256 → set bs p v ≡ over bs p (le 1 v)
unfolding le
over-byte bs p v h = over-one bs p v ∙ rw (mod-eq_of_lt h)

-- a turn of a loop that lays a list down: its first byte, and then the others
pub over-turn : (bs : List ℕ) (p i c : ℕ) (cs ds : List ℕ) → ds ≡ c ∷ cs → over (set bs (p + i) c) (p + (i + 1)) cs ≡ over bs (p + i) ds
over-turn bs p i c cs ds e = rw (e, over-one, ← add_assoc p i 1) (over-over bs (p + i) (c ∷ []) cs)

-- what would reach past the end does not matter
pub over-cut : {A : Type 0} (bs : List A) (p : ℕ) (xs ys : List A) → length bs ≤ p + length xs → over bs p (xs ++ ys) ≡ over bs p xs
over-cut bs p xs ys h = rw (← over-over, over-past (over bs p xs) (p + length xs) ys (rw length_over h))

-- where all of it fits, the rest stays
pub over-fits : {A : Type 0} (bs : List A) (p : ℕ) (cs : List A) → p + length cs ≤ length bs → over bs p cs ≡ take p bs ++ (cs ++ drop (p + length cs) bs)
unfolding over
over-fits [] p [] h = rw (take-nil, drop-nil)
over-fits [] p (c ∷ cs) h = absurd (omega arith)
over-fits (b ∷ bs) (suc p) cs h = rw (suc-add, over-fits bs p cs (omega arith))
over-fits (b ∷ bs) zero [] h = refl
over-fits (b ∷ bs) zero (c ∷ cs) h = rw (over-fits bs zero cs (omega arith), zero-add, zero-add)

-- a list laid over the whole of another
pub over-all : {A : Type 0} (bs cs : List A) → length cs ≡ length bs → over bs 0 cs ≡ cs
over-all bs cs e = rw (over-fits bs 0 cs (omega arith), zero-add, e, drop-length, append-nil)

-- a number laid down in two parts
pub over-parts : (bs : List ℕ) (p a b v : ℕ)
    → over (over bs p (le a (v % 256 ^ a))) (p + a) (le b (v / 256 ^ a)) ≡ over bs p (le (a + b) v)
over-parts bs p a b v = rw (← le_parts a b v, ← over-over, length-le)

padded-take : (xs : List ℕ) (n w : ℕ) → w ≤ n → value (take w (over (replicate n 0) 0 xs)) ≡ value (take w xs)
unfolding value over
padded-take xs n zero h = refl
padded-take xs zero (suc w) h = absurd (omega arith)
padded-take [] (suc n) (suc w) h =
    omega (arith, rw (over_none {A = ℕ} (replicate n 0) 0 [] (omega arith), take-nil) at (padded-take [] n w (omega arith)))
padded-take (x ∷ xs) (suc n) (suc w) h = rw (padded-take xs n w (omega arith))

-- zeros behind the bytes of a number do not change it
pub value-padded : (xs : List ℕ) (p n w : ℕ) → w ≤ n → value (part (over (replicate n 0) 0 (drop p xs)) 0 w) ≡ value (part xs p w)
unfolding part
value-padded xs p n w h = padded-take (drop p xs) n w h

-- ---- numbers one behind the other

-- a turn of a loop that lays them down: the first, and then the others behind what fits of it
pub join-turn : (bs ws vs os : List ℕ) (p i n : ℕ) → i < length ws → i < length vs → os ≡ over bs p (le (at ws i) (at vs i)) → n ≡ min (at ws i) (length bs - p)
    → over os (p + n) (join (drop (i + 1) ws) (drop (i + 1) vs)) ≡ over bs p (join (drop i ws) (drop i vs))
unfolding join
join-turn bs ws vs os p i n h k e f =
    let l : length (le (at ws i) (at vs i)) ≡ at ws i = length-le (at ws i) (at vs i) in
    rw (e, over-behind bs p (le (at ws i) (at vs i)) (join (drop (i + 1) ws) (drop (i + 1) vs)) n (omega arith), drop-turn ws i h, drop-turn vs i k)

pub join-none : (ws vs : List ℕ) → min (length vs) (length ws) ≡ 0 → join ws vs ≡ []
unfolding join
join-none [] vs h = refl
join-none (w ∷ ws) [] h = refl
join-none (w ∷ ws) (v ∷ vs) h = absurd (omega arith)

pub join-end : (bs ws vs : List ℕ) (p i : ℕ) → min (length vs) (length ws) ≤ i → over bs p (join (drop i ws) (drop i vs)) ≡ bs
join-end bs ws vs p i h =
    rw (join-none (drop i ws) (drop i vs) (simp length-drop (omega arith)), over_none bs p [] (omega arith))

-- ---- sums

pub sum-append : (xs ys : List ℕ) → sum (xs ++ ys) ≡ sum xs + sum ys
unfolding sum
sum-append [] ys = omega arith
sum-append (x ∷ xs) ys = rw (sum-append xs ys) (omega arith)

-- the sum of what a loop has not passed yet
pub sum_drop : (bs : List ℕ) (i : ℕ) → i < length bs → sum (drop i bs) ≡ at bs i + sum (drop (i + 1) bs)
unfolding sum
sum_drop bs i h = rw (drop-turn bs i h)

pub sum-drop-end : (bs : List ℕ) (i : ℕ) → length bs ≤ i → sum (drop i bs) ≡ 0
unfolding sum
sum-drop-end bs i h = rw (drop_of_length-le bs h)
