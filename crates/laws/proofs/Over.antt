-- Bytes laid over joined lists, over what was laid before, what that does to the sum, and places past the end: by induction over the buffer.
use mathlib.Core.Path.{◌≡◌, refl, sym, ap, ◌∙◌}
use Prim.Native.Nat.{ℕ, zero, suc, ◌+◌, ◌-◌, ◌≤◌, ◌<◌, min}
use mathlib.Core.List.{List, [], ◌∷◌, ◌++◌, append-nil}
use mathlib.Core.Bool.{Bool, true, false}
use mathlib.Core.Logic.{◌⊎◌, inl, inr, ⊎_elim}
use native.Mathlib.Omega.{arith}
use native.Mathlib.Nat.{zero-add, suc-add}
use lib.ListN.{length, take, drop, replicate, length-append, length-take, length-drop, length-replicate, take-append-drop, drop_of_length-le, replicate-append-replicate}
use lib.Dec.{leb}
use borrow.Author.Tests.{leb-true, leb-false}
use Rattle.format.specs.Bytes.{value, over, part, sum}
use Rattle.laws.proofs.Bytes.{over-all, over-past, over-cut}

-- ---- joined lists

over-nil : (bs : List ℕ) (p : ℕ) → over bs p [] ≡ bs
unfolding over
over-nil [] p = refl
over-nil (b ∷ bs) zero = refl
over-nil (b ∷ bs) (suc p) = rw (over-nil bs p)

-- behind the first of two lists
pub over-right : (ps qs cs : List ℕ) (k : ℕ) → over (ps ++ qs) (length ps + k) cs ≡ ps ++ over qs k cs
unfolding over
over-right [] qs cs k = rw zero-add
over-right (p ∷ ps) qs cs k = rw (suc-add, over-right ps qs cs k)

-- within the first of two lists
pub over-left : (ps qs cs : List ℕ) (k : ℕ) → k + length cs ≤ length ps → over (ps ++ qs) k cs ≡ over ps k cs ++ qs
unfolding over
over-left ps qs [] k h = rw (over-nil, over-nil)
over-left [] qs (c ∷ cs) k h = absurd (omega arith)
over-left (p ∷ ps) qs (c ∷ cs) zero h = rw (over-left ps qs cs zero (omega arith))
over-left (p ∷ ps) qs (c ∷ cs) (suc k) h = rw (over-left ps qs (c ∷ cs) k (omega arith))

-- all of the first of two lists
pub over_first : (ps qs cs : List ℕ) → length cs ≡ length ps → over (ps ++ qs) 0 cs ≡ cs ++ qs
over_first ps qs cs e = over-left ps qs cs 0 (omega arith) ∙ rw (over-all ps cs e)

-- ---- what was laid before

-- a change within what was laid is laid with it
pub over-within : (xs zs cs : List ℕ) (p k : ℕ) → k + length cs ≤ length zs → over (over xs p zs) (p + k) cs ≡ over xs p (over zs k cs)
unfolding over
over-within [] zs cs p k h = refl
over-within (x ∷ xs) zs cs (suc p) k h = rw (suc-add, over-within xs zs cs p k h)
over-within (x ∷ xs) [] [] zero k h = rw over-nil
over-within (x ∷ xs) [] (c ∷ cs) zero k h = absurd (omega arith)
over-within (x ∷ xs) (z ∷ zs) [] zero k h = rw (over-nil, over-nil)
over-within (x ∷ xs) (z ∷ zs) (c ∷ cs) zero zero h = rw (← zero-add 0) (ap (λ (l : List ℕ). c ∷ l) (over-within xs zs cs zero zero (omega arith)))
over-within (x ∷ xs) (z ∷ zs) (c ∷ cs) zero (suc k) h = rw zero-add (ap (λ (l : List ℕ). z ∷ l) (rw zero-add at (over-within xs zs (c ∷ cs) zero k (omega arith))))

-- a change within the first of two lists that are laid one behind the other
pub over-within-first : (xs : List ℕ) (p : ℕ) (ys zs : List ℕ) (k : ℕ) (cs : List ℕ) → k + length cs ≤ length ys → over (over xs p (ys ++ zs)) (p + k) cs ≡ over xs p (over ys k cs ++ zs)
over-within-first xs p ys zs k cs h = over-within xs (ys ++ zs) cs p k (simp length-append (omega arith)) ∙ rw (over-left ys zs cs k h)

-- a part of what was laid
pub part-within : (xs zs : List ℕ) (p k n : ℕ) → k + n ≤ length zs → p + (k + n) ≤ length xs → part (over xs p zs) (p + k) n ≡ part zs k n
unfolding over part
part-within [] zs p zero zero h l = refl
part-within [] zs p (suc k) n h l = absurd (omega arith)
part-within [] zs p zero (suc n) h l = absurd (omega arith)
part-within (x ∷ xs) zs (suc p) k n h l = rw (suc-add, part-within xs zs p k n h (omega arith))
part-within (x ∷ xs) [] zero zero zero h l = refl
part-within (x ∷ xs) [] zero (suc k) n h l = absurd (omega arith)
part-within (x ∷ xs) [] zero zero (suc n) h l = absurd (omega arith)
part-within (x ∷ xs) (z ∷ zs) zero (suc k) n h l = rw zero-add (rw zero-add at (part-within xs zs zero k n (omega arith) (omega arith)))
part-within (x ∷ xs) (z ∷ zs) zero zero zero h l = refl
part-within (x ∷ xs) (z ∷ zs) zero zero (suc n) h l = ap (λ (l : List ℕ). z ∷ l) (part-within xs zs zero zero n (omega arith) (omega arith))

-- ---- the sum

-- the bytes that were there go, the new ones come
pub sum_over : (xs cs : List ℕ) (p : ℕ) → p + length cs ≤ length xs → sum (over xs p cs) + sum (part xs p (length cs)) ≡ sum xs + sum cs
unfolding over part sum
sum_over [] [] p l = refl
sum_over [] (c ∷ cs) p l = absurd (omega arith)
sum_over (x ∷ xs) cs (suc p) l = omega (arith, sum_over xs cs p (omega arith))
sum_over (x ∷ xs) [] zero l = omega arith
sum_over (x ∷ xs) (c ∷ cs) zero l = omega (arith, sum_over xs cs zero (omega arith))

-- ---- a window: k bytes from place a on, lent as a slice of their own

-- what is laid over the first of two lists, and does not reach past it, or the second is empty
over-front : (qs rs cs : List ℕ) → (length cs ≤ length qs) ⊎ (length rs ≡ 0) → over (qs ++ rs) 0 cs ≡ over qs 0 cs ++ rs
over-front qs rs cs (inl h) = over-left qs rs cs 0 (rw zero-add h)
over-front qs [] cs (inr h) = rw (append-nil, append-nil)
over-front qs (r ∷ rs) cs (inr h) = absurd (omega arith)

-- what is laid over a window is laid over the whole, where it does not reach past the window, or the window ends where the whole does
pub over-window : (xs ys cs : List ℕ) (a k : ℕ) → a + k ≤ length xs → (length cs ≤ k) ⊎ (a + k ≡ length xs) → ys ≡ over (take k (drop a xs)) 0 cs
    → take a xs ++ (ys ++ drop k (drop a xs)) ≡ over xs a cs
over-window xs ys cs a k h w e =
    let ps = take a xs in
    let qs = take k (drop a xs) in
    let rs = drop k (drop a xs) in
    let lp : length ps + 0 ≡ a = simp length-take (omega arith) in
    let lq : length qs ≡ k = simp (length-take, length-drop) (omega arith) in
    let lr : length rs ≡ length xs - a - k = simp length-drop in
    let whole : xs ≡ ps ++ (qs ++ rs) = sym (ap (λ (l : List ℕ). ps ++ l) (take-append-drop k (drop a xs)) ∙ take-append-drop a xs) in
    let fits : (length cs ≤ length qs) ⊎ (length rs ≡ 0) = ⊎_elim (λ l. inl (omega arith)) (λ z. inr (omega arith)) w in
    rw e (ap (λ (l : List ℕ). ps ++ l) (sym (over-front qs rs cs fits)) ∙ sym (over-right ps (qs ++ rs) cs 0) ∙ ap (λ (p : ℕ). over (ps ++ (qs ++ rs)) p cs) lp ∙ ap (λ (l : List ℕ). over l a cs) (sym whole))

-- ---- a place that code names by its largest number where it is past the end

-- what is the same from m on may be cut to m
cut : (f : ℕ → List ℕ) (p m : ℕ) (b : Bool) → leb p m ≡ b → (m ≤ p → f m ≡ f p) → f (min p m) ≡ f p
cut f p m true t h = let e : min p m ≡ p = omega (arith, leb-true p m t) in rw e
cut f p m false t h =
    let l : m < p = leb-false p m t in
    let e : min p m ≡ m = omega arith in
    rw e (h (omega arith))

pub over-at : (bs : List ℕ) (p q m : ℕ) (cs os : List ℕ) → os ≡ over bs q cs → q ≡ min p m → length bs ≤ m → os ≡ over bs p cs
over-at bs p q m cs os e f h =
    rw (e, f) (cut (λ k. over bs k cs) p m (leb p m) refl (λ l. rw (over-past bs m cs h, over-past bs p cs (omega arith))))

pub value-at : (bs : List ℕ) (p q m n x : ℕ) → x ≡ value (part bs q n) → q ≡ min p m → length bs ≤ m → x ≡ value (part bs p n)
unfolding part
value-at bs p q m n x e f h =
    let k : length bs ≤ p → drop m bs ≡ drop p bs = λ l. rw (drop_of_length-le bs h, drop_of_length-le bs l) in
    rw (e, f, cut (λ k. drop k bs) p m (leb p m) refl (λ l. k (omega arith)))

pub fill-at : (bs : List ℕ) (p q m n k v : ℕ) (os : List ℕ) → os ≡ over bs q (replicate k v) → q ≡ min p m → k ≡ min n m → length bs ≤ m
    → os ≡ over bs p (replicate n v)
fill-at bs p q m n k v os e f d h =
    let more : m ≤ n → over bs p (replicate m v) ≡ over bs p (replicate n v) =
    λ l. let s : m + (n - m) ≡ n = omega arith in rw (← s, ← replicate-append-replicate m (n - m) v, over-cut bs p (replicate m v) (replicate (n - m) v) (rw length-replicate (omega arith))) in
    over-at bs p q m (replicate k v) os e f h ∙ rw d (cut (λ j. over bs p (replicate j v)) n m (leb n m) refl more)
