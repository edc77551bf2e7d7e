-- What is written over a part of a slice is laid over the whole of it.
use Rattle.std.proofs.Common.{◌≡◌, ℕ, zero, suc, [], ◌∷◌, ◌++◌, ◌+◌, ◌-◌, ◌≤◌, min, Bool, true, false, leb, leb-true, leb-false, List, length, take, drop, refl, sym, ◌∙◌, arith, length-take, length-drop, take_all}
use borrow.Rule.Slice.PartMut.{put_mid}
use lib.Seq.{drop-drop}
use lib.ListN.{take-append-drop, drop_of_length-le}
use mathlib.Core.List.{append-nil}
use Rattle.format.specs.Bytes.{over}
use Rattle.laws.proofs.Bytes.{over-fits, over-past, over-cut, over-all, over_none}

pub laid : {A : Type 0} (bs : List A) (p n : ℕ) (cs : List A) → p + length cs ≤ length bs → n ≡ length cs → put_mid p n bs cs ≡ over bs p cs
laid bs p n cs h e = rw (e, drop-drop) (sym (over-fits bs p cs h))

-- the same where it is laid over that part, which has room for just it
pub laid_over : {A : Type 0} (bs : List A) (p n : ℕ) (cs : List A) → p + length cs ≤ length bs → n ≡ length cs → put_mid p n bs (over (take n (drop p bs)) 0 cs) ≡ over bs p cs
laid_over bs p n cs h e =
    let l : length cs ≡ length (take n (drop p bs)) = simp (length-take, length-drop) (omega (arith, h, e)) in
    rw (over-all (take n (drop p bs)) cs l) (laid bs p n cs h e)

-- what is laid over all that stands behind a place
behind : {A : Type 0} (bs : List A) (p : ℕ) (cs : List A) → p ≤ length bs → take p bs ++ over (drop p bs) 0 cs ≡ over bs p cs
unfolding over
behind [] zero cs h = refl
behind [] (suc p) cs h = absurd (omega arith)
behind (b ∷ bs) zero cs h = refl
behind (b ∷ bs) (suc p) cs h = rw (behind bs p cs (omega arith))

-- the same from the end on where the place is past it
pub laid_behind : {A : Type 0} (bs : List A) (at p n : ℕ) (cs : List A) → p ≡ min at (length bs) → n ≡ length bs - p
    → put_mid p n bs (over (take n (drop p bs)) 0 cs) ≡ over bs at cs
laid_behind bs at p n cs e f =
    let l : length (drop p bs) ≡ n = rw length-drop (sym f) in
    rw (take_all n (drop p bs) (omega (arith, l)), drop_of_length-le (drop p bs) {i = n} (omega (arith, l)), append-nil) (behind bs p cs (omega (arith, e)) ∙ by (leb (length bs) at) refl)
  where
    by : (b : Bool) → leb (length bs) at ≡ b → over bs p cs ≡ over bs at cs
    by true x =
        let h = leb-true (length bs) at x in
        over-past bs p cs (omega (arith, e)) ∙ sym (over-past bs at cs h)
    by false x =
        let h = leb-false (length bs) at x in
        let s : p ≡ at = omega (arith, e) in
        rw s

-- as much as fits of what is to be laid, from a place on that is no further than the end
pub fits : {A : Type 0} (bs : List A) (at p n : ℕ) (cs : List A) → p ≡ min at (length bs) → n ≡ min (length cs) (length bs - p)
    → over bs p (take n cs) ≡ over bs at cs
fits bs at p n cs e f = by (leb (length bs) at) refl
  where
    by : (b : Bool) → leb (length bs) at ≡ b → over bs p (take n cs) ≡ over bs at cs
    by true x =
        let h = leb-true (length bs) at x in
        over_none bs p (take n cs) (omega (arith, e)) ∙ sym (over-past bs at cs h)
    by false x =
        let h = leb-false (length bs) at x in
        let s : p ≡ at = omega (arith, e) in
        by2 s (leb (length cs) (length bs - p)) refl
      where
        by2 : p ≡ at → (b : Bool) → leb (length cs) (length bs - p) ≡ b → over bs p (take n cs) ≡ over bs at cs
        by2 s true y =
            let k = leb-true (length cs) (length bs - p) y in
            rw (take_all n cs (omega (arith, f)), s)
        by2 s false y =
            let k = leb-false (length cs) (length bs - p) y in
            let l : length (take n cs) ≡ length bs - p = rw length-take (omega (arith, f)) in
            let h : length bs ≤ p + length (take n cs) = omega (arith, l) in
            rw (← s) (sym (rw take-append-drop at (over-cut bs p (take n cs) (drop n cs) h)))
