-- Frames and references by places, for every framing: a walk from the front names a record exactly where it stands among the records before.
use mathlib.Core.Path.{◌≡◌, refl, sym, ◌∙◌}
use Prim.Native.Nat.{ℕ, zero, suc, ◌+◌, ◌-◌, ◌≤◌, ◌<◌}
use mathlib.Core.List.{List, [], ◌∷◌}
use mathlib.Core.Bool.{Bool, true, false}
use mathlib.Core.Logic.{◌⊎◌, inl, inr, ⊎_elim}
use native.Mathlib.Omega.{arith}
use lib.ListN.{length, drop, length-drop, drop_of_length-le}
use lib.Seq.{drop-drop, length-take-le, take-take}
use lib.Dec.{eqb, leb, ltb}
use borrow.Author.Tests.{eq-eqb, ne_eqb, eqb-true, le-leb, leb-true, leb-false, lt-ltb, le-ltb, ltb-true, ltb-false}
use Rattle.format.specs.Bytes.{pick, part}
use Rattle.format.specs.Table.{Table, pptt, srat, hmat, cedt, front, frame, least}
use Rattle.format.specs.Node.{Entry, entry, at_place}
use Rattle.format.specs.Read.{type_in, size_in, framed, Frames, ended, bad_frame, framed_at, frames}
use Rattle.laws.proofs.Lays.{both_true}
use Rattle.laws.proofs.Good.{frames-first}
use Rattle.frames.specs.Frames.{ahead, frames_of, numbered, named, refers, record_in}

-- ---- a frame

pub part-drop : (c : List ℕ) (p q n : ℕ) → part (drop p c) q n ≡ part c (p + q) n
unfolding part
part-drop c p q n = rw drop-drop

pub least-two : (t : Table) → 2 ≤ least t
least-two pptt = omega arith
least-two srat = omega arith
least-two hmat = omega arith
least-two cedt = omega arith

-- the record that a frame holds
pub record Framed (t : Table) (bs : List ℕ) : Type 0 where
  pub least : least t ≤ size_in t bs
  pub some : 2 ≤ size_in t bs
  pub inside : size_in t bs ≤ length bs
  pub long : length (record_in t bs) ≡ size_in t bs

pub framed_then : (t : Table) (bs : List ℕ) → framed t bs ≡ true → Framed t bs
unfolding framed
framed_then t bs e =
    let n = size_in t bs in
    let p = both_true (leb (least t) n) (leb n (length bs)) (both_true (leb (least t) (length bs)) _ e).1 in
    let l = leb-true (least t) n p.0 in
    let i = leb-true n (length bs) p.1 in
    record { least = l; some = omega (arith, least-two t); inside = i; long = length-take-le n bs i }

type-first : (t : Table) → (frame t).type ≤ least t
type-first pptt = omega arith
type-first srat = omega arith
type-first hmat = omega arith
type-first cedt = omega arith

-- a record's type is that of the bytes from its place on
pub type-in : (t : Table) (bs : List ℕ) → framed t bs ≡ true → type_in t (record_in t bs) ≡ type_in t bs
type-in t bs f =
    let h : (frame t).type ≤ size_in t bs = omega (arith, type-first t, (framed_then t bs f).least) in
    rw (take-take (frame t).type (size_in t bs) bs h)

-- ---- a walk by places: from p on

-- the record at p
abbrev pub record_at : Table → List ℕ → ℕ → List ℕ
record_at t c p = record_in t (drop p c)

-- the place behind it
abbrev pub next : Table → List ℕ → ℕ → ℕ
next t c p = p + length (record_at t c p)

module _ (t : Table) (c : List ℕ) (p : ℕ) where
  pub ahead-end : length c ≤ p → ahead t c p ≡ ended
  unfolding frames
  ahead-end l = rw (drop_of_length-le c l)

  pub ahead-bad : p < length c → framed t (drop p c) ≡ false → ahead t c p ≡ bad_frame p
  unfolding frames
  ahead-bad l f = by (drop p c) (length-drop p c) f
    where
      by : (bs : List ℕ) → length bs ≡ length c - p → framed t bs ≡ false → frames t 0 p bs ≡ bad_frame p
      by [] d f = absurd (omega arith)
      by (b ∷ bs) d f = rw f

  -- a frame stands before the end
  pub room : framed t (drop p c) ≡ true → (p < length c) × (next t c p ≤ length c)
  room f =
      let F = framed_then t (drop p c) f in
      let d : length (drop p c) ≡ length c - p = length-drop p c in
      (omega (arith, F.some, F.inside), omega (arith, F.inside, F.long))

  pub room_for : framed t (drop p c) ≡ true → p + least t ≤ length c
  room_for f =
      let F = framed_then t (drop p c) f in
      let d : length (drop p c) ≡ length c - p = length-drop p c in
      omega (arith, least-two t, F.least, F.inside)

  pub ahead-next : framed t (drop p c) ≡ true → ahead t c p ≡ framed_at p (record_at t c p) (ahead t c (next t c p))
  ahead-next f =
      let F = framed_then t (drop p c) f in
      frames-first t p (drop p c) (omega (arith, F.some, F.inside)) (omega (arith, F.some)) ∙ rw (f, drop-drop, F.long)

pub lt-or-le : (a b : ℕ) → (a < b) ⊎ (b ≤ a)
lt-or-le a b = by (ltb a b) refl
  where
    by : (x : Bool) → ltb a b ≡ x → (a < b) ⊎ (b ≤ a)
    by true e = inl (ltb-true a b e)
    by false e = inr (ltb-false a b e)

-- the walk from p on, by cases: it ends, there is no frame, or the claim holds of what comes behind the record
pub walking : (t : Table) (c : List ℕ) (P : ℕ → Frames → Type 0) → ((p : ℕ) → P p ended) → ((p : ℕ) → P p (bad_frame p))
    → ((p : ℕ) → framed t (drop p c) ≡ true → P (next t c p) (ahead t c (next t c p)) → P p (framed_at p (record_at t c p) (ahead t c (next t c p))))
    → (p : ℕ) → P p (ahead t c p)
walking t c P e b n p = go (length c) p (omega arith)
  where
    go : (m p : ℕ) → length c ≤ p + m → P p (ahead t c p)
    go zero p l = rw (ahead-end t c p (omega arith)) (e p)
    go (suc m) p l = ⊎_elim (λ (a : p < length c). by a (framed t (drop p c)) refl (go m (next t c p))) (λ (a : length c ≤ p). rw (ahead-end t c p a) (e p)) (lt-or-le p (length c))
      where
        by : p < length c → (x : Bool) → framed t (drop p c) ≡ x → (length c ≤ next t c p + m → P (next t c p) (ahead t c (next t c p))) → P p (ahead t c p)
        by a true f ih = let F = framed_then t (drop p c) f in rw (ahead-next t c p f) (n p f (ih (omega (arith, F.some, F.long))))
        by a false f ih = rw (ahead-bad t c p a f) (b p)

-- ---- a walk to v, which reads no more than the lengths on its way

module _ (t : Table) (bs : List ℕ) where
  short-frame : size_in t bs < least t → framed t bs ≡ false
  short-frame l = by (framed t bs) refl
    where
      by : (x : Bool) → framed t bs ≡ x → framed t bs ≡ false
      by true e = absurd (omega (arith, (framed_then t bs e).least))
      by false e = e

  long-frame : least t ≤ length bs → least t ≤ size_in t bs → framed t bs ≡ false → length bs < size_in t bs
  unfolding framed
  long-frame a b e = leb-false (size_in t bs) (length bs) (rw (le-leb _ _ a, le-leb _ _ b) at e)

module _ (t : Table) (c : List ℕ) (v : ℕ) where
  none-numbered : (k p : ℕ) → ((q : ℕ) → p ≤ q → framed t (drop q c) ≡ true → q ≡ v → ⊥) → numbered k v (ahead t c p) ≡ 0
  unfolding numbered
  none-numbered k p h =
      walking t c (λ p fs. (k : ℕ) → ((q : ℕ) → p ≤ q → framed t (drop q c) ≡ true → q ≡ v → ⊥) → numbered k v fs ≡ 0) (λ p k h. refl) (λ p k h. refl)
      (λ p f ih k h. rw (ne_eqb p v (h p (omega arith) f)) (ih (suc k) (λ q l. h q (omega arith)))) p k h

  -- nothing has a number where no frame stands
  pub numbered-bare : (k p : ℕ) → framed t (drop v c) ≡ false → numbered k v (ahead t c p) ≡ 0
  numbered-bare k p f = none-numbered k p (λ q l g e. let z : true ≡ false = sym g ∙ rw e f in let o : ◌≡◌ {A = ℕ} 0 1 = cc in omega arith)

  -- places only rise
  pub numbered-past : (k p : ℕ) → v < p → numbered k v (ahead t c p) ≡ 0
  numbered-past k p l = none-numbered k p (λ q m g e. omega arith)

  pub numbered-here : (k : ℕ) → framed t (drop v c) ≡ true → numbered k v (ahead t c v) ≡ k
  unfolding numbered
  numbered-here k f = rw (ahead-next t c v f, eq-eqb v v refl)

  module _ (k p : ℕ) where
    pub numbered-short : p < length c → size_in t (drop p c) < least t → numbered k v (ahead t c p) ≡ 0
    unfolding numbered
    numbered-short l s = rw (ahead-bad t c p l (short-frame t (drop p c) s))

    pub numbered_next : framed t (drop p c) ≡ true → numbered k v (ahead t c p) ≡ pick (eqb p v) k (numbered (suc k) v (ahead t c (next t c p)))
    unfolding numbered
    numbered_next f = rw (ahead-next t c p f)

    -- a length past the end leads to where nothing has a number, as the frame that it makes bad
    pub numbered-on : (n : ℕ) → p + least t ≤ length c → p < v → n ≡ size_in t (drop p c) → least t ≤ n → numbered k v (ahead t c p) ≡ numbered (suc k) v (ahead t c (p + n))
    unfolding numbered
    numbered-on n r l e m = by (framed t (drop p c)) refl
      where
        by : (x : Bool) → framed t (drop p c) ≡ x → numbered k v (ahead t c p) ≡ numbered (suc k) v (ahead t c (p + n))
        by true f = numbered_next f ∙ rw (ne_eqb p v (λ z. omega arith), (framed_then t (drop p c) f).long, e)
        by false f =
            let d : length (drop p c) ≡ length c - p = length-drop p c in
            let s = long-frame t (drop p c) (omega arith) (omega arith) f in
            rw (ahead-bad t c p (omega (arith, least-two t)) f, ahead-end t c (p + n) (omega arith))

-- ---- references

-- the record that has a number is there: its type decides
pub named-numbered : (t : Table) (c : List ℕ) (v ty k p : ℕ) → named t (ahead t c p) v ty ≡ pick (eqb (numbered (suc k) v (ahead t c p)) 0) false (eqb (type_in t (drop v c)) ty)
unfolding named numbered
named-numbered t c v ty k p =
    walking t c (λ p fs. (k : ℕ) → named t fs v ty ≡ pick (eqb (numbered (suc k) v fs) 0) false (eqb (type_in t (drop v c)) ty)) (λ p k. refl) (λ p k. refl)
    (λ p f ih k. by p f k (ih (suc k)) (eqb p v) refl) p k
  where
    by : (p : ℕ) → framed t (drop p c) ≡ true → (k : ℕ)
        → named t (ahead t c (next t c p)) v ty ≡ pick (eqb (numbered (suc (suc k)) v (ahead t c (next t c p))) 0) false (eqb (type_in t (drop v c)) ty)
        → (x : Bool) → eqb p v ≡ x
        → pick x (eqb (type_in t (record_at t c p)) ty) (named t (ahead t c (next t c p)) v ty)
        ≡ pick (eqb (pick x (suc k) (numbered (suc (suc k)) v (ahead t c (next t c p)))) 0) false (eqb (type_in t (drop v c)) ty)
    by p f k ih true e = rw (type-in t (drop p c) f, eqb-true p v e, ne_eqb (suc k) 0 (λ z. omega arith))
    by p f k ih false e = ih

module _ (t : Table) (v ty : ℕ) (c : List ℕ) (p : ℕ) where
  named_past : v < p → named t (ahead t c p) v ty ≡ false
  named_past l = named-numbered t c v ty 0 p ∙ rw (numbered-past t c v 1 p l)

  named-next : framed t (drop p c) ≡ true → named t (ahead t c p) v ty ≡ pick (eqb p v) (eqb (type_in t (record_at t c p)) ty) (named t (ahead t c (next t c p)) v ty)
  unfolding named
  named-next f = rw (ahead-next t c p f)

-- the walk from the front has come to p, past these records (the newest first)
pub data Came (t : Table) (c : List ℕ) : ℕ → List Entry → Type 0 where
  start : Came t c (front t) []
  more : {p : ℕ} {es : List Entry} → Came t c p es → framed t (drop p c) ≡ true → Came t c (next t c p) (entry p (type_in t (record_at t c p)) (length (record_at t c p)) ∷ es)

module _ (t : Table) (c : List ℕ) (v ty : ℕ) where
  -- what is named before p is among the records passed, and what is named from p on is ahead
  pub passed : {p : ℕ} {es : List Entry} → Came t c p es
      → (v < p → at_place es v ty ≡ named t (frames_of t c) v ty) × (p ≤ v → (at_place es v ty ≡ false) × (named t (frames_of t c) v ty ≡ named t (ahead t c p) v ty))
  unfolding at_place
  passed start = (λ l. sym (named_past t v ty c (front t) l), λ l. (refl, refl))
  passed (more {p} {es} w f) =
      let ih = passed w in
      let n = next t c p in
      let F = framed_then t (drop p c) f in
      let s = named-next t v ty c p f in
      let skip : (p ≡ v → ⊥) → pick (eqb p v) (eqb (type_in t (record_at t c p)) ty) (at_place es v ty) ≡ at_place es v ty = λ z. rw (ne_eqb p v z) in
      let on : p < v → named t (frames_of t c) v ty ≡ named t (ahead t c n) v ty = λ l. (ih.1 (omega arith)).1 ∙ s ∙ rw (ne_eqb p v (λ z. omega arith)) in (
        λ l. ⊎_elim
            (λ (a : v < p). skip (λ z. omega arith) ∙ ih.0 a)
            (λ (a : p ≤ v). ⊎_elim
            (λ (b : p < v). skip (λ z. omega arith) ∙ ((ih.1 a).0 ∙ sym (on b ∙ named_past t v ty c n l)))
            (λ (b : v ≤ p). let e : eqb p v ≡ true = eq-eqb p v (omega arith) in rw e (sym ((ih.1 a).1 ∙ s ∙ rw e)))
            (lt-or-le p v))
            (lt-or-le v p),
        λ l. let b : p < v = omega (arith, F.some, F.long) in (skip (λ z. omega arith) ∙ (ih.1 (omega arith)).0, on b),
      )

  -- a reference that the walk finds before p is one to a record passed
  pub came-refers : {p : ℕ} {es : List Entry} → Came t c p es → at_place es v ty ≡ refers t c p v ty
  unfolding refers
  came-refers {p} w =
      ⊎_elim (λ (l : v < p). (passed w).0 l ∙ rw (lt-ltb v p l)) (λ (l : p ≤ v). ((passed w).1 l).0 ∙ rw (le-ltb v p l)) (lt-or-le v p)
