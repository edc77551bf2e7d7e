-- Ordinals by the walk from the front: it has passed these entries, and comes by one record more.
use mathlib.Core.Path.{◌≡◌, refl, sym, ◌∙◌}
use Prim.Native.Nat.{ℕ, suc, ◌≤◌, ◌<◌}
use mathlib.Core.List.{List, [], ◌∷◌}
use mathlib.Core.Bool.{true}
use mathlib.Core.Logic.{⊎_elim}
use native.Mathlib.Omega.{arith}
use lib.ListN.{length, drop}
use borrow.Author.Tests.{ne_eqb, lt-ltb, le-ltb}
use Rattle.format.specs.Table.{Table, front}
use Rattle.format.specs.Node.{Entry, ordinal_of}
use Rattle.format.specs.Read.{framed}
use Rattle.frames.specs.Frames.{ahead, frames_of, numbered}
use Rattle.frames.proofs.Places.{framed_then, next, numbered-past, numbered_next, lt-or-le}
use Rattle.readout.specs.Places.{ordinal_at}

module _ (t : Table) (c : List ℕ) where
  -- the walk has come to p past these entries: what starts before p is among them, what starts from p on is ahead
  abbrev pub Agrees : ℕ → List Entry → Type 0
  Agrees p es =
      (v : ℕ) → (v < p → numbered 1 v (frames_of t c) ≡ ordinal_of es v) × (p ≤ v → (ordinal_of es v ≡ 0) × (numbered 1 v (frames_of t c) ≡ numbered (suc (length es)) v (ahead t c p)))

  pub agrees_start : Agrees (front t) []
  unfolding ordinal_of
  agrees_start v = (λ l. numbered-past t c v 1 (front t) l, λ l. (refl, refl))

  pub agrees-here : (p : ℕ) (es : List Entry) → Agrees p es → (v : ℕ) → ordinal_at t c p v ≡ ordinal_of es v
  unfolding ordinal_at
  agrees-here p es a v = ⊎_elim (λ (l : v < p). rw (lt-ltb v p l) ((a v).0 l)) (λ (l : p ≤ v). rw (le-ltb v p l) (sym ((a v).1 l).0)) (lt-or-le v p)

  pub agrees-next : (p ty n : ℕ) (es : List Entry) → framed t (drop p c) ≡ true → Agrees p es → Agrees (next t c p) (record { offset = p; type = ty; length = n } ∷ es)
  unfolding ordinal_of
  agrees-next p ty n es f a v =
      let F = framed_then t (drop p c) f in
      let k = suc (length es) in
      let s = numbered_next t c v k p f in (
        λ l. ⊎_elim
            (λ (b : v < p). rw (ne_eqb p v (λ z. omega arith)) ((a v).0 b))
            (λ (b : p ≤ v). ((a v).1 b).1 ∙ s ∙ rw (numbered-past t c v (suc k) (next t c p) l, ((a v).1 b).0))
            (lt-or-le v p),
        λ l. let b : p < v = omega (arith, F.some, F.long) in (
          rw (ne_eqb p v (λ z. omega arith)) ((a v).1 (omega arith)).0,
          ((a v).1 (omega arith)).1 ∙ s ∙ rw (ne_eqb p v (λ z. omega arith)),
        ),
      )
