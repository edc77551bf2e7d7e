-- Marks of a table's records: the front is one, so is each place that the walk has come to, and a walk from the nearest finds what the walk from the front finds.
use mathlib.Core.Path.{◌≡◌, refl, sym, ◌∙◌}
use mathlib.Core.Bool.{true}
use Prim.Native.Nat.{ℕ, suc}
use mathlib.Core.List.{List}
use native.Mathlib.Omega.{arith}
use lib.Dec.{ltb}
use lib.ListN.{length, drop}
use borrow.Author.Tests.{ne_eqb, ltb-false}
use Rattle.format.specs.Table.{Table, front}
use Rattle.format.specs.Node.{Entry}
use Rattle.format.specs.Read.{framed}
use Rattle.marks.specs.declared.Mark.{Mark}
use Rattle.marks.specs.Marks.{first_mark, slot, under, toward_place, Every}
use Rattle.marks.proofs.Laws.{start-keeps}
use Rattle.frames.specs.Frames.{ahead, frames_of, numbered, number_from, Passed, named}
use Rattle.frames.proofs.Places.{next, Came, start, more, framed_then, numbered_next, named-numbered}

module _ (t : Table) (c : List ℕ) where
  -- from a mark the walk comes to the one behind the record there, which counts one more
  pub passed-next : (k p : ℕ) → framed t (drop p c) ≡ true → Passed t c (record { nodes = k; place = p }) → Passed t c (record { nodes = suc k; place = next t c p })
  passed-next k p f h v l =
      let F = framed_then t (drop p c) f in
      h v (omega arith) ∙ numbered_next t c v (suc k) p f ∙ rw (ne_eqb p v (λ z. omega (arith, F.some, F.long)))

  -- a place that the walk has come to, past so many records
  pub came-passed : {p : ℕ} {es : List Entry} → Came t c p es → Passed t c (record { nodes = length es; place = p })
  came-passed start = λ v l. refl
  came-passed (more {p} {es} w f) = passed-next (length es) p f (came-passed w)

  module _ (ms : List ℕ) (shift v : ℕ) (h : Every (Passed t c) ms) where
    pub near-number : numbered 1 v (frames_of t c) ≡ number_from t c v (toward_place (first_mark t) shift v ms)
    unfolding toward_place under
    near-number =
        start-keeps (λ (m : Mark). numbered 1 v (frames_of t c) ≡ number_from t c v m) (first_mark t) (under ms shift v) (ltb v (under ms shift v).place) refl
        (λ z e. h (slot shift v) z v (ltb-false v (under ms shift v).place e))

    pub near-named : (ty : ℕ) → named t (frames_of t c) v ty ≡ named t (ahead t c (toward_place (first_mark t) shift v ms).place) v ty
    near-named ty =
        let m = toward_place (first_mark t) shift v ms in
        named-numbered t c v ty 0 (front t) ∙ rw near-number (sym (named-numbered t c v ty m.nodes m.place))
