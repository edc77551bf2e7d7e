-- The record that holds a place, going from record to record: one more is cut off, or the cut ends there.
use mathlib.Core.Path.{◌≡◌, refl}
use Prim.Native.Nat.{ℕ, ◌+◌, ◌≤◌, ◌<◌}
use mathlib.Core.List.{List}
use mathlib.Core.Bool.{Bool, true, false}
use mathlib.Core.Option.{none, some}
use native.Mathlib.Omega.{arith}
use borrow.Author.Tests.{ltb-true}
use lib.Dec.{ltb}
use lib.ListN.{length, drop, drop_of_length-le, length-drop}
use Rattle.format.specs.Bytes.{pick, at}
use Rattle.format.specs.Layout.{width, fields}
use Rattle.format.specs.Table.{Table}
use Rattle.format.specs.Kind.{Kind, kind_of, body}
use Rattle.format.specs.Recipe.{Calls, cut_off, called, cut_as, cut}
use Rattle.laws.proofs.Calls.{cut_at}
use Rattle.blames.specs.Words.{if_holds, holder}

module _ (t : Table) (r : List ℕ) (p place : ℕ) where
  pub holder-end : length r ≤ p → holder place (cut t 0 p (drop p r)) ≡ none
  unfolding cut holder
  holder-end l = rw (drop_of_length-le r l)

  pub holder-unknown : p < length r → kind_of t (at r p) ≡ none → holder place (cut t 0 p (drop p r)) ≡ none
  unfolding cut_as holder
  holder-unknown l e = rw (cut_at t r p l, e)

  -- behind a record that is cut there is nothing
  pub holder-next : p < length r → (k : Kind) → kind_of t (at r p) ≡ some k
      → holder place (cut t 0 p (drop p r)) ≡ if_holds place p k (holder place (cut t 0 (p + 1 + width (body k)) (drop (p + 1 + width (body k)) r)))
  unfolding cut_as cut holder
  holder-next l k e = rw (cut_at t r p l, e) (by (ltb (length (drop (p + 1) r)) (width (body k))) refl)
    where
      rest : Calls
      rest = cut t 0 (p + 1 + width (body k)) (drop (p + 1 + width (body k)) r)

      by : (x : Bool) → ltb (length (drop (p + 1) r)) (width (body k)) ≡ x
          → holder place (pick x (cut_off p k) (called p k (fields (body k) (drop (p + 1) r)) rest)) ≡ if_holds place p k (holder place rest)
      by true c =
          let s : length r ≤ p + 1 + width (body k) = omega (arith, ltb-true (length (drop (p + 1) r)) (width (body k)) c, length-drop (p + 1) r) in
          rw (drop_of_length-le r s)
      by false c = refl
