-- The whole recipe: its head and its calls laid one behind the other, and what reading out answers by the revision and the measure.
use mathlib.Core.Path.{◌≡◌, refl}
use Prim.Native.Nat.{ℕ, ◌+◌, ◌≤◌}
use mathlib.Core.List.{List}
use mathlib.Core.Bool.{true, false}
use native.Mathlib.Omega.{arith}
use lib.ListN.{length}
use lib.Dec.{eqb}
use Rattle.format.specs.Bytes.{Answer, refused, and_then, at, over}
use Rattle.format.specs.Table.{Table, revision}
use Rattle.format.specs.Read.{own}
use Rattle.format.specs.Build.{fitting, written}
use Rattle.format.specs.Normal.{head_call}
use Rattle.format.specs.Out.{head_in}
use Rattle.laws.proofs.Bytes.{length_part}
use Rattle.readout.specs.declared.ReadOutError.{ReadOutError}
use Rattle.readout.specs.declared.ReadOutError.TheVariants.{Refused, Revision, Unknown, Retired, Room}
use Rattle.readout.specs.Answers.{refused_by}
use Rattle.readout.specs.Laid.{Laid}
use Rattle.readout.specs.Places.{calls_at, measured, recipe_as, out_as}
use Rattle.readout.proofs.Lists.{laid_on}

pub recipe-laid : (t : Table) (b x o₁ o₂ : List ℕ) → 36 ≤ length b → o₁ ≡ over x 0 (head_call (head_in t b)) → o₂ ≡ over o₁ 28 (calls_at t (at b 8) (own b)) → o₂ ≡ over x 0 (recipe_as t b)
unfolding recipe_as
recipe-laid t b x o₁ o₂ l e₁ e₂ =
    let h : Laid x o₁ 0 (head_call (head_in t b)) 28 = record { bytes = e₁; next = rw (length_part b 10 26 (omega arith)) } in
    let k : Laid o₁ o₂ 28 (calls_at t (at b 8) (own b)) (28 + length (calls_at t (at b 8) (own b))) = record { bytes = e₂; next = refl } in
    (laid_on h k).bytes

module _ (t : Table) (b : List ℕ) (room : ℕ) where
  pub other-revision : eqb (at b 8) (revision t) ≡ false → out_as t b room ≡ refused 30 8
  unfolding out_as
  other-revision e = rw e

  pub by-measure : (m : Answer ℕ) → eqb (at b 8) (revision t) ≡ true → m ≡ measured t (at b 8) (own b) → out_as t b room ≡ and_then m (fitting 31 room)
  unfolding out_as
  by-measure m e f = rw (e, f)

-- ---- refusals: nothing follows them, and nothing is written

pub refused-stays : (e : ReadOutError) (f : ℕ → Answer ℕ) → and_then (refused_by e) f ≡ refused_by e
refused-stays (Refused r) f = refl
refused-stays Revision f = refl
refused-stays (Unknown p) f = refl
refused-stays (Retired p) f = refl
refused-stays (Room n) f = refl

pub refused-wrote : (e : ReadOutError) (xs bs : List ℕ) → written (refused_by e) xs bs ≡ bs
unfolding written
refused-wrote (Refused r) xs bs = refl
refused-wrote Revision xs bs = refl
refused-wrote (Unknown p) xs bs = refl
refused-wrote (Retired p) xs bs = refl
refused-wrote (Room n) xs bs = refl
