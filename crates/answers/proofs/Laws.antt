-- What the functions' answers are as lines: by cases on the answers of the calls, and by the laws of laying down.
use mathlib.Core.Path.{◌≡◌, refl, ◌∙◌}
use Prim.Native.Nat.{ℕ, ◌+◌, ◌*◌, ◌-◌, ◌/◌, ◌%◌, ◌≤◌}
use native.Mathlib.Nat.{zero-add}
use mathlib.Core.List.{List, [], ◌∷◌, ◌++◌}
use mathlib.Core.Bool.{Bool, true, false, not}
use native.Mathlib.Omega.{arith}
use lib.Dec.{eqb, ltb, leb}
use lib.ListN.{length, take, drop, replicate, length-replicate, length-append}
use lib.Seq.{take_at}
use borrow.Author.Tests.{leb-true, ltb-false}
use Rattle.format.specs.Bytes.{pick, same, over}
use Rattle.format.specs.Build.{build, built}
use Rattle.format.specs.Out.{read_out, out_written}
use Rattle.format.specs.Listing.{digits, spaced}
use Rattle.laws.proofs.Bytes.{over-fits, over-all}
use Rattle.laws.proofs.Words.{tests_same}
use Rattle.text.specs.Text.{text, hexed, listed}
use Rattle.srat.specs.Srat.{handle_values}
use Rattle.srat.specs.declared.Handle.{Handle}
use Rattle.srat.specs.declared.Handle.TheVariants as handle
use Rattle.build.specs.declared.BuildError.{BuildError}
use Rattle.build.specs.declared.BuildError.TheVariants.{NoRoom, Refused}
use Rattle.build.specs.Answers as making
use Rattle.readout.specs.declared.ReadOutError.{ReadOutError}
use Rattle.readout.specs.declared.ReadOutError.TheVariants as out
use Rattle.readout.specs.Answers as reading
use Rattle.read.specs.declared.Node.{Node}
use Rattle.read.specs.declared.Node.TheVariants as node
use Rattle.read.specs.Answers.{row_in, fields_in}
use Rattle.numbers.specs.Rows.{row_as}
use Rattle.std.specs.Prelude.{Option, Some, None, is_none, Ok, Err}
use Rattle.talk.specs.declared.DataError.TheVariants.{TooLong, Other}
use Rattle.answers.specs.declared.Writes.TheVariants as writes
use Rattle.talk.specs.Numbers.{step_to, onto, number_from, number_in}
use Rattle.talk.specs.Hex.{pairs, all_hex, data_in, all_are}
use Rattle.answers.specs.Lines.{kept_if, fill, success, refusal, told, carried_out, content}

-- ---- bytes laid down in front

pub take-over : (buffer bs : List ℕ) (n : ℕ) → length bs ≡ n → n ≤ length buffer → take n (over buffer 0 bs) ≡ bs
take-over buffer bs n l r =
    let e : over buffer 0 bs ≡ bs ++ drop n buffer = over-fits buffer 0 bs (omega arith) ∙ rw (zero-add, l) in
    rw (e, take_at bs (drop n buffer) n l)

-- ---- numbers and bytes of words

step-low : (most v b w : ℕ) → step_to most v b ≡ Some w → w ≤ most
unfolding step_to
step-low most v b w e = by (ltb b 48) (ltb 57 b) (leb (v * 10 + (b - 48)) most) refl e
  where
    by : (x y z : Bool) → leb (v * 10 + (b - 48)) most ≡ z → pick x None (pick y None (pick z (Some (v * 10 + (b - 48))) None)) ≡ Some w → w ≤ most
    by true y z q e = absurd (let x : ◌≡◌ {A = ℕ} 0 1 = cc in omega arith)
    by false true z q e = absurd (let x : ◌≡◌ {A = ℕ} 0 1 = cc in omega arith)
    by false false false q e = absurd (let x : ◌≡◌ {A = ℕ} 0 1 = cc in omega arith)
    by false false true q e = let x : v * 10 + (b - 48) ≡ w = cc in omega (arith, leb-true (v * 10 + (b - 48)) most q)

onto-value : (m : Option ℕ) (f : ℕ → Option ℕ) (w : ℕ) → onto m f ≡ Some w → (u : ℕ) × (m ≡ Some u) × (f u ≡ Some w)
onto-value None f w e = absurd (let x : ◌≡◌ {A = ℕ} 0 1 = cc in omega arith)
onto-value (Some u) f w e = (u, refl, e)

from_low : (most v : ℕ) (s : List ℕ) (w : ℕ) → v ≤ most → number_from most v s ≡ Some w → w ≤ most
unfolding number_from
from_low most v [] w l e = let x : v ≡ w = cc in omega arith
from_low most v (b ∷ bs) w l e =
    let (u, q, h) = onto-value (step_to most v b) (λ (w : ℕ). number_from most w bs) w e in
    from_low most u bs w (step-low most v b u q) h

-- a number is at most the most
pub number-low : (most : ℕ) (s : List ℕ) (w : ℕ) → number_in most s ≡ Some w → w ≤ most
unfolding number_in
number-low most [] w e = absurd (let x : ◌≡◌ {A = ℕ} 0 1 = cc in omega arith)
number-low most (b ∷ bs) w e = from_low most 0 (b ∷ bs) w (omega arith) e

length_pairs : (w : List ℕ) → length (pairs w) ≡ length w / 2
unfolding pairs
length_pairs [] = refl
length_pairs (a ∷ []) = refl
length_pairs (a ∷ b ∷ bs) = rw (length_pairs bs) (omega arith)

dash-pairs : (w : List ℕ) → w ≡ 45 ∷ [] → pairs w ≡ []
unfolding pairs
dash-pairs w e = rw e

data-fits : (room : ℕ) (w : List ℕ) (k : ℕ) → data_in room w ≡ Ok k → (length (pairs w) ≡ k) × (k ≤ room)
unfolding data_in
data-fits room w k e = by (same w (45 ∷ [])) (eqb (length w) 0) (eqb (length w % 2) 1) (not (all_hex w)) (ltb room (length w / 2)) refl refl e
  where
    by : (a b c d f : Bool) → same w (45 ∷ []) ≡ a → ltb room (length w / 2) ≡ f
        → pick a (Ok 0) (pick b (Err Other) (pick c (Err Other) (pick d (Err Other) (pick f (Err TooLong) (Ok (length w / 2)))))) ≡ Ok k
        → (length (pairs w) ≡ k) × (k ≤ room)
    by true b c d f q l e = let x : 0 ≡ k = cc in (rw (dash-pairs w ((tests_same w (45 ∷ [])).right q)) x, omega arith)
    by false true c d f q l e = absurd (let x : ◌≡◌ {A = ℕ} 0 1 = cc in omega arith)
    by false false true d f q l e = absurd (let x : ◌≡◌ {A = ℕ} 0 1 = cc in omega arith)
    by false false false true f q l e = absurd (let x : ◌≡◌ {A = ℕ} 0 1 = cc in omega arith)
    by false false false false true q l e = absurd (let x : ◌≡◌ {A = ℕ} 0 1 = cc in omega arith)
    by false false false false false q l e = let x : length w / 2 ≡ k = cc in (length_pairs w ∙ x, omega (arith, ltb-false room (length w / 2) l))

-- the first bytes of a buffer that a word's bytes were written to are these
pub unhexed : (w buffer after bs : List ℕ) (k : ℕ) → data_in (length buffer) w ≡ Ok k → after ≡ over buffer 0 (pairs w) → bs ≡ take k after → bs ≡ pairs w
unhexed w buffer after bs k d e f =
    let (l, r) = data-fits (length buffer) w k d in
    rw (f, e) (take-over buffer (pairs w) k l r)

-- ---- building and reading out

filled : (buffer : List ℕ) → over buffer 0 (replicate (length buffer) fill) ≡ replicate (length buffer) fill
filled buffer = over-all buffer (replicate (length buffer) fill) (length-replicate (length buffer) fill)

pub succeeds : (n : ℕ) (out first rest : List ℕ) (kept : Bool) → first ≡ take n out → rest ≡ drop n out → kept ≡ all_are fill rest
    → text "ok" ++ (spaced n ++ (text " " ++ (hexed first ++ kept_if kept))) ≡ success n out
unfolding success
succeeds n out first rest kept f r k = rw (k, r, f)

-- buffer: as it was lent, f: filled, after: after the call
module _ (bs buffer f after : List ℕ) (e : f ≡ over buffer 0 (replicate (length buffer) fill)) where
  pub builds : (n : ℕ) → making.shown (Ok n) ≡ build bs (length f) → after ≡ built bs f → success n after ≡ carried_out writes.Build bs (replicate (length buffer) fill)
  unfolding carried_out told
  builds n is w = rw (← filled buffer, ← e, w, ← is)

  pub builds_not : (r : BuildError) → making.shown (Err r) ≡ build bs (length f) → after ≡ built bs f
      → refusal (making.number_in (making.shown (Err r))) (making.place_of (making.shown (Err r))) (all_are fill after) ≡ carried_out writes.Build bs (replicate (length buffer) fill)
  unfolding carried_out told
  builds_not (NoRoom n) is w = rw (← filled buffer, ← e, w, ← is)
  builds_not (Refused r) is w = rw (← filled buffer, ← e, w, ← is)

  pub reads-out : (n : ℕ) → reading.shown (Ok n) ≡ read_out bs (length f) → after ≡ out_written bs f → success n after ≡ carried_out writes.Out bs (replicate (length buffer) fill)
  unfolding carried_out told
  reads-out n is w = rw (← filled buffer, ← e, w, ← is)

  pub reads-out_not : (r : ReadOutError) → reading.shown (Err r) ≡ read_out bs (length f) → after ≡ out_written bs f
      → refusal (reading.number_of (reading.shown (Err r))) (reading.place_of (reading.shown (Err r))) (all_are fill after) ≡ carried_out writes.Out bs (replicate (length buffer) fill)
  unfolding carried_out told
  reads-out_not (out.Refused r) is w = rw (← filled buffer, ← e, w, ← is)
  reads-out_not out.Revision is w = rw (← filled buffer, ← e, w, ← is)
  reads-out_not (out.Unknown p) is w = rw (← filled buffer, ← e, w, ← is)
  reads-out_not (out.Retired p) is w = rw (← filled buffer, ← e, w, ← is)
  reads-out_not (out.Room n) is w = rw (← filled buffer, ← e, w, ← is)

-- ---- a record's row and values

module _ (vs : List ℕ) where
  pub content-none : (x : Option Node) → is_none x ≡ true → content (row_in x) vs ≡ text "- -"
  unfolding content
  content-none None h = refl
  content-none (Some n) h = absurd (let z : ◌≡◌ {A = ℕ} 0 1 = cc in omega arith)

  pub content-some : (x : Option Node) → is_none x ≡ false → content (row_in x) vs ≡ digits 20 (row_as (row_in x)) ++ (text " " ++ listed vs)
  unfolding content
  content-some None h = absurd (let z : ◌≡◌ {A = ℕ} 0 1 = cc in omega arith)
  content-some (Some n) h = refl

handle-few : (h : Handle) → length (handle_values h) ≤ 4
handle-few (handle.Acpi h u) = omega arith
handle-few (handle.Pci s b d f) = omega arith

-- a record has at most 8 fields
pub few : (x : Option Node) → length (fields_in x) ≤ 8
few None = omega arith
few (Some (node.Processor n)) = omega arith
few (Some (node.Cache n)) = omega arith
few (Some (node.Memory n)) = omega arith
few (Some (node.Initiator n)) = simp length-append (omega (arith, handle-few n.handle))
few (Some (node.OldRintc n)) = omega arith
few (Some (node.Domain n)) = omega arith
few (Some (node.Matrix n)) = omega arith
few (Some (node.Side n)) = omega arith
few (Some (node.Bridge n)) = omega arith
few (Some (node.Window n)) = omega arith
few (Some (node.Xor n)) = omega arith
few (Some (node.Rintc n)) = omega arith
