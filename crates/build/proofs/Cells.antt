-- A cell of the newest matrix, by the bytes of its record: a turn of the pass in which only the place, the sum and two bytes of the buffer change.
use mathlib.Core.Path.{◌≡◌, refl, ap, sym, ◌∙◌}
use Prim.Native.Nat.{ℕ, suc, ◌+◌, ◌-◌, ◌*◌, ◌%◌, ◌^◌, ◌≤◌, ◌<◌, min}
use mathlib.Core.List.{List}
use mathlib.Core.Option.{some}
use native.Mathlib.Omega.{arith}
use native.Mathlib.Nat.{add-zero}
use lib.ListN.{length, take, drop, get_or}
use Rattle.format.specs.Bytes.{at, le, part, over, sum}
use Rattle.format.specs.Layout.{as_is, fields}
use Rattle.format.specs.Table.{hmat}
use Rattle.format.specs.Form.{Width, byte, pair}
use Rattle.format.specs.Kind.{Cell, kind_number, kind_of, body}
use Rattle.format.specs.Recipe.{Meaning}
use Rattle.format.specs.Build.{check_of}
use Rattle.laws.proofs.Bytes.{length-le}
use Rattle.laws.proofs.Offsets.{fields-at}
use Rattle.laws.proofs.Fields.{body-window}
use Rattle.hmat.specs.declared.Cell as declared
use Rattle.hmat.specs.Settings.{cell_fields}
use Rattle.writes.specs.declared.State.{State}
use Rattle.writes.specs.declared.Found.{Found}
use Rattle.writes.specs.Writes.{change_of, wrote}
use Rattle.build.specs.Write.{body_width, row_in, column_in, value_in, entry_at}
use Rattle.build.specs.Held.{Held, Ready, Goes}
use Rattle.build.proofs.Sums.{part-over, sum-still}
use Rattle.build.proofs.Steps.{whole, in_table, in_buffer, goes}

-- what its body says, behind the kind byte at p
said : (w : Width) (r : List ℕ) (p : ℕ)
    → (let vs : List ℕ = fields (body (Cell w)) (drop (p + 1) r) in (at vs 0 ≡ row_in w r p) × (at vs 1 ≡ column_in w r p) × (at vs 2 ≡ value_in w r p))
unfolding body
said w r p = rw (fields-at as_is (body (Cell w)) r (p + 1)) (refl, refl, refl)

-- ---- a cell, read in the n bytes behind the kind byte at p

module _ (w : Width) (r : List ℕ) (p n : ℕ) (c : declared.Cell) (e : cell_fields c ≡ fields (body (Cell w)) (take n (drop (p + 1) r))) (h : body_width w ≤ n) where
  read : cell_fields c ≡ fields (body (Cell w)) (drop (p + 1) r)
  read = e ∙ body-window (Cell w) (drop (p + 1) r) n h

  pub value-is : c.value ≡ value_in w r p
  value-is = ap (λ (vs : List ℕ). at vs 2) read ∙ (said w r p).2

  -- a place in a buffer of l bytes is exact
  pub entry-exact : (cells t l q : ℕ) → q ≡ min (cells + 2 * (c.initiator_idx * t + c.target_idx)) (2 ^ 64 - 1)
      → entry_at w r p cells t + 2 ≤ l → l < 2 ^ 64 → q ≡ entry_at w r p cells t
  entry-exact cells t l q f k s =
      let i = ap (λ (vs : List ℕ). at vs 0) read ∙ (said w r p).0 in
      let j = ap (λ (vs : List ℕ). at vs 1) read ∙ (said w r p).1 in
      let g : q ≡ min (entry_at w r p cells t) (2 ^ 64 - 1) = rw (i, j) at f in
      omega arith

-- ---- in a run of cells

-- what it relies on
pub held_at : (r : List ℕ) (s s' : State) (out out' : List ℕ) (ms : List ℕ) (y : Ready r hmat s out ms) → Goes r hmat s out s' out' → Held y.start r hmat y.meant s' out' ms
held_at r s s' out out' ms y g = g y.start y.meant ms y.holds

shift : (a x : ℕ) → (a + x) % 256 ≡ (a % 256 + x) % 256
shift a x = omega arith

cell-kind : (w : Width) → kind_of hmat (kind_number (Cell w)) ≡ some (Cell w)
unfolding kind_of
cell-kind byte = refl
cell-kind pair = refl

module _ (w : Width) (xs r : List ℕ) (m : Meaning) (s : State) (out ms : List ℕ) (h : Held xs r hmat m s out ms) (l : s.at < length r) (e : get_or r s.at 0 ≡ kind_number (Cell w)) where
  is-cell : kind_of hmat (get_or r s.at 0) ≡ some (Cell w)
  is-cell = rw e (cell-kind w)

  pub cell-whole : s.at + 1 + body_width w ≤ length r
  cell-whole = omega (arith, whole xs r hmat m s out ms h (Cell w) l is-cell)

  -- where the matrix has its first cell, and the place of the cell
  abbrev first : ℕ
  first = s.latest.place + 32 + 4 * s.latest.initiators + 4 * s.latest.targets

  abbrev place : ℕ
  place = entry_at w r s.at first s.latest.targets

  abbrev vs : List ℕ
  vs = fields (body (Cell w)) (drop (suc s.at) r)

  says : (at vs 0 ≡ row_in w r s.at) × (at vs 1 ≡ column_in w r s.at) × (at vs 2 ≡ value_in w r s.at)
  says = let one : suc s.at ≡ s.at + 1 = omega arith in rw one (said w r s.at)

  from_is : (change_of (Cell w) s vs).from ≡ place
  unfolding change_of
  from_is =
      let e : (change_of (Cell w) s vs).from ≡ min place (2 ^ 64 - 1) = rw (says.0, says.1) in
      omega (arith, e, in_table xs r hmat m s out ms h (Cell w) l is-cell, h.ends, h.short)

  pub cell_in : place + 2 ≤ length out
  unfolding change_of
  cell_in = omega (arith, from_is, in_buffer xs r hmat m s out ms h (Cell w) l is-cell)

  -- it names no record
  none : Found
  none = record { processor = record { 0 = 0 }; cache = record { 0 = 0 } }

  wrote-is : wrote (Cell w) s none (change_of (Cell w) s vs).from vs out ≡ over out place (le 2 (value_in w r s.at))
  unfolding wrote
  wrote-is = rw (from_is, says.2)

  pub cell-goes : (out' : List ℕ) (u : ℕ) → out' ≡ over out place (le 2 (value_in w r s.at))
      → u ≡ (s.sum.value + check_of (sum (part out place 2)) + sum (le 2 (value_in w r s.at))) % 256
      → Held xs r hmat m (record { at = s.at + (1 + body_width w); end = s.end; latest = s.latest; sum = record { value = u } }) out' ms
  unfolding change_of
  cell-goes out' u eo eu =
      let cs = le 2 (value_in w r s.at) in
      let x = (s.sum.value + check_of (sum (part out place 2))) % 256 in
      let o = over out place cs in
      let n : part o place 2 ≡ cs = rw (length-le 2 (value_in w r s.at)) at (part-over out place cs (rw length-le cell_in)) in
      let z : u ≡ (x + sum (part o place 2) + sum (part o s.end 0) + check_of (sum (le 4 s.end)) + sum (le 4 (s.end + 0))) % 256 =
      eu ∙ shift (s.sum.value + check_of (sum (part out place 2))) (sum cs) ∙ rw n (sum-still x (sum cs) o s.end 0 refl) in
      goes xs r hmat m s out ms h (Cell w) l is-cell none tt out' (eo ∙ sym wrote-is) (record { at = s.at + (1 + body_width w); end = s.end; latest = s.latest; sum = record { value = u } }) x
      (omega arith) (sym (add-zero s.end)) refl (rw from_is) (rw (eo, from_is) z)
