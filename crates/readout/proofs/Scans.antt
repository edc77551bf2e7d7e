-- The walks that write and measure a table's records: what is still to come from a place on, by one record more, and where it ends.
use mathlib.Core.Path.{◌≡◌, refl, sym, ap, ◌∙◌}
use Prim.Native.Nat.{ℕ, ◌+◌, ◌≤◌, ◌<◌}
use mathlib.Core.List.{List}
use mathlib.Core.Bool.{Bool, true, false}
use mathlib.Core.Option.{Option, none, some}
use Rattle.std.specs.Prelude.{Some, None}
use Rattle.std.specs.Prelude as std
use native.Mathlib.Omega.{arith}
use lib.ListN.{length, length-append, drop}
use lib.Dec.{eqb, leb}
use borrow.Author.Tests.{eqb-true, leb-true}
use Rattle.format.specs.Bytes.{pick, value, part, refused, given, and_then, unless_found, over}
use Rattle.format.specs.Layout.{as_is}
use Rattle.format.specs.Table.{Table, front, limit, revision}
use Rattle.format.specs.Form.{Width, most}
use Rattle.format.specs.Row.{Row, processors, caches, matrices, home, row_type, column, matches, row_of, is_retired}
use Rattle.format.specs.Read.{type_in, framed}
use Rattle.laws.proofs.Found.{counted-row}
use Rattle.laws.proofs.Lays.{both_true}
use Rattle.laws.proofs.Masks.{row-then}
use Rattle.frames.specs.Frames.{ahead, record_in}
use Rattle.rows.specs.declared.Row as rows
use Rattle.rows.specs.Rows.{row_meant}
use Rattle.frames.proofs.Places.{framed_then, record_at, next, ahead-end, ahead-bad, ahead-next, room}
use Rattle.readout.specs.Laid.{Laid}
use Rattle.readout.specs.Places.{Small, ordinal_at, calls_as, is_row, calls_from, unless_unknown, first_old, or_else, calls_at, measured}
use Rattle.readout.proofs.Lists.{Coming, all-coming, all_laid, come}

-- a record of a row is small
pub small-record : (t : Table) (rev ty : ℕ) (bs : List ℕ) → length bs ≤ limit → Small (row_of t rev ty bs) bs
unfolding matches column
small-record t rev ty bs l =
    record {
      short = l;
      headed = λ e. leb-true 20 (length bs) (both_true (leb 20 (length bs)) _ (column-of processors e)).0;
      whole = λ e. eqb-true (length bs) 28 (column-of caches e);
      initiators = λ w e. (both_of w e).0;
      targets = λ w e. (both_of w e).1;
    }
  where
    column-of : (r : Row) → row_of t rev ty bs ≡ some r → column r bs ≡ true
    column-of r e = (both_true (eqb ty (row_type r)) (column r bs) (both_true (eqb rev (revision (home r))) _ (row-then rev ty bs t r e)).1).1

    both_of : (w : Width) → row_of t rev ty bs ≡ some (matrices w) → (value (part bs 12 4) ≤ most) × (value (part bs 16 4) ≤ most)
    both_of w e = (counted-row w (value (part bs 12 4)) (value (part bs 16 4)) (both_true (leb 32 (length bs)) _ (column-of (matrices w) e)).1).1

-- a row that is not there is unknown
pub no-row : (o : std.Option rows.Row) → ((r : rows.Row) → o ≡ Some r → ⊥) → is_row (row_meant o) ≡ false
no-row None h = refl
no-row (Some r) h = absurd (h r refl)

-- what a turn learns that finds the record bs at p, of this row; s is what stands there
pub record Turn (t : Table) (rev : ℕ) (c : List ℕ) (p : ℕ) (bs : List ℕ) (o : Option Row) : Type 0 where
  pub frame : framed t (drop p c) ≡ true
  pub body : bs ≡ record_at t c p
  pub row : o ≡ row_of t rev (type_in t (record_at t c p)) (record_at t c p)
  pub some : 2 ≤ length bs
  pub inside : p + length bs ≤ length c

pub turns : (t : Table) (rev : ℕ) (c : List ℕ) (p : ℕ) (s bs : List ℕ) (x : Bool) (row : Option Row)
    → s ≡ drop p c → x ≡ framed t s → x ≡ true → bs ≡ record_in t s → row ≡ row_of t rev (type_in t bs) bs → Turn t rev c p bs row
turns t rev c p s bs x row e f y b r =
    let g : framed t (drop p c) ≡ true = cc in
    let d : bs ≡ record_at t c p = rw e at b in
    let F = framed_then t (drop p c) g in
    let n : length bs ≡ length (record_at t c p) = ap length d in
    record { frame = g; body = d; row = rw d at r; some = omega (arith, F.some, F.long); inside = omega (arith, (room t c p g).1) }

-- ---- the walk that writes

module _ (t : Table) (rev : ℕ) (c a : List ℕ) where
  -- from place p on, of the buffer b, the calls are still to come, at place q
  abbrev pub Writing : List ℕ → ℕ → ℕ → Type 0
  Writing b p q = Coming a 28 (calls_at t rev c) b q (calls_from t rev (ordinal_at t c) (ahead t c p))

  pub writing_start : Writing a (front t) 28
  unfolding calls_at
  writing_start = all-coming _ _ _

  module _ {b : List ℕ} {p q : ℕ} where
    pub writing-end : length c ≤ p → Writing b p q → b ≡ over a 28 (calls_at t rev c)
    unfolding calls_from
    writing-end l w = (all_laid (rw (ahead-end t c p l) at w)).bytes

    pub writing-bad : p < length c → framed t (drop p c) ≡ false → Writing b p q → b ≡ over a 28 (calls_at t rev c)
    unfolding calls_from
    writing-bad l f w = (all_laid (rw (ahead-bad t c p l f) at w)).bytes

    module _ {bs : List ℕ} {o : Option Row} (T : Turn t rev c p bs o) where
      pub writing-unknown : is_row o ≡ false → Writing b p q → b ≡ over a 28 (calls_at t rev c)
      unfolding calls_from
      writing-unknown u w = (all_laid (rw (ahead-next t c p T.frame, rw T.row at u) at w)).bytes

      pub writing-next : {b' : List ℕ} {q' : ℕ} → is_row o ≡ true → Laid b b' q (calls_as (ordinal_at t c p) o bs) q' → Writing b p q → Writing b' (p + length bs) q'
      unfolding calls_from
      writing-next u l w = rw T.body (come (rw (T.row, T.body) at l) (rw (ahead-next t c p T.frame, rw T.row at u) at w))

-- ---- the walk that measures

or-none : (o : Option ℕ) → or_else o none ≡ o
or-none none = refl
or-none (some p) = refl

-- one record more, at p: x says whether its row is retired
or-next : (o : Option ℕ) (p : ℕ) (x : Bool) (more : Option ℕ) → or_else o (pick x (some p) more) ≡ or_else (or_else o (pick x (some p) none)) more
or-next none p true more = refl
or-next none p false more = refl
or-next (some q) p x more = refl

module _ (t : Table) (rev : ℕ) (c : List ℕ) where
  -- from place p on the calls are still to be counted, behind q bytes; o: the place of the first record of a retired row so far
  pub record Counting (p q : ℕ) (o : Option ℕ) : Type 0 where
    pub coming : q + length (calls_from t rev (ordinal_at t c) (ahead t c p)) ≡ 28 + length (calls_at t rev c)
    pub told : measured t rev c ≡ and_then (unless_unknown t rev (28 + length (calls_at t rev c)) (ahead t c p)) (λ n. unless_found 32 as_is (or_else o (first_old t rev (ahead t c p))) (given n))

  pub counting-start : Counting (front t) 28 none
  unfolding calls_at measured
  counting-start = record { coming = refl; told = refl }

  module _ {p q : ℕ} {o : Option ℕ} where
    pub counting-end : length c ≤ p → Counting p q o → unless_found 32 as_is o (given q) ≡ measured t rev c
    unfolding calls_from unless_unknown first_old
    counting-end l w =
        let e : q + 0 ≡ 28 + length (calls_at t rev c) = rw (ahead-end t c p l) at w.coming in
        let z : q ≡ 28 + length (calls_at t rev c) = omega (arith, e) in
        ap (λ (n : ℕ). unless_found 32 as_is o (given n)) z ∙ sym (rw (ahead-end t c p l, or-none) at w.told)

    pub counting-bad : p < length c → framed t (drop p c) ≡ false → Counting p q o → unless_found 32 as_is o (given q) ≡ measured t rev c
    unfolding calls_from unless_unknown first_old
    counting-bad l f w =
        let e : q + 0 ≡ 28 + length (calls_at t rev c) = rw (ahead-bad t c p l f) at w.coming in
        let z : q ≡ 28 + length (calls_at t rev c) = omega (arith, e) in
        ap (λ (n : ℕ). unless_found 32 as_is o (given n)) z ∙ sym (rw (ahead-bad t c p l f, or-none) at w.told)

    module _ {bs : List ℕ} {row : Option Row} (T : Turn t rev c p bs row) where
      pub counting-unknown : is_row row ≡ false → Counting p q o → refused 29 p ≡ measured t rev c
      unfolding unless_unknown
      counting-unknown u w = sym (rw (ahead-next t c p T.frame, rw T.row at u) at w.told)

      pub counting-next : (n : ℕ) (o' : Option ℕ) → is_row row ≡ true → n ≡ length (calls_as (ordinal_at t c p) row bs) → o' ≡ or_else o (pick (is_retired row) (some p) none) → Counting p q o
          → Counting (p + length bs) (q + n) o'
      unfolding calls_from unless_unknown first_old
      counting-next n o' u l i w =
          let f = ahead-next t c p T.frame in
          let k = rw T.row at u in
          let e = rw (f, k, length-append) at w.coming in
          let m = rw (T.row, T.body) at l in
          rw (T.body, i, T.row) (record { coming = omega (arith, e, m); told = rw (f, k, or-next o p (is_retired (row_of t rev (type_in t (record_at t c p)) (record_at t c p))) (first_old t rev (ahead t c (next t c p)))) at w.told })
