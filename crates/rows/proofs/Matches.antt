-- A row matches on revision, type and Length column: one that has its type alone by its column, of two with one type that whose column says so.
use mathlib.Core.Path.{◌≡◌, refl, sym, ◌∙◌}
use Prim.Native.Nat.{ℕ}
use mathlib.Core.List.{List}
use mathlib.Core.Bool.{Bool, true, false}
use mathlib.Core.Option.{none, some}
use Rattle.std.specs.Bool.{then_some}
use borrow.Author.Tests.{ne_eqb}
use Rattle.format.specs.Bytes.{pick, value, part}
use Rattle.format.specs.Table.{Table, pptt, srat, hmat, cedt, revision, frame}
use Rattle.format.specs.Form.{byte, pair}
use Rattle.format.specs.Row.{processors, caches, memories, initiators, old_rintcs, domains, matrices, sides, bridges, windows, xors, rintcs, home, row_type, column, matches, row_of, known}
use Rattle.format.specs.Row as format
use Rattle.format.specs.Read.{type_in}
use Rattle.rows.specs.declared.Row.{Row}
use Rattle.rows.specs.Rows.{meant_row, row_meant}

pub other-revision : (t : Table) {rev : ℕ} (bs : List ℕ) → (rev ≡ revision t → ⊥) → none ≡ row_of t rev (type_in t bs) bs
unfolding row_of matches
other-revision pptt {rev} bs h = rw (ne_eqb rev 3 h)
other-revision srat {rev} bs h = rw (ne_eqb rev 3 h)
other-revision hmat {rev} bs h = rw (ne_eqb rev 1 h)
other-revision cedt {rev} bs h = rw (ne_eqb rev 1 h)

-- a row of the code, if a test says so
pub when : (b : Bool) (r : Row) → row_meant (then_some b r) ≡ pick b (some (meant_row r)) none
when true r = refl
when false r = refl

-- no other row of its table has its type
abbrev Alone : format.Row → Type 0
Alone processors = Unit
Alone caches = Unit
Alone memories = Unit
Alone initiators = Unit
Alone old_rintcs = ⊥
Alone domains = Unit
Alone (matrices w) = ⊥
Alone sides = Unit
Alone bridges = Unit
Alone windows = Unit
Alone xors = Unit
Alone rintcs = ⊥

by-type : (r : format.Row) (bs : List ℕ) → Alone r → row_of (home r) (revision (home r)) (row_type r) bs ≡ pick (column r bs) (some r) none
unfolding row_of matches
by-type processors bs a = refl
by-type caches bs a = refl
by-type memories bs a = refl
by-type initiators bs a = refl
by-type old_rintcs bs a = absurd a
by-type domains bs a = refl
by-type (matrices w) bs a = absurd a
by-type sides bs a = refl
by-type bridges bs a = refl
by-type windows bs a = refl
by-type xors bs a = refl
by-type rintcs bs a = absurd a

-- a record with a row's type, x, is of that row if its Length column says so
pub by-column : (r : Row) {x : ℕ} {b : Bool} (bs : List ℕ) → Alone (meant_row r) → x ≡ value (part bs 0 (frame (home (meant_row r))).type) → x ≡ row_type (meant_row r) → b ≡ column (meant_row r) bs
    → row_meant (then_some b r) ≡ row_of (home (meant_row r)) (revision (home (meant_row r))) (type_in (home (meant_row r)) bs) bs
unfolding part
by-column r {x} {b} bs a f g h =
    let t : type_in (home (meant_row r)) bs ≡ row_type (meant_row r) = sym f ∙ g in
    when b r ∙ sym (rw (t, by-type (meant_row r) bs a, ← h))

-- of the two RINTCs it is the first, or the second
pub by-columns : {x : ℕ} (bs : List ℕ) → x ≡ value (part bs 0 1) → x ≡ 7
    → pick (column old_rintcs bs) (some old_rintcs) (pick (column rintcs bs) (some rintcs) none) ≡ row_of srat 3 (type_in srat bs) bs
unfolding row_of matches part
by-columns bs f g = let t : type_in srat bs ≡ 7 = sym f ∙ g in sym (rw t)

-- of the two matrices likewise
pub by-counts : {x : ℕ} (bs : List ℕ) → x ≡ value (part bs 0 2) → x ≡ 1
    → pick (column (matrices byte) bs) (some (matrices byte)) (pick (column (matrices pair) bs) (some (matrices pair)) none) ≡ row_of hmat 1 (type_in hmat bs) bs
unfolding row_of matches part
by-counts bs f g = let t : type_in hmat bs ≡ 1 = sym f ∙ g in sym (rw t)
