-- What `sumtab` prints is all lines: they have 100 characters at most, and the program lends them 128.
use mathlib.Core.Path.{◌≡◌}
use Prim.Native.Nat.{ℕ, ◌%◌, ◌≤◌}
use mathlib.Core.List.{List, [], ◌++◌}
use mathlib.Core.Bool.{Bool, true, false}
use native.Mathlib.Omega.{arith}
use lib.Dec.{eqb}
use lib.ListN.{length, drop, take, length-append}
use Rattle.format.specs.Bytes.{pick, sum}
use Rattle.format.specs.Read.{length_in, right}
use Rattle.format.specs.Listing.{spaced, sum_words}
use Rattle.text.specs.Text.{text, laid}
use Rattle.text.proofs.Laws.{laid-whole}
use Rattle.text.proofs.Digits.{digits-most, digits-few}
use Rattle.sums.specs.Lines.{entire, verdict, behind_line, checked, lines_of}

-- ---- one line

verdict-short : (x : Bool) → length (verdict x) ≤ 15
verdict-short true = omega arith
verdict-short false = omega arith

behind-short : (bs : List ℕ) → length (behind_line bs) ≤ 44
unfolding behind_line
behind-short bs = by (eqb (length bs) 0)
  where
    by : (x : Bool) → length (pick x [] (text "bytes behind the table" ++ (spaced (length bs) ++ text "\n"))) ≤ 44
    by true = omega arith
    by false = simp length-append (omega (arith, digits-most 20 (length bs)))

checked-short : (b : List ℕ) → length (checked b) ≤ 59
unfolding checked
checked-short b = by (entire b)
  where
    by : (x : Bool) → length (pick x (verdict (right b) ++ behind_line (drop (length_in b) b)) (text "no whole table\n")) ≤ 59
    by true = simp length-append (omega (arith, verdict-short (right b), behind-short (drop (length_in b) b)))
    by false = omega arith

-- ---- all lines

lines-short : (b : List ℕ) → length (lines_of b) ≤ 100
unfolding lines_of sum_words
lines-short b = simp length-append (omega (arith, digits-most 22 (sum b), digits-few 20 2 (sum b % 256) (omega arith), checked-short b))

pub printed : (b out : List ℕ) {m : ℕ} {x : List ℕ} → 100 ≤ length out → ◌≡◌ {A = ℕ × List ℕ} (m, x) (laid out 0 (lines_of b)) → take m x ≡ lines_of b
printed b out l e = laid-whole out (lines_of b) e (omega (arith, lines-short b))
