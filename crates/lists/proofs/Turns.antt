-- The lines of a listing one after the other: an accepted table's records are those that one sees going from place to place, and each has a line.
use mathlib.Core.Path.{◌≡◌, refl, sym, ap, ◌∙◌}
use Prim.Native.Nat.{ℕ, zero, suc, ◌+◌, ◌-◌, ◌≤◌, ◌<◌}
use mathlib.Core.List.{List, [], ◌∷◌, ◌++◌}
use native.Mathlib.Omega.{arith}
use lib.ListN.{length}
use Rattle.format.specs.Bytes.{Answer, refused, given}
use Rattle.format.specs.Read.{Seen, accept, reading_of}
use Rattle.format.specs.Out.{every}
use Rattle.format.specs.Listing.{refused_words, first_line, record_line, record_lines, lines_of}
use Rattle.laws.proofs.Finds.{then-given}
use Rattle.read.specs.declared.Shown.{Shown}
use Rattle.read.specs.Answers.{row_in, shown_as}
use Rattle.read.specs.Places.{counted, seen_at, first_place, seen_from}
use Rattle.read.proofs.Listing.{shown-next, all-records}

-- the line of what is seen
abbrev pub line_of : Seen → List ℕ
line_of s = record_line s.place s.type (length s.body) s.row

module _ (b : List ℕ) where
  shown-line : (p : ℕ) (s : Shown) → shown_as 0 s ≡ reading_of 0 (seen_at b every p) → record_line s.place s.ty s.length (row_in s.node) ≡ line_of (seen_at b every p)
  shown-line p s e = cc

  -- a turn of the loop over records: the line of the one that is shown, and those of the others
  pub lines-turn : (left p : ℕ) (s : Shown) → 0 < left → shown_as 0 s ≡ reading_of 0 (seen_at b every p)
      → record_lines (seen_from b every left p) ≡ record_line s.place s.ty s.length (row_in s.node) ++ record_lines (seen_from b every (left - 1) (p + s.length))
  unfolding seen_from record_lines
  lines-turn zero p s l e = absurd (omega arith)
  lines-turn (suc k) p s l e =
      let n : suc k - 1 ≡ k = omega arith in
      rw (n, shown-next b every p s e, shown-line p s e)

  pub lines_end : (left p : ℕ) → left ≤ 0 → record_lines (seen_from b every left p) ≡ []
  unfolding seen_from record_lines
  lines_end zero p l = refl
  lines_end (suc k) p l = absurd (omega arith)

  -- the lines of an accepted table
  pub lines-given : (count : ℕ) → given count ≡ counted (accept b every) → first_line b count ++ record_lines (seen_from b every count (first_place b)) ≡ lines_of b (accept b every)
  unfolding lines_of
  lines-given count is =
      let (ss, a, h) = then-given (accept b every) (λ ss. given (length ss)) (sym is) in
      let m : length ss ≡ count = cc in
      rw (a, m) (ap (λ (us : List Seen). first_line b count ++ record_lines us) (sym (all-records b every a ∙ rw m)))

  -- the line of one that is refused
  pub lines-refused : (k p : ℕ) → refused k p ≡ counted (accept b every) → refused_words k p ++ (10 ∷ []) ≡ lines_of b (accept b every)
  unfolding lines_of
  lines-refused k p is = by (accept b every) is
    where
      by : (w : Answer (List Seen)) → refused k p ≡ counted w → refused_words k p ++ (10 ∷ []) ≡ lines_of b w
      by (given ss) e = cc
      by (refused n q) e = cc
