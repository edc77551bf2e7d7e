-- Demand 3's two readers: what the one that knows fewer rows answers is what the other answers, less the rows that it does not know, and which these are is known of each record.
use mathlib.Core.Path.{◌≡◌, refl, sym, ap, ◌∙◌}
use mathlib.Core.Logic.{◌↔◌, ◌⊎◌, inl, inr}
use Prim.Native.Nat.{ℕ, ◌≤◌}
use mathlib.Core.List.{List, [], ◌∷◌, map}
use mathlib.Core.Bool.{false}
use mathlib.Core.Option.{Option, none, some}
use lib.ListN.{length, get_elem?, take}
use Rattle.format.specs.Bytes.{at, part, refused, given}
use Rattle.format.specs.Table.{Table, sign}
use Rattle.format.specs.Row.{Row, home, knows, known}
use Rattle.format.specs.Node.{Entry}
use Rattle.format.specs.Read.{judge_head, Seen, entry_of, walked, accept, Reading, reading, fields_of, read, read_part}
use Rattle.laws.specs.Demand3.{More, RowMatches, AsUnknown, TwoReaders, limited, dimmed, Fits, Exact}
use Rattle.laws.proofs.Finds.{at_map, then-given}
use Rattle.laws.proofs.Masks.{known-row, accept-exact, accept-less, read-less, read_past}
use Rattle.laws.proofs.Parts.{all-at, On, read-on, seen-part, part-refused, part-less}
use Rattle.laws.proofs.Trips.{judged}
use Rattle.laws.proofs.Tables.{past_end}
use Rattle.laws.proofs.Judges.{sign-one}

-- a limited record has the same entry
same_entries : (m : ℕ) (ss : List Seen) → map entry_of (map (limited m) ss) ≡ map entry_of ss
same_entries m [] = refl
same_entries m (s ∷ ss) = ap (λ es. entry_of s ∷ es) (same_entries m ss)

-- to match on the signature is to be of the table that is spelt
row-matches : (b : List ℕ) (t : Table) (e : Entry) → take 4 b ≡ sign t → (r : Row) → RowMatches b e r ↔ Fits t (at b 8) e.type (part b e.offset e.length) r
row-matches b t e s r = (λ (i, m). (sign-one b (home r) t i s, m), λ (h, m). (rw h s, m))

module _ (m₁ m₂ : ℕ) (b : List ℕ) (more : More m₁ m₂) where
  -- ---- a record that the knowing one answers on

  module _ (n count : ℕ) (e : Entry) (row : Option Row) (fields : List ℕ) (q : read b m₁ n ≡ given (reading count e.type e.offset e.length row fields)) where
    abbrev answer : Reading
    answer = reading count e.type e.offset e.length row fields

    -- its row is lost exactly when no row that the other knows matches
    row-lost : (known m₂ row ≡ none) ↔ ((r : Row) → RowMatches b e r → knows m₂ r ≡ false)
    unfolding accept
    row-lost =
        let on : On b m₁ n answer = read-on b m₁ n answer q in
        let ss = on.all in
        let s = on.one in
        let us = map (limited m₂) ss in
        let (t, j, w) = then-given (judge_head b) (λ t. walked t b m₁) on.accepted in
        let here : get_elem? us n ≡ some (limited m₂ s) = at_map (limited m₂) ss n ∙ rw on.here in
        let exact = all-at (Exact t (at b 8) m₂) us n (accept-exact b m₂ t us (accept-less m₁ m₂ more b ss on.accepted) j) here in
        let body : s.body ≡ part b s.place (length s.body) = seen-part b m₁ ss n s on.accepted on.here in
        let f : (r : Row) → RowMatches b e r ↔ Fits t (at b 8) e.type (part b e.offset e.length) r = row-matches b t e (judged b t j).signed in
        let z : s.row ≡ row = cc in
        let y : s.type ≡ e.type = cc in
        let x : s.body ≡ part b e.offset e.length = cc in
        let u : (known m₂ row ≡ none) ↔ ((r : Row) → Fits t (at b 8) e.type (part b e.offset e.length) r → knows m₂ r ≡ false) = rw (z, y, x) at exact.unknown in
        (λ k r i. u.0 k r ((f r).0 i), λ h. u.1 (λ r i. h r ((f r).1 i)))

    less : read b m₂ n ≡ given (dimmed m₂ answer)
    less = read-less m₁ m₂ more b n answer q

    unknown : AsUnknown b m₂ n count e ↔ (known m₂ row ≡ none)
    unknown = (λ u. (let d = sym less ∙ u in cc), λ k. less ∙ rw k)

    whole : AsUnknown b m₂ n count e → read_part b m₂ n ≡ part b e.offset e.length
    whole u = part-less m₁ m₂ more b n answer q ∙ rw (unknown.0 u)

    shows : ((read b m₂ n ≡ read b m₁ n) × (read_part b m₂ n ≡ read_part b m₁ n)) ⊎ AsUnknown b m₂ n count e
    shows = by (known m₂ row) refl
      where
        by : (o : Option Row) → known m₂ row ≡ o → ((read b m₂ n ≡ read b m₁ n) × (read_part b m₂ n ≡ read_part b m₁ n)) ⊎ AsUnknown b m₂ n count e
        by none k = inr (unknown.1 k)
        by (some r) k = let i : row ≡ some r = (known-row m₂ row r k).0 in inl (less ∙ rw (k, q, i), part-less m₁ m₂ more b n answer q ∙ rw k)

  -- ---- a record that the table lacks

  lacks : (ss : List Seen) → accept b m₁ ≡ given ss → (n : ℕ) → length ss ≤ n
      → (read b m₁ n ≡ refused 28 (length ss)) × (read b m₂ n ≡ refused 28 (length ss)) × (read_part b m₁ n ≡ []) × (read_part b m₂ n ≡ [])
  unfolding read
  lacks ss a n l =
      let x : read b m₁ n ≡ refused 28 (length ss) = rw (a, past_end ss n l) in
      let y = read_past m₁ m₂ more b n (length ss) x in
      (x, y, part-refused b m₁ n 28 (length ss) x, part-refused b m₂ n 28 (length ss) y)

  pub two-readers : TwoReaders m₁ m₂ b
  unfolding read
  two-readers =
      record {
        accepts = λ ss a. (map (limited m₂) ss, accept-less m₁ m₂ more b ss a, same_entries m₂ ss);
        answers = λ ss a n s h. (s.row, fields_of s.row s.body, rw (a, h));
        shows = λ n count e (row, fields, q). shows n count e row fields q;
        unknown = λ n count e (row, fields, q).
            (let u = unknown n count e row fields q in let l = row-lost n count e row fields q in (λ x. l.0 (u.0 x), λ h. u.1 (l.1 h)));
        whole = λ n count e (row, fields, q). whole n count e row fields q;
        lacks = lacks;
      }
