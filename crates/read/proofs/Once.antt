-- A record that a reading call answered, and its part by its place: the table is judged once. What is answered is among the records that are seen one after the other.
use mathlib.Core.Path.{◌≡◌, refl, sym, ◌∙◌}
use Prim.Native.Nat.{ℕ, ◌≤◌, ◌<◌}
use mathlib.Core.List.{List}
use mathlib.Core.Option.{Option, none, some}
use mathlib.Core.Logic.{⊎_elim}
use native.Mathlib.Omega.{arith}
use lib.ListN.{length, get_elem?}
use Rattle.format.specs.Bytes.{given, at}
use Rattle.format.specs.Table.{Table}
use Rattle.format.specs.Row.{Row}
use Rattle.format.specs.Read.{signed, Seen, accept, Reading, reading, reading_of, chosen, read, read_part}
use Rattle.laws.proofs.Finds.{then-given, or-given}
use Rattle.frames.proofs.Places.{lt-or-le}
use Rattle.read.specs.Places.{counted, body_in, seen_in, seen_at, part_at, first_place, behind}
use Rattle.read.proofs.Listing.{read_found, read-lacks, part-found}

pub seen-place : (b : List ℕ) (mask p : ℕ) → (seen_at b mask p).place ≡ p
unfolding seen_at
seen-place b mask p = by (signed b)
  where
    by : (o : Option Table) → (seen_in o (at b 8) mask p (body_in o b p)).place ≡ p
    by none = refl
    by (some t) = refl

module _ (b : List ℕ) (mask n : ℕ) {r : Reading} (is : given r ≡ read b mask n) where
  -- what is answered is among the records of the table
  pub among : (ss : List Seen) × (s : Seen) × (accept b mask ≡ given ss) × (get_elem? ss n ≡ some s) × (reading_of (length ss) s ≡ r)
  unfolding read
  among =
      let (ss, a, h) = then-given (accept b mask) _ (sym is) in
      let (s, c, g) = then-given (chosen ss n) (λ s. given (reading_of (length ss) s)) h in
      (ss, s, a, or-given 28 (length ss) (get_elem? ss n) c, cc)

  -- and is the one that is seen at its place
  pub there : (count : ℕ) × (reading_of count (seen_at b mask (behind b n (first_place b))) ≡ r) × (part_at b mask (behind b n (first_place b)) ≡ read_part b mask n)
  there =
      let (ss, s, a, e, q) = among in
      let c : given (length ss) ≡ counted (accept b mask) = rw a in
      ⊎_elim
      (λ (l : n < length ss). let f = read_found b mask (length ss) n c l in let g : reading_of (length ss) (seen_at b mask (behind b n (first_place b))) ≡ r = cc in (length ss, g, part-found b mask (length ss) n c l))
      (λ (l : length ss ≤ n). let f = read-lacks b mask (length ss) n c l in let z : ◌≡◌ {A = ℕ} 0 1 = cc in absurd (omega arith))
      (lt-or-le n (length ss))

-- after `read`, `part_at` at the place that was answered hands back what `part` would
pub part-there : (b : List ℕ) (mask n count type place len : ℕ) (row : Option Row) (vs : List ℕ) → given (reading count type place len row vs) ≡ read b mask n → part_at b mask place ≡ read_part b mask n
part-there b mask n count type place len row vs is =
    let (k, q, o) = there b mask n is in
    let e : (seen_at b mask (behind b n (first_place b))).place ≡ place = cc in
    let f : behind b n (first_place b) ≡ place = sym (seen-place b mask (behind b n (first_place b))) ∙ e in
    rw (← f) o
