-- The part that comes back: none of a refused call, of an unknown record its whole extent, and to a reader that knows fewer rows what is left of it.
use mathlib.Core.Path.{◌≡◌, refl, ◌∙◌}
use Prim.Native.Nat.{ℕ, zero, suc, min}
use mathlib.Core.List.{List, [], ◌∷◌}
use mathlib.Core.Bool.{Bool, true, false}
use mathlib.Core.Option.{Option, none, some}
use native.Mathlib.Omega.{arith}
use lib.ListN.{length, get_elem?, length-take}
use Rattle.format.specs.Bytes.{pick, part, Answer, refused, given, and_then, of_given}
use Rattle.format.specs.Row.{Row, knows, known}
use Rattle.format.specs.Read.{length_in, own, Seen, accept, Reading, part_of, chosen, reading_of, read, read_part}
use Rattle.laws.specs.Demand3.{More, limited, or_whole, widened}
use Rattle.laws.proofs.Bytes.{part-take}
use Rattle.laws.proofs.Finds.{All, at_map, then-given, or-given}
use Rattle.laws.proofs.Masks.{accept-less}
use Rattle.laws.proofs.Walks.{Part, accept-parts}

-- what all have, the one asked for has
pub all-at : {A : Type 0} (P : A → Type 0) (xs : List A) (n : ℕ) {x : A} → All P xs → get_elem? xs n ≡ some x → P x
all-at P [] n a e = absurd (let z : ◌≡◌ {A = ℕ} 0 1 = cc in omega arith)
all-at P (y ∷ ys) zero {x} a e = let z : y ≡ x = cc in rw z at a.0
all-at P (y ∷ ys) (suc n) a e = all-at P ys n a.1 e

-- the records of a table, and the one that an answer is on
pub record On (b : List ℕ) (mask n : ℕ) (a : Reading) : Type 0 where
  pub all : List Seen
  pub one : Seen
  pub accepted : accept b mask ≡ given all
  pub here : get_elem? all n ≡ some one
  pub answer : reading_of (length all) one ≡ a

pub read-on : (b : List ℕ) (mask n : ℕ) (a : Reading) → read b mask n ≡ given a → On b mask n a
unfolding read
read-on b mask n a e =
    let (ss, q, f) = then-given (accept b mask) (λ ss. and_then (chosen ss n) (λ s. given (reading_of (length ss) s))) e in
    let (s, o, g) = then-given (chosen ss n) (λ s. given (reading_of (length ss) s)) f in
    record { all = ss; one = s; accepted = q; here = or-given 28 (length ss) (get_elem? ss n) o; answer = cc }

-- a part of the table is that part of what is lent
pub part-lent : (b : List ℕ) (s : Seen) → Part (own b) s → s.body ≡ part b s.place (length s.body)
part-lent b s w =
    let l : length (own b) ≡ min (length_in b) (length b) = length-take (length_in b) b in
    w.is ∙ part-take b (length_in b) s.place (length s.body) (omega (arith, w.within))

pub seen-part : (b : List ℕ) (mask : ℕ) (ss : List Seen) (n : ℕ) (s : Seen) → accept b mask ≡ given ss → get_elem? ss n ≡ some s → s.body ≡ part b s.place (length s.body)
seen-part b mask ss n s e h = part-lent b s (all-at (Part (own b)) ss n (accept-parts b mask e) h)

-- ---- refused, and unknown

pub part-refused : (b : List ℕ) (mask n k p : ℕ) → read b mask n ≡ refused k p → read_part b mask n ≡ []
unfolding read read_part
part-refused b mask n k p e = by (accept b mask) e
  where
    one : (c : ℕ) (a : Answer Seen) → and_then a (λ s. given (reading_of c s)) ≡ refused k p → of_given (λ s. part_of s.row s.body) a ≡ []
    one c (refused i j) e = refl
    one c (given s) e = cc

    by : (a : Answer (List Seen)) → and_then a (λ ss. and_then (chosen ss n) (λ s. given (reading_of (length ss) s))) ≡ refused k p
        → of_given (λ s. part_of s.row s.body) (and_then a (λ ss. chosen ss n)) ≡ []
    by (refused i j) e = refl
    by (given ss) e = one (length ss) (chosen ss n) e

-- ---- fewer rows

part-known : (m : ℕ) (o : Option Row) (bs whole : List ℕ) → bs ≡ whole → part_of (known m o) bs ≡ or_whole (known m o) (part_of o bs) whole
unfolding part_of
part-known m none bs whole e = e
part-known m (some r) bs whole e = split (knows m r)
  where
    split : (x : Bool) → part_of (pick x (some r) none) bs ≡ or_whole (pick x (some r) none) (part_of (some r) bs) whole
    split true = refl
    split false = e

-- where the row stays known the same part comes back, else the whole record
pub part-less : (m₁ m₂ : ℕ) → More m₁ m₂ → (b : List ℕ) (n : ℕ) (a : Reading) → read b m₁ n ≡ given a → read_part b m₂ n ≡ widened b m₂ a (read_part b m₁ n)
unfolding read_part
part-less m₁ m₂ more b n a e =
    let c = read-on b m₁ n a e in
    let ss = c.all in
    let s = c.one in
    rw (← c.answer, accept-less m₁ m₂ more b ss c.accepted, c.accepted, at_map (limited m₂) ss n, c.here)
    (part-known m₂ s.row s.body (part b s.place (length s.body)) (seen-part b m₁ ss n s c.accepted c.here))
