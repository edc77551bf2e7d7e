-- The record that a reading call answers is the one at its place, and its part is the end of its bytes: by the laws of reading and of parts.
use mathlib.Core.Path.{◌≡◌, refl, sym, ap, ◌∙◌}
use Prim.Native.Nat.{ℕ, zero, suc, ◌+◌, ◌-◌, ◌≤◌}
use mathlib.Core.List.{List, [], ◌∷◌}
use mathlib.Core.Option.{Option, none, some}
use native.Mathlib.Omega.{arith}
use lib.ListN.{length, take, drop, get_elem?, length-drop}
use lib.Seq.{drop-drop, drop-length, take-nil}
use Rattle.format.specs.Bytes.{given, part, over}
use Rattle.format.specs.Form.{Form, processor, cache, memory, acpi, pci, rintc, old_rintc, domain, matrix, side, bridge, window, xor}
use Rattle.format.specs.Row.{Row, form_in}
use Rattle.format.specs.Read.{Seen, accept, Reading, reading, reading_of, list_in, part_of, read, read_part}
use Rattle.laws.proofs.Bytes.{over-next}
use Rattle.laws.proofs.Parts.{seen-part}
use Rattle.read.specs.declared.Shown.{Shown}
use Rattle.read.specs.Answers.{row_in, fields_in, shown_as}
use Rattle.read.specs.Places.{seen_at, part_at}
use Rattle.read.proofs.Once.{seen-place, among, there}
use Rattle.acpi.specs.Calls.{numbers, answered}

-- ---- six numbers, and fields behind them

pub record-laid : (out os ps vs : List ℕ) (type place len row at k r : ℕ) → r ≡ row → os ≡ over out 0 (type ∷ place ∷ len ∷ r ∷ at ∷ k ∷ []) → ps ≡ over os 6 vs
    → ps ≡ over out 0 (type ∷ place ∷ len ∷ row ∷ at ∷ k ∷ vs)
record-laid out os ps vs type place len row at k r q e f =
    rw (← q) (over-next out 0 (type ∷ place ∷ len ∷ r ∷ at ∷ k ∷ []) os 6 vs ps e f refl)

-- ---- the part is the end of the record

tail-drop : (k : ℕ) (bs : List ℕ) → drop k bs ≡ drop (length bs - length (drop k bs)) bs
tail-drop zero bs = let e : length bs - length bs ≡ 0 = omega arith in rw e
tail-drop (suc k) [] = refl
tail-drop (suc k) (b ∷ bs) =
    let e : suc (length bs) - length (drop k bs) ≡ suc (length bs - length (drop k bs)) = omega (arith, length-drop k bs) in
    rw e (tail-drop k bs)

drop_all : (bs : List ℕ) → [] ≡ drop (length bs - 0) bs
drop_all bs = let e : length bs - 0 ≡ length bs = omega arith in rw e (sym (drop-length bs))

list-tail : (f : Form) (bs : List ℕ) → list_in f bs ≡ drop (length bs - length (list_in f bs)) bs
unfolding list_in
list-tail (processor n) bs = tail-drop 20 bs
list-tail cache bs = drop_all bs
list-tail memory bs = drop_all bs
list-tail acpi bs = drop_all bs
list-tail pci bs = drop_all bs
list-tail rintc bs = drop_all bs
list-tail old_rintc bs = drop_all bs
list-tail domain bs = drop_all bs
list-tail (matrix i t) bs = tail-drop 32 bs
list-tail (side n) bs = tail-drop 32 bs
list-tail (bridge n) bs = drop_all bs
list-tail (window n) bs = tail-drop 36 bs
list-tail (xor n) bs = tail-drop 8 bs

part-tail : (o : Option Row) (bs : List ℕ) → part_of o bs ≡ drop (length bs - length (part_of o bs)) bs
unfolding part_of
part-tail none bs = let e : length bs - length bs ≡ 0 = omega arith in rw e
part-tail (some r) bs = list-tail (form_in r bs) bs

pub part_low : (o : Option Row) (bs : List ℕ) → length (part_of o bs) ≤ length bs
part_low o bs = omega (arith, ap length (part-tail o bs), length-drop (length bs - length (part_of o bs)) bs)

drop-take : (n k : ℕ) (xs : List ℕ) → drop n (take k xs) ≡ take (k - n) (drop n xs)
drop-take zero k xs = let e : k - 0 ≡ k = omega arith in rw e
drop-take (suc n) zero xs = let e : 0 - suc n ≡ 0 = omega arith in rw e
drop-take (suc n) (suc k) [] = rw take-nil
drop-take (suc n) (suc k) (x ∷ xs) = let e : suc k - suc n ≡ k - n = omega arith in rw e (drop-take n k xs)

end-part : (b : List ℕ) (p k m : ℕ) → m ≤ k → drop (k - m) (part b p k) ≡ part b (p + (k - m)) m
unfolding part
end-part b p k m l = let e : k - (k - m) ≡ m = omega arith in rw (drop-take, e, drop-drop)

-- ---- the record at its place

-- what is shown of the record at a place, and its part, give the numbers afterwards
pub at_place : (b : List ℕ) (mask p : ℕ) (s : Shown) (bs out os : List ℕ) → shown_as 0 s ≡ reading_of 0 (seen_at b mask p) → bs ≡ part_at b mask p → os ≡ over out 0 (numbers (shown_as 0 s) bs)
    → os ≡ over out 0 (numbers (reading_of 0 (seen_at b mask p)) (part_at b mask p))
at_place b mask p s bs out os e o w = w ∙ ap (λ (r : Reading). over out 0 (numbers r bs)) e ∙ rw o

same_at : (b : List ℕ) (mask p count : ℕ) (bs : List ℕ) (r : Reading) → reading_of count (seen_at b mask p) ≡ r → part_at b mask p ≡ bs → (place : ℕ) → (seen_at b mask p).place ≡ place
    → numbers (reading_of 0 (seen_at b mask place)) (part_at b mask place) ≡ numbers r bs
same_at b mask p count bs r q o place e = rw (← e, seen-place, ← q, ← o)

-- the numbers of the record at the place that is answered are those of the answer
pub same_numbers : (b : List ℕ) (mask n count type place len : ℕ) (row : Option Row) (vs : List ℕ) → given (reading count type place len row vs) ≡ read b mask n
    → numbers (reading_of 0 (seen_at b mask place)) (part_at b mask place) ≡ numbers (reading count type place len row vs) (read_part b mask n)
same_numbers b mask n count type place len row vs is =
    let (k, q, o) = there b mask n is in
    same_at b mask _ k _ _ q o place cc

-- so the record that is shown gives the numbers afterwards
pub read_at : (b : List ℕ) (mask n count : ℕ) (s : Shown) (out os : List ℕ) → given (shown_as count s) ≡ read b mask n → os ≡ over out 0 (numbers (reading_of 0 (seen_at b mask s.place)) (part_at b mask s.place))
    → os ≡ answered (read b mask n) (read_part b mask n) out
unfolding answered
read_at b mask n count s out os is e = rw (e, same_numbers b mask n count s.ty s.place s.length (row_in s.node) (fields_in s.node) is, ← is)

part-of : (b : List ℕ) (mask n : ℕ) (ss : List Seen) (s : Seen) → accept b mask ≡ given ss → get_elem? ss n ≡ some s → part_of s.row s.body ≡ read_part b mask n
unfolding read_part
part-of b mask n ss s a e = rw (a, e)

lies_at : (b : List ℕ) (s : Seen) (place len : ℕ) (bs : List ℕ) → s.body ≡ part b s.place (length s.body) → s.place ≡ place → length s.body ≡ len → part_of s.row s.body ≡ bs
    → part b (place + (len - length bs)) (length bs) ≡ bs
lies_at b s place len bs is x y o =
    let m = length (part_of s.row s.body) in
    rw (← o, ← x, ← y)
    (sym (part-tail s.row s.body ∙ ap (drop (length s.body - m)) is ∙ end-part b s.place (length s.body) m (part_low s.row s.body)))

-- a part is where the numbers say
pub part_lies : (b : List ℕ) (mask n count type place len : ℕ) (row : Option Row) (vs : List ℕ) → given (reading count type place len row vs) ≡ read b mask n
    → part b (place + (len - length (read_part b mask n))) (length (read_part b mask n)) ≡ read_part b mask n
part_lies b mask n count type place len row vs is =
    let (ss, s, a, e, q) = among b mask n is in
    let x : s.place ≡ place = cc in
    let y : length s.body ≡ len = cc in
    lies_at b s place len _ (seen-part b mask ss n s a e) x y (part-of b mask n ss s a e)
