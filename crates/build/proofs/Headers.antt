-- The front of a table: the header of a head's fields and what follows it, and the length and the checksum written last.
use mathlib.Core.Path.{◌≡◌, refl, sym, ap, ◌∙◌}
use Prim.Native.Nat.{ℕ, zero, suc, ◌+◌, ◌≤◌}
use mathlib.Core.List.{List, [], ◌∷◌, ◌++◌}
use native.Mathlib.Omega.{arith}
use native.Mathlib.Nat.{zero-add}
use lib.ListN.{length, take, drop, replicate, length-drop}
use lib.Seq.{drop-drop}
use Rattle.format.specs.Bytes.{Bytes, le, value, part, over}
use Rattle.format.specs.Layout.{lay}
use Rattle.format.specs.Table.{Table, pptt, srat, hmat, cedt, sign, tail, told, front, head_of}
use Rattle.format.specs.Build.{header}
use Rattle.laws.proofs.Bytes.{length-le, le-value, bytes-part, part-add, length_part, length_over, over_none, over-next}
use Rattle.laws.proofs.Over.{over-within}
use Rattle.header.specs.declared.Table as named
use Rattle.header.specs.declared.TableHeader.{TableHeader}
use Rattle.header.specs.Header.{meant, identity, header_bytes, padded, head_from}
use Rattle.header.proofs.Laws.{length-header, header_made}
use Rattle.build.specs.Held.{front_of}

length-sign : (t : Table) → length (sign t) ≡ 4
length-sign pptt = refl
length-sign srat = refl
length-sign hmat = refl
length-sign cedt = refl

-- the first n bytes of enough
padded-whole : (n : ℕ) (xs : List ℕ) → n ≤ length xs → padded n xs ≡ take n xs
unfolding over
padded-whole zero xs h = refl
padded-whole (suc n) [] h = absurd (omega arith)
padded-whole (suc n) (x ∷ xs) h = rw (padded-whole n xs (omega arith))

padded-part : (r : List ℕ) (p n : ℕ) → suc p + n ≤ length r → padded n (drop p (drop 1 r)) ≡ part r (1 + p) n
unfolding part
padded-part r p n h = rw (drop-drop p 1 r) (padded-whole n (drop (1 + p) r) (omega (arith, length-drop (1 + p) r)))

number-part : (r : List ℕ) (p n : ℕ) → suc p + n ≤ length r → Bytes r → le n (value (part (drop 1 r) p n)) ≡ part r (1 + p) n
unfolding part
number-part r p n h b =
    let l : length (part r (1 + p) n) ≡ n = length_part r (1 + p) n (omega arith) in
    rw (drop-drop p 1 r) (rw l at (le-value (part r (1 + p) n) (bytes-part r (1 + p) n b)))

-- five fields are the 26 bytes
identity-is : (u : named.Table) (r : List ℕ) → 28 ≤ length r → Bytes r → identity (head_from u (drop 1 r)) ≡ part r 2 26
unfolding identity
identity-is u r h b =
    rw (padded-part r 1 6 (omega arith), padded-part r 7 8 (omega arith), number-part r 15 4 (omega arith) b, padded-part r 19 4 (omega arith), padded-part r 23 4 (omega arith))
    (sym (part-add r 2 6 20 ∙ ap (λ (l : List ℕ). part r 2 6 ++ l)
    (part-add r 8 8 12 ∙ ap (λ (l : List ℕ). part r 8 8 ++ l)
    (part-add r 16 4 8 ∙ ap (λ (l : List ℕ). part r 16 4 ++ l) (part-add r 20 4 4)))))

pub front-laid : (u : named.Table) (h : TableHeader) (r ds bs a b : List ℕ) → 28 ≤ length r → Bytes r → ds ≡ drop 1 r → h ≡ head_from u ds → a ≡ over bs 0 (header_bytes h)
    → b ≡ over a 36 (lay (tail (meant u)) (told (meant u) 0)) → b ≡ over bs 0 (front_of (meant u) r (front (meant u)))
front-laid u h r ds bs a b l k ed eh ea eb =
    let f = head_from u (drop 1 r) in
    let made : header (head_of (meant u) (identity f)) 0 (front (meant u)) 0 ≡ header_bytes f ++ lay (tail (meant u)) (told (meant u) 0) =
    header_made u (front (meant u)) f.oem_id f.oem_table_id f.oem_revision f.creator_id f.creator_revision 0 0 in
    let n : length (header_bytes f) ≡ 36 =
    length-header f
    (record {
      signature = length-sign (meant u);
      oem-id = length_over (replicate 6 0) 0 (drop 1 (drop 1 r));
      oem-table-id = length_over (replicate 8 0) 0 (drop 7 (drop 1 r));
      creator-id = length_over (replicate 4 0) 0 (drop 19 (drop 1 r));
      creator-revision = length_over (replicate 4 0) 0 (drop 23 (drop 1 r));
    }) in
    let e : a ≡ over bs 0 (header_bytes f) = rw (eh, ed) at ea in
    over-next bs 0 (header_bytes f) a 36 _ b e eb (omega arith) ∙ rw (← made, identity-is u r l k)

-- no table tells the number of its records
pub header-any : (t : Table) (is : List ℕ) (n m len c : ℕ) → header (head_of t is) n len c ≡ header (head_of t is) m len c
unfolding header
header-any pptt is n m len c = refl
header-any srat is n m len c = refl
header-any hmat is n m len c = refl
header-any cedt is n m len c = refl

-- another length, and another checksum
header-length : (t : Table) (is rs : List ℕ) (n a b c : ℕ) → over (header (head_of t is) n a c ++ rs) 4 (le 4 b) ≡ header (head_of t is) n b c ++ rs
unfolding header over le
header-length pptt is rs n a b c = refl
header-length srat is rs n a b c = refl
header-length hmat is rs n a b c = refl
header-length cedt is rs n a b c = refl

header-check : (t : Table) (is rs : List ℕ) (n a c d : ℕ) → over (header (head_of t is) n a c ++ rs) 9 (d ∷ []) ≡ header (head_of t is) n a d ++ rs
unfolding header over le
header-check pptt is rs n a c d = rw (over_none ((is ++ lay (tail pptt) (told pptt n)) ++ rs) 0 [] (omega arith))
header-check srat is rs n a c d = rw (over_none ((is ++ lay (tail srat) (told srat n)) ++ rs) 0 [] (omega arith))
header-check hmat is rs n a c d = rw (over_none ((is ++ lay (tail hmat) (told hmat n)) ++ rs) 0 [] (omega arith))
header-check cedt is rs n a c d = rw (over_none ((is ++ lay (tail cedt) (told cedt n)) ++ rs) 0 [] (omega arith))

pub finished : (t : Table) (is rs xs : List ℕ) (a b d : ℕ) → 10 ≤ length (header (head_of t is) 0 a 0 ++ rs) → 10 ≤ length (header (head_of t is) 0 b 0 ++ rs)
    → over (over (over xs 0 (header (head_of t is) 0 a 0 ++ rs)) 4 (le 4 b)) 9 (d ∷ []) ≡ over xs 0 (header (head_of t is) 0 b d ++ rs)
finished t is rs xs a b d h k =
    let z = header (head_of t is) 0 a 0 ++ rs in
    let y = header (head_of t is) 0 b 0 ++ rs in
    let e : over (over xs 0 z) 4 (le 4 b) ≡ over xs 0 y = rw zero-add at (over-within xs z (le 4 b) 0 4 (rw length-le (omega arith))) ∙ rw (header-length t is rs 0 a b 0) in
    rw e (rw zero-add at (over-within xs y (d ∷ []) 0 9 (omega arith)) ∙ rw (header-check t is rs 0 b 0 d))
