-- A walk by length bytes finds the place of a record: by induction over the nodes, the newest first.
use mathlib.Core.Path.{◌≡◌, refl, sym, ap, ◌∙◌}
use Prim.Native.Nat.{ℕ, zero, suc, ◌+◌, ◌-◌, ◌%◌, ◌≤◌, ◌<◌}
use mathlib.Core.List.{List, [], ◌∷◌, ◌++◌, append_assoc}
use mathlib.Core.Bool.{Bool, true, false}
use native.Mathlib.Omega.{arith}
use native.Mathlib.Nat.{add-zero, mod-eq_of_lt}
use native.Mathlib.Numerals.{add-one}
use lib.ListN.{length, drop, length-append}
use lib.Seq.{get_or-append-add}
use lib.Dec.{eqb, leb}
use borrow.Author.Tests.{eqb-true, eqb-false, ne_eqb, leb-true, leb-false}
use Rattle.format.specs.Bytes.{pick, at, le, over}
use Rattle.format.specs.Layout.{lay_with}
use Rattle.format.specs.Table.{Table, pptt, front, limit}
use Rattle.format.specs.Form.{Form, processor, cache, memory, acpi, pci, rintc, old_rintc, domain, matrix, side, bridge, window, xor, size, layout}
use Rattle.format.specs.Node.{Node, bytes, sizes, starts, place_of}
use Rattle.format.specs.Build.{records}
use Rattle.laws.proofs.Bytes.{over-fits}
use Rattle.laws.proofs.Shapes.{Within, table_for}
use Rattle.laws.proofs.Heads.{length-records}
use Rattle.laws.proofs.Links.{place-zero, place-below, length-starts, starts-rise}
use Rattle.laws.proofs.Good.{Good}
use Rattle.marks.specs.declared.Mark.{Mark}
use Rattle.build.specs.Write.{hops, place_in}
use Rattle.build.specs.Held.{place_after, Marked, Leads, Reaches}

-- ---- the walk's loop

hops-last : (bs : List ℕ) (k p : ℕ) → hops bs (suc k) p ≡ hops bs k p + at bs (hops bs k p + 1)
unfolding hops
hops-last bs zero p = refl
hops-last bs (suc k) p = hops-last bs k (p + at bs (p + 1))

pub walk_turn : (bs : List ℕ) (k p q n : ℕ) → hops bs k p ≡ q → n ≡ at bs (q + 1) → hops bs (k + 1) p ≡ q + n
walk_turn bs k p q n e f = rw (add-one k, hops-last bs k p, e, f)

pub hops-first : (bs : List ℕ) → hops bs 0 36 ≡ 36
unfolding hops
hops-first bs = refl

pub place_none : (bs : List ℕ) (k : ℕ) → k ≡ 0 → 0 ≡ place_in bs k
unfolding place_in
place_none bs k e = rw e

pub place-some : (bs : List ℕ) (k : ℕ) → (k ≡ 0 → ⊥) → hops bs (k - 1) 36 % 4294967296 ≡ place_in bs k
unfolding place_in
place-some bs k z = rw (ne_eqb k 0 z)

-- ---- among records

length-byte : (g : ℕ → ℕ) (f : Form) (vs rest : List ℕ) → table_for f ≡ pptt → Within f vs → at (lay_with g (layout f) vs ++ rest) 1 ≡ size f
unfolding lay_with layout le
length-byte g (processor n) vs rest o w = omega arith
length-byte g cache vs rest o w = refl
length-byte g memory vs rest o w = cc
length-byte g acpi vs rest o w = cc
length-byte g pci vs rest o w = cc
length-byte g rintc vs rest o w = cc
length-byte g old_rintc vs rest o w = absurd w
length-byte g domain vs rest o w = cc
length-byte g (matrix i t) vs rest o w = cc
length-byte g (side n) vs rest o w = cc
length-byte g (bridge n) vs rest o w = cc
length-byte g (window n) vs rest o w = cc
length-byte g (xor n) vs rest o w = cc

-- the byte behind a place among the records
behind : (xs rs bs : List ℕ) (p : ℕ) → p ≡ length xs + length rs → at (xs ++ (rs ++ bs)) (p + 1) ≡ at bs 1
behind xs rs bs p e =
    let d : p + 1 ≡ length xs + (length rs + 1) = omega arith in
    rw (d, get_or-append-add xs (rs ++ bs) (length rs + 1) 0, get_or-append-add rs bs 1 0)

regroup : (xs zs : List ℕ) (n : Node) (ns : List Node) → xs ++ (records pptt (n ∷ ns) ++ zs) ≡ xs ++ (records pptt ns ++ (bytes (place_of (starts pptt ns)) n ++ zs))
unfolding records
regroup xs zs n ns = ap (λ (ys : List ℕ). xs ++ ys) (append_assoc (records pptt ns) (bytes (place_of (starts pptt ns)) n) zs)

hops-none : (bs : List ℕ) (p : ℕ) → hops bs 0 p ≡ p + 0
unfolding hops
hops-none bs p = sym (add-zero p)

own-length : (g : ℕ → ℕ) (n : Node) (zs : List ℕ) → table_for n.form ≡ pptt → Within n.form n.values → at (bytes g n ++ zs) 1 ≡ size n.form
unfolding bytes
own-length g n zs o w = length-byte g n.form n.values zs o w

-- as many hops as there are nodes lead to the end. xs: the front; zs: whatever follows
hops-end : (xs zs : List ℕ) (ns : List Node) → Good pptt ns → hops (xs ++ (records pptt ns ++ zs)) (length ns) (length xs) ≡ length xs + sizes ns
unfolding sizes
hops-end xs zs [] s = hops-none (xs ++ (records pptt [] ++ zs)) (length xs)
hops-end xs zs (n ∷ ns) s =
    let g = place_of (starts pptt ns) in
    let b = bytes g n ++ zs in
    let out = xs ++ (records pptt ns ++ b) in
    let h : hops out (length ns) (length xs) ≡ length xs + sizes ns = hops-end xs b ns s.1 in
    let y : at out (length xs + sizes ns + 1) ≡ size n.form =
    behind xs (records pptt ns) b (length xs + sizes ns) (rw (length-records pptt ns)) ∙ own-length g n zs s.0.own s.0.within in
    rw (regroup xs zs n ns, hops-last out (length ns) (length xs), h, y) (omega arith)

at_place : (xs zs : List ℕ) (n : Node) (ns : List Node) (k : ℕ) (x : Bool) → length xs ≡ 36 → Good pptt ns → eqb (suc (length ns)) (suc k) ≡ x → k < suc (length ns)
    → (k < length ns → (ys : List ℕ) → hops (xs ++ (records pptt ns ++ ys)) k (length xs) ≡ place_of (starts pptt ns) (suc k))
    → hops (xs ++ (records pptt (n ∷ ns) ++ zs)) k (length xs) ≡ pick x (36 + sizes ns) (place_of (starts pptt ns) (suc k))
at_place xs zs n ns k true l s q h ih =
    let e : suc (length ns) ≡ suc k = eqb-true (suc (length ns)) (suc k) q in
    let d : k ≡ length ns = omega arith in
    rw (regroup xs zs n ns, d, hops-end xs (bytes (place_of (starts pptt ns)) n ++ zs) ns s, l)
at_place xs zs n ns k false l s q h ih =
    let d : k < length ns = (let f : suc (length ns) ≡ suc k → ⊥ = eqb-false (suc (length ns)) (suc k) q in omega (arith, f)) in
    rw (regroup xs zs n ns) (ih d (bytes (place_of (starts pptt ns)) n ++ zs))

-- k hops from the front lead to node k + 1
place_found : (xs zs : List ℕ) (ns : List Node) (k : ℕ) → length xs ≡ 36 → Good pptt ns → k < length ns
    → hops (xs ++ (records pptt ns ++ zs)) k (length xs) ≡ place_of (starts pptt ns) (suc k)
unfolding starts place_of
place_found xs zs [] k l s h = absurd (omega arith)
place_found xs zs (n ∷ ns) k l s h =
    rw (length-starts pptt ns) (at_place xs zs n ns k (eqb (suc (length ns)) (suc k)) l s.1 refl h (λ j ys. place_found xs ys ns k l s.1 j))

module _ (xs fs ys : List ℕ) (ns : List Node) (l : length fs ≡ 36) (room : length (fs ++ (records pptt ns ++ ys)) ≤ length xs) (g : Good pptt ns) (short : 36 + sizes ns ≤ limit) where
  -- in a buffer with these nodes, and whatever follows, an ordinal leads to the node's place
  pub place-among : (k : ℕ) → k ≤ length ns → place_in (over xs 0 (fs ++ (records pptt ns ++ ys))) k ≡ place_of (starts pptt ns) k
  unfolding place_in
  place-among zero j = sym (place-zero (starts pptt ns))
  place-among (suc k) j =
      let z = fs ++ (records pptt ns ++ ys) in
      let rest = drop (0 + length z) xs in
      let f = place_found fs (ys ++ rest) ns k l g (omega arith) in
      let s : suc k - 1 ≡ k = omega arith in
      let e : z ++ rest ≡ fs ++ (records pptt ns ++ (ys ++ rest)) = simp append_assoc in
      let b : place_of (starts pptt ns) (suc k) < 36 + sizes ns = place-below (36 + sizes ns) (starts pptt ns) (suc k) (starts-rise pptt ns) in
      rw (ne_eqb (suc k) 0 (λ z. omega arith), s, over-fits xs 0 z (omega arith), e, rw l at f) (mod-eq_of_lt (omega arith))

-- ---- places of marks

pub after-older : (t : Table) (n : Node) (es : List Node) (i : ℕ) → i ≤ length es → place_after t (n ∷ es) i ≡ place_after t es i
after-older t n es i h =
    let e : suc (length es) - i ≡ suc (length es - i) = omega arith in
    rw e

reach-at : (xs zs : List ℕ) (n : Node) (ns : List Node) (i : ℕ) (x : Bool) → leb i (length ns) ≡ x → length xs ≡ 36 → Good pptt (n ∷ ns) → i ≤ suc (length ns)
    → (i ≤ length ns → (ys : List ℕ) → hops (xs ++ (records pptt ns ++ ys)) i (length xs) ≡ place_after pptt ns i)
    → hops (xs ++ (records pptt (n ∷ ns) ++ zs)) i (length xs) ≡ place_after pptt (n ∷ ns) i
reach-at xs zs n ns i true q l g h ih =
    let d : i ≤ length ns = leb-true i (length ns) q in
    rw (regroup xs zs n ns) (ih d (bytes (place_of (starts pptt ns)) n ++ zs) ∙ sym (after-older pptt n ns i d))
reach-at xs zs n ns i false q l g h ih =
    let d : i ≡ suc (length ns) = (let f = leb-false i (length ns) q in omega arith) in
    let e : suc (length ns) - suc (length ns) ≡ 0 = omega arith in
    rw (d, e) (hops-end xs zs (n ∷ ns) g ∙ rw l)

-- hops lead to every record, and to the end
reach-all : (xs zs : List ℕ) (ns : List Node) (i : ℕ) → length xs ≡ 36 → Good pptt ns → i ≤ length ns → hops (xs ++ (records pptt ns ++ zs)) i (length xs) ≡ place_after pptt ns i
unfolding sizes
reach-all xs zs [] zero l g h = hops-none (xs ++ (records pptt [] ++ zs)) (length xs) ∙ rw l
reach-all xs zs [] (suc i) l g h = absurd (omega arith)
reach-all xs zs (n ∷ ns) i l g h = reach-at xs zs n ns i (leb i (length ns)) refl l g h (λ j ys. reach-all xs ys ns i l g.1 j)

pub reaches : (t : Table) (xs fs : List ℕ) (ns : List Node) (out : List ℕ) → t ≡ pptt → length fs ≡ front t → front t + sizes ns ≤ length xs → Good t ns → out ≡ over xs 0 (fs ++ records t ns) → Reaches out ns
reaches t xs fs ns out e l room g held i h =
    let l' : length fs ≡ 36 = rw e at l in
    let room' : 36 + sizes ns ≤ length xs = rw e at room in
    let z = fs ++ records pptt ns in
    let n : length z ≡ 36 + sizes ns = rw (length-append, length-records, l') in
    let rest = drop (0 + length z) xs in
    let f = reach-all fs rest ns i l' (rw e at g) h in
    rw (held, e, over-fits xs 0 z (omega arith), append_assoc fs (records pptt ns) rest) (rw l' at f)

-- what holds of nodes holds of those before the newest
pub reaches-older : (bs : List ℕ) (ns : List Node) → Reaches bs ns → Reaches bs (drop 1 ns)
reaches-older bs [] r = r
reaches-older bs (n ∷ ns) r = λ i h. r i (omega arith) ∙ after-older pptt n ns i h

pub marked-newer : (t : Table) (ns : List Node) (m : Mark) → Marked t (drop 1 ns) m → Marked t ns m
marked-newer t [] m h = h
marked-newer t (n ∷ ns) m h = (omega (arith, h.0), h.1 ∙ sym (after-older t n ns m.nodes h.0))

sizes-drop : (j : ℕ) (es : List Node) → sizes (drop j es) ≤ sizes es
unfolding sizes
sizes-drop zero es = omega arith
sizes-drop (suc j) [] = omega arith
sizes-drop (suc j) (e ∷ es) = omega (arith, sizes-drop j es)

pub marked-leads : (bs : List ℕ) (es : List Node) (m : Mark) → 36 + sizes es ≤ limit → Reaches bs es → Marked pptt es m → Leads bs m
marked-leads bs es m short r h = (omega (arith, h.1, sizes-drop (length es - m.nodes) es), r m.nodes h.0 ∙ sym h.1)

-- the newest record is one of those that marks may be at
pub newest-marked : (t : Table) (ns : List Node) (k p : ℕ) → k ≡ length ns → (k ≡ 0 → ⊥) → p ≡ front t + sizes (drop 1 ns) → Marked t (drop 1 ns) (record { nodes = k - 1; place = p })
newest-marked t [] k p e z q = absurd (z e)
newest-marked t (n ∷ ns) k p e z q =
    let one : k - 1 ≡ length ns = omega arith in
    let none : length ns - length ns ≡ 0 = omega arith in
    rw one (omega arith, q ∙ rw none)
