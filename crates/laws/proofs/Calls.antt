-- The records of a good node, cut and taken one by one, give the node back: for nodes of one record, and for those with a list.
use mathlib.Core.Path.{◌≡◌, refl, ap, ◌∙◌}
use Prim.Native.Nat.{ℕ, zero, suc, ◌+◌, ◌-◌, ◌^◌, ◌≤◌, ◌<◌}
use mathlib.Core.List.{List, [], ◌∷◌, ◌++◌, append_assoc, append-nil}
use mathlib.Core.Bool.{true}
use mathlib.Core.Option.{Option, some}
use native.Mathlib.Omega.{arith}
use native.Mathlib.Nat.{add-zero}
use native.Mathlib.Numerals.{add-one}
use lib.ListN.{length, take, drop, replicate, length-append}
use lib.Seq.{drop_at, drop-drop}
use lib.Dec.{leb, ltb}
use borrow.Author.Tests.{le-ltb, lt-leb, ltb-true, leb-true}
use Rattle.format.specs.Bytes.{both, at}
use Rattle.format.specs.Layout.{fld, to, or_none, width, lay, is_good, refs_good}
use Rattle.format.specs.Table.{Table, pptt, srat, hmat, cedt, front, limit, Head}
use Rattle.format.specs.Form.{Form, processor, cache, memory, acpi, pci, rintc, domain, side, bridge, window, xor, size, Width, byte, pair, layout, registers, ways, ranges}
use Rattle.format.specs.Node.{Node, node, Entry, sizes, starts, at_ordinal}
use Rattle.format.specs.Kind.{Kind, Processor, Resource, Cache, Memory, Acpi, Pci, Rintc, Domain, Matrix, Initiator, Target, Cell, Side, Handle, Bridge, Window, WindowTarget, Xor, Map, kind_number, kind_of, no_kind, body, part_in, suits, width_behind}
use Rattle.format.specs.Recipe.{cut_as, skip, cut, called, newest, joined, step, added, lacking, since, run}
use Rattle.format.specs.Normal.{call, each}
use Rattle.laws.proofs.Finds.{All}
use Rattle.laws.proofs.Bytes.{drop-turn}
use Rattle.laws.proofs.Lays.{Fit, both_true, length-lay, fields-lay}
use Rattle.laws.proofs.Fits.{fld-fit, refit}
use Rattle.laws.proofs.Good.{GoodNode}
use Rattle.laws.proofs.Grows.{Passed, no-fault, needless, kind_home}
use Rattle.laws.proofs.Shapes.{second, third, fourth}
use Rattle.laws.proofs.Tests.{both_false}

kind-back : (k : Kind) → kind_of (kind_home k) (kind_number k) ≡ some k
unfolding kind_of
kind-back Processor = refl
kind-back Resource = refl
kind-back Cache = refl
kind-back Memory = refl
kind-back Acpi = refl
kind-back Pci = refl
kind-back Rintc = refl
kind-back Domain = refl
kind-back (Matrix byte) = refl
kind-back (Matrix pair) = refl
kind-back (Initiator byte) = refl
kind-back (Initiator pair) = refl
kind-back (Target byte) = refl
kind-back (Target pair) = refl
kind-back (Cell byte) = refl
kind-back (Cell pair) = refl
kind-back Side = refl
kind-back Handle = refl
kind-back Bridge = refl
kind-back Window = refl
kind-back WindowTarget = refl
kind-back Xor = refl
kind-back Map = refl

pub cut-skip : (t : Table) (k p : ℕ) (bs : List ℕ) → cut t k p bs ≡ cut t 0 (p + k) (drop k bs)
unfolding cut
cut-skip t zero p bs = rw add-zero
cut-skip t (suc k) p [] = refl
cut-skip t (suc k) p (b ∷ bs) =
    let e : suc p + k ≡ p + suc k = omega arith in
    cut-skip t k (suc p) bs ∙ rw e

-- what follows the record at p
pub cut_at : (t : Table) (r : List ℕ) (p : ℕ) → p < length r → cut t 0 p (drop p r)
    ≡ cut_as (kind_of t (at r p)) (no_kind t (at r p)) (drop (p + 1) r) p (cut t 0 (p + 1 + skip (kind_of t (at r p))) (drop (p + 1 + skip (kind_of t (at r p))) r))
unfolding cut
cut_at t r p h =
    let n = skip (kind_of t (at r p)) in
    rw (drop-turn r p h, cut-skip t n (suc p) (drop (p + 1) r), drop-drop n (p + 1) r, ← add-one p)

cut-call : (k : Kind) (vs rest : List ℕ) (p : ℕ) → Fit (body k) vs
    → cut (kind_home k) 0 p (call k vs ++ rest) ≡ called p k vs (cut (kind_home k) 0 (suc p + width (body k)) rest)
unfolding cut cut_as
cut-call k vs rest p f =
    let w = width (body k) in
    let xs = lay (body k) vs in
    let l : length xs ≡ w = length-lay (λ v. v) (body k) vs in
    let m : w ≤ length (xs ++ rest) = simp length-append (omega arith) in
    rw (kind-back k, le-ltb (length (xs ++ rest)) w m, fields-lay (body k) vs rest f, cut-skip (kind_home k) w (suc p) (xs ++ rest), drop_at xs rest w l)

-- ---- bytes that lead from nodes to nodes, under heads of revision v and identity is

module _ (v : ℕ) (is : List ℕ) where
  abbrev pub under : Table → Head
  under t = record { table = t; revision = v; identity = is }

  -- the newest matrix's counts are so wide before, and so wide behind them
  abbrev pub LeadsAs : Width → Width → Table → List Node → List ℕ → List Node → Type 0
  LeadsAs u w t ns xs ns' =
      (p q : ℕ) (rest : List ℕ) → (p' : ℕ) × (q' : ℕ) × (run (under t) q u ns (cut t 0 p (xs ++ rest)) ≡ run (under t) q' w ns' (cut t 0 p' rest))

  pub stay-as : (u : Width) (t : Table) (ns : List Node) → LeadsAs u u t ns [] ns
  stay-as u t ns p q rest = (p, q, refl)

  pub then-as : (u w x : Width) (t : Table) (ns₁ ns₂ ns₃ : List Node) (xs ys : List ℕ) → LeadsAs u w t ns₁ xs ns₂ → LeadsAs w x t ns₂ ys ns₃ → LeadsAs u x t ns₁ (xs ++ ys) ns₃
  then-as u w x t ns₁ ns₂ ns₃ xs ys a b p q rest =
      let (p₁, q₁, e) = a p q (ys ++ rest) in
      let (p₂, q₂, f) = b p₁ q₁ rest in
      (p₂, q₂, rw append_assoc (e ∙ f))

  pub lead-as : (u : Width) (k : Kind) (vs : List ℕ) (ns : List Node) → suits (part_in k) u ≡ true → lacking (newest ns) (some k) ≡ 0 → Fit (body k) vs → Passed (kind_home k) ns k vs
      → LeadsAs u (width_behind (part_in k) u) (kind_home k) ns (call k vs) (added k vs ns)
  unfolding run
  lead-as u k vs ns d i f s p q rest = (suc p + width (body k), since ns (added k vs ns) p q, rw (cut-call k vs rest p f, i, no-fault (kind_home k) u ns k vs d s))

  -- however wide they are before
  abbrev pub Leads : Table → List Node → List ℕ → List Node → Type 0
  Leads t ns xs ns' = (u : Width) → (w : Width) × LeadsAs u w t ns xs ns'

  pub stay : (t : Table) (ns : List Node) → Leads t ns [] ns
  stay t ns u = (u, stay-as u t ns)

  pub then : (t : Table) (ns₁ ns₂ ns₃ : List Node) (xs ys : List ℕ) → Leads t ns₁ xs ns₂ → Leads t ns₂ ys ns₃ → Leads t ns₁ (xs ++ ys) ns₃
  then t ns₁ ns₂ ns₃ xs ys a b u =
      let (w, c) = a u in
      let (x, d) = b w in
      (x, then-as u w x t ns₁ ns₂ ns₃ xs ys c d)

  pub lead : (k : Kind) (vs : List ℕ) (ns : List Node) → ((u : Width) → suits (part_in k) u ≡ true) → lacking (newest ns) (some k) ≡ 0 → Fit (body k) vs → Passed (kind_home k) ns k vs
      → Leads (kind_home k) ns (call k vs) (added k vs ns)
  lead k vs ns d i f s u = (width_behind (part_in k) u, lead-as u k vs ns (d u) i f s)

-- the newest node lacks nothing
abbrev pub Free : List Node → Type 0
Free ns = (o : Option Kind) → lacking (newest ns) o ≡ 0

-- ---- nodes of one record

module _ (v : ℕ) (is vs : List ℕ) (ns : List Node) (free : Free ns) where
  pub lead-cache : GoodNode pptt (starts pptt ns) (node cache vs) → front pptt + sizes (node cache vs ∷ ns) ≤ limit → Leads v is pptt ns (call Cache vs) (node cache vs ∷ ns)
  unfolding body layout ranges refs_good step
  lead-cache g l =
      let f = g.fit in
      let q = both_true (ltb (at vs 0) 256) _ g.ruled in
      lead v is Cache vs ns (λ u. refl) (free (some Cache)) (refit (omega (arith, ltb-true (at vs 0) 256 q.0)) f.1.1.1.0, f.1.1.1.1)
      (record { place = refl; field = g.ruled; refs = g.refs; room = refl; short = l })

  pub lead-memory : GoodNode srat (starts srat ns) (node memory vs) → front srat + sizes (node memory vs ∷ ns) ≤ limit → Leads v is srat ns (call Memory vs) (node memory vs ∷ ns)
  unfolding body layout ranges refs_good step
  lead-memory g l =
      let f = g.fit in
      let b : at (drop 1 (drop 1 (drop 1 vs))) 0 < 256 ^ 1 = omega (arith, leb-true (at vs 3) 7 g.ruled, fourth vs) in
      lead v is Memory vs ns (λ u. refl) (free (some Memory)) (f.1.1.0, (f.1.1.1.1.0, (f.1.1.1.1.1.0, (refit b f.1.1.1.1.1.1.1.0, f.1.1.1.1.1.1.1.1.1))))
      (record { place = refl; field = g.ruled; refs = refl; room = refl; short = l })

  pub lead-acpi : GoodNode srat (starts srat ns) (node acpi vs) → front srat + sizes (node acpi vs ∷ ns) ≤ limit → Leads v is srat ns (call Acpi vs) (node acpi vs ∷ ns)
  unfolding body layout ranges refs_good step
  lead-acpi g l =
      let f = g.fit in
      let b : at (drop 1 (drop 1 (drop 1 vs))) 0 < 256 ^ 1 = omega (arith, leb-true (at vs 3) 3 g.ruled, fourth vs) in
      lead v is Acpi vs ns (λ u. refl) (free (some Acpi)) (f.1.1.1.1.0, (f.1.1.1.1.1.0, (f.1.1.1.1.1.1.0, (refit b f.1.1.1.1.1.1.1.1.0, f.1.1.1.1.1.1.1.1.1.1))))
      (record { place = refl; field = g.ruled; refs = refl; room = refl; short = l })

  pub lead-rintc : GoodNode srat (starts srat ns) (node rintc vs) → front srat + sizes (node rintc vs ∷ ns) ≤ limit → Leads v is srat ns (call Rintc vs) (node rintc vs ∷ ns)
  unfolding body layout ranges refs_good step
  lead-rintc g l =
      let f = g.fit in
      let b : at (drop 1 (drop 1 vs)) 0 < 256 ^ 1 = omega (arith, leb-true (at vs 2) 1 g.ruled, third vs) in
      lead v is Rintc vs ns (λ u. refl) (free (some Rintc)) (f.1.1.1.0, (f.1.1.1.1.0, (refit b f.1.1.1.1.1.0, f.1.1.1.1.1.1)))
      (record { place = refl; field = g.ruled; refs = refl; room = refl; short = l })

  pub lead-domain : GoodNode hmat (starts hmat ns) (node domain vs) → front hmat + sizes (node domain vs ∷ ns) ≤ limit → Leads v is hmat ns (call Domain vs) (node domain vs ∷ ns)
  unfolding body layout refs_good step
  lead-domain g l =
      let f = g.fit in
      lead v is Domain vs ns (λ u. refl) (free (some Domain)) (f.1.1.1.1.1.0, (f.1.1.1.1.1.1.0, f.1.1.1.1.1.1.1.1))
      (record { place = refl; field = refl; refs = refl; room = refl; short = l })

  pub lead-bridge : (n : ℕ) → GoodNode cedt (starts cedt ns) (node (bridge n) vs) → front cedt + sizes (node (bridge n) vs ∷ ns) ≤ limit → Leads v is cedt ns (call Bridge vs) (node (bridge n) vs ∷ ns)
  unfolding body layout ranges refs_good step sizes
  lead-bridge n g l =
      let f = g.fit in
      let e : n ≡ registers (at vs 1) = g.within.1 in
      let b : at (drop 1 vs) 0 < 256 ^ 1 = omega (arith, leb-true (at vs 1) 1 g.ruled, second vs) in
      rw e (lead v is Bridge vs ns (λ u. refl) (free (some Bridge)) (f.1.1.1.0, (refit b f.1.1.1.1.0, (f.1.1.1.1.1.1.0, f.1.1.1.1.1.1.1.1)))
      (record { place = refl; field = g.ruled; refs = refl; room = refl; short = l }))

pub lead-pci : (v : ℕ) (is vs : List ℕ) (ns : List Node) → Free ns → length vs ≡ 6 → GoodNode srat (starts srat ns) (node pci vs) → front srat + sizes (node pci vs ∷ ns) ≤ limit → Leads v is srat ns (call Pci vs) (node pci vs ∷ ns)
unfolding body layout ranges refs_good step
lead-pci v is [] ns free m g l = absurd (omega arith)
lead-pci v is (a ∷ []) ns free m g l = absurd (omega arith)
lead-pci v is (a ∷ b ∷ []) ns free m g l = absurd (omega arith)
lead-pci v is (a ∷ b ∷ c ∷ []) ns free m g l = absurd (omega arith)
lead-pci v is (a ∷ b ∷ c ∷ d ∷ []) ns free m g l = absurd (omega arith)
lead-pci v is (a ∷ b ∷ c ∷ d ∷ e ∷ []) ns free m g l = absurd (omega arith)
lead-pci v is (a ∷ b ∷ c ∷ d ∷ e ∷ x ∷ vs) ns free m g l =
    let f = g.fit in
    let p = both_true (leb d 31) (both (leb e 7) (leb x 3)) g.ruled in
    let q = both_true (leb e 7) (leb x 3) p.1 in
    lead v is Pci (a ∷ b ∷ c ∷ d ∷ e ∷ x ∷ vs) ns (λ u. refl) (free (some Pci)) (
      f.1.1.1.1.0,
      (
        f.1.1.1.1.1.0,
        (
          f.1.1.1.1.1.1.0,
          (fld-fit (omega (arith, leb-true d 31 p.0)), (fld-fit (omega (arith, leb-true e 7 q.0)), (fld-fit (omega (arith, leb-true x 3 q.1)), f.1.1.1.1.1.1.1.1.1.1.1))),
        ),
      ),
    )
    (record { place = refl; field = g.ruled; refs = refl; room = refl; short = l })

-- ---- lists

module _ (v : ℕ) (is : List ℕ) (t : Table) (k : Kind) (F : ℕ → Form) (ns : List Node) (Ok : ℕ → Type 0) (most base : ℕ)
    (one : (m : ℕ) (us : List ℕ) (w : ℕ) → Ok w → m < most → length us ≡ base + m → Leads v is t (node (F m) us ∷ ns) (call k (w ∷ [])) (node (F (suc m)) (us ++ (w ∷ [])) ∷ ns)) where
  each-lead : (m : ℕ) (us ws : List ℕ) → All Ok ws → m + length ws ≤ most → length us ≡ base + m → Leads v is t (node (F m) us ∷ ns) (each k ws) (node (F (m + length ws)) (us ++ ws) ∷ ns)
  unfolding each
  each-lead m us [] a l n = rw (add-zero, append-nil) (stay v is t (node (F m) us ∷ ns))
  each-lead m us (w ∷ ws) a l n =
      let e : suc m + length ws ≡ m + suc (length ws) = omega arith in
      let j : length (us ++ (w ∷ [])) ≡ base + suc m = simp length-append (omega arith) in
      let r : Leads v is t (node (F (suc m)) (us ++ (w ∷ [])) ∷ ns) (each k ws) (node (F (suc m + length ws)) ((us ++ (w ∷ [])) ++ ws) ∷ ns) =
      each-lead (suc m) (us ++ (w ∷ [])) ws a.1 (omega arith) j in
      then v is t (node (F m) us ∷ ns) (node (F (suc m)) (us ++ (w ∷ [])) ∷ ns) (node (F (m + suc (length ws))) (us ++ (w ∷ ws)) ∷ ns) (call k (w ∷ [])) (each k ws)
      (one m us w a.0 (omega arith) n) (rw (e, append_assoc us (w ∷ []) ws) at r)

-- a resource that fits, and names an earlier cache
abbrev Refers : List Entry → ℕ → Type 0
Refers es w = (w < 256 ^ 4) × (at_ordinal es w 1 ≡ true)

all-refer : (es : List Entry) (n : ℕ) (ws : List ℕ) → Fit (replicate n (to 1)) ws → refs_good (at_ordinal es) (replicate n (to 1)) ws ≡ true → All (Refers es) ws × (length ws ≡ n)
unfolding refs_good
all-refer es zero ws f r = (rw f tt, ap length f)
all-refer es (suc n) [] f r = let l : 1 ≤ 0 = f.0.there in absurd (omega arith)
all-refer es (suc n) (w ∷ ws) f r =
    let p = both_true (at_ordinal es w 1) (refs_good (at_ordinal es) (replicate n (to 1)) ws) r in
    let q = all-refer es n ws f.1 p.1 in
    (((f.0.below, p.0), q.0), ap suc q.1)

pub all-below : (k n : ℕ) (ws : List ℕ) → Fit (replicate n (fld k)) ws → All (λ w. w < 256 ^ k) ws × (length ws ≡ n)
all-below k zero ws f = (rw f tt, ap length f)
all-below k (suc n) [] f = let l : 1 ≤ 0 = f.0.there in absurd (omega arith)
all-below k (suc n) (w ∷ ws) f = let q = all-below k n ws f.1 in ((f.0.below, q.0), ap suc q.1)

module _ (v : ℕ) (is : List ℕ) (ns : List Node) (n : ℕ) where
  one-resource : n ≤ 58 → front pptt + (sizes ns + size (processor n)) ≤ limit → (m : ℕ) (us : List ℕ) (w : ℕ) → Refers (starts pptt ns) w → m < n → length us ≡ 3 + m
      → Leads v is pptt (node (processor m) us ∷ ns) (call Resource (w ∷ [])) (node (processor (suc m)) (us ++ (w ∷ [])) ∷ ns)
  unfolding body refs_good step joined sizes
  one-resource k l m us w o b j =
      lead v is Resource (w ∷ []) (node (processor m) us ∷ ns) (λ u. refl) (needless Resource 58 m (processor (suc m)) us ns (some Resource)) (record { there = omega arith; below = o.0; low = tt }, refl)
      (record { place = refl; field = refl; refs = rw o.1; room = lt-leb 58 m (omega arith); short = omega arith })

  one-handle : n ≤ 65535 → front hmat + (sizes ns + size (side n)) ≤ limit → (m : ℕ) (us : List ℕ) (w : ℕ) → w < 256 ^ 2 → m < n → length us ≡ 3 + m
      → Leads v is hmat (node (side m) us ∷ ns) (call Handle (w ∷ [])) (node (side (suc m)) (us ++ (w ∷ [])) ∷ ns)
  unfolding body refs_good step joined sizes
  one-handle k l m us w o b j =
      lead v is Handle (w ∷ []) (node (side m) us ∷ ns) (λ u. refl) (needless Handle 65535 m (side (suc m)) us ns (some Handle)) (fld-fit o, refl)
      (record { place = refl; field = refl; refs = refl; room = lt-leb 65535 m (omega arith); short = omega arith })

  one_map : n ≤ 255 → front cedt + (sizes ns + size (xor n)) ≤ limit → (m : ℕ) (us : List ℕ) (w : ℕ) → w < 256 ^ 8 → m < n → length us ≡ 1 + m
      → Leads v is cedt (node (xor m) us ∷ ns) (call Map (w ∷ [])) (node (xor (suc m)) (us ++ (w ∷ [])) ∷ ns)
  unfolding body refs_good step joined sizes
  one_map k l m us w o b j =
      lead v is Map (w ∷ []) (node (xor m) us ∷ ns) (λ u. refl) (needless Map 255 m (xor (suc m)) us ns (some Map)) (fld-fit o, refl)
      (record { place = refl; field = refl; refs = refl; room = lt-leb 255 m (omega arith); short = omega arith })

  one-target : front cedt + (sizes ns + size (window n)) ≤ limit → (m : ℕ) (us : List ℕ) (w : ℕ) → w < 256 ^ 4 → m < n → length us ≡ 7 + m
      → Leads v is cedt (node (window n) us ∷ ns) (call WindowTarget (w ∷ [])) (node (window n) (us ++ (w ∷ [])) ∷ ns)
  unfolding body refs_good step joined sizes lacking
  one-target l m us w o b j =
      lead v is WindowTarget (w ∷ []) (node (window n) us ∷ ns) (λ u. refl) (rw (both_false (ltb (length us - 7) n))) (fld-fit o, refl)
      (record { place = refl; field = refl; refs = refl; room = lt-leb n (length us - 7) (omega arith); short = omega arith })

pub lead-processor : (v : ℕ) (is : List ℕ) (n : ℕ) (vs : List ℕ) (ns : List Node) → Free ns → GoodNode pptt (starts pptt ns) (node (processor n) vs) → front pptt + (sizes ns + size (processor n)) ≤ limit
    → Leads v is pptt ns (call Processor (take 3 vs) ++ each Resource (drop 3 vs)) (node (processor n) vs ∷ ns)
unfolding layout refs_good body step sizes
lead-processor v is n [] ns free g l = let z : 1 ≤ 0 = g.fit.1.1.1.0.there in absurd (omega arith)
lead-processor v is n (a ∷ []) ns free g l = let z : 1 ≤ 0 = g.fit.1.1.1.1.0.there in absurd (omega arith)
lead-processor v is n (a ∷ b ∷ []) ns free g l = let z : 1 ≤ 0 = g.fit.1.1.1.1.1.0.there in absurd (omega arith)
lead-processor v is n (a ∷ b ∷ c ∷ ws) ns free g l =
    let es = starts pptt ns in
    let f = g.fit.1.1.1 in
    let p = both_true (is_good (at_ordinal es) (or_none 0) b) (refs_good (at_ordinal es) (replicate n (to 1)) ws) g.refs in
    let q = all-refer es n ws f.1.1.1.1 p.1 in
    let k : n ≤ 58 = g.within in
    let first : Leads v is pptt ns (call Processor (a ∷ b ∷ c ∷ [])) (node (processor 0) (a ∷ b ∷ c ∷ []) ∷ ns) =
    lead v is Processor (a ∷ b ∷ c ∷ []) ns (λ u. refl) (free (some Processor)) (fld-fit f.0.below, (record { there = omega arith; below = f.1.0.below; low = tt }, (fld-fit f.1.1.0.below, refl)))
    (record { place = refl; field = refl; refs = rw p.0; room = refl; short = omega arith }) in
    let z : 0 + length ws ≡ n = omega (arith, q.1) in
    let more : Leads v is pptt (node (processor 0) (a ∷ b ∷ c ∷ []) ∷ ns) (each Resource ws) (node (processor (0 + length ws)) (a ∷ b ∷ c ∷ ws) ∷ ns) =
    each-lead v is pptt Resource processor ns (Refers es) n 3 (one-resource v is ns n k l) 0 (a ∷ b ∷ c ∷ []) ws q.0 (omega arith) refl in
    then v is pptt ns (node (processor 0) (a ∷ b ∷ c ∷ []) ∷ ns) (node (processor n) (a ∷ b ∷ c ∷ ws) ∷ ns) (call Processor (a ∷ b ∷ c ∷ [])) (each Resource ws) first (rw z at more)

pub lead-side : (v : ℕ) (is : List ℕ) (n : ℕ) (vs : List ℕ) (ns : List Node) → Free ns → GoodNode hmat (starts hmat ns) (node (side n) vs) → front hmat + (sizes ns + size (side n)) ≤ limit
    → Leads v is hmat ns (call Side (take 3 vs) ++ each Handle (drop 3 vs)) (node (side n) vs ∷ ns)
unfolding layout refs_good ranges body step sizes
lead-side v is n [] ns free g l = let z : 1 ≤ 0 = g.fit.1.1.1.0.there in absurd (omega arith)
lead-side v is n (a ∷ []) ns free g l = let z : 1 ≤ 0 = g.fit.1.1.1.1.1.0.there in absurd (omega arith)
lead-side v is n (a ∷ b ∷ []) ns free g l = let z : 1 ≤ 0 = g.fit.1.1.1.1.1.1.0.there in absurd (omega arith)
lead-side v is n (a ∷ b ∷ c ∷ ws) ns free g l =
    let f = g.fit.1.1.1 in
    let q = all-below 2 n ws f.1.1.1.1.1.1 in
    let k : n ≤ 65535 = g.within in
    let first : Leads v is hmat ns (call Side (a ∷ b ∷ c ∷ [])) (node (side 0) (a ∷ b ∷ c ∷ []) ∷ ns) =
    lead v is Side (a ∷ b ∷ c ∷ []) ns (λ u. refl) (free (some Side)) (fld-fit f.0.below, (fld-fit f.1.1.0.below, (fld-fit f.1.1.1.0.below, refl)))
    (record { place = refl; field = g.ruled; refs = refl; room = refl; short = omega arith }) in
    let z : 0 + length ws ≡ n = omega (arith, q.1) in
    let more : Leads v is hmat (node (side 0) (a ∷ b ∷ c ∷ []) ∷ ns) (each Handle ws) (node (side (0 + length ws)) (a ∷ b ∷ c ∷ ws) ∷ ns) =
    each-lead v is hmat Handle side ns (λ w. w < 256 ^ 2) n 3 (one-handle v is ns n k l) 0 (a ∷ b ∷ c ∷ []) ws q.0 (omega arith) refl in
    then v is hmat ns (node (side 0) (a ∷ b ∷ c ∷ []) ∷ ns) (node (side n) (a ∷ b ∷ c ∷ ws) ∷ ns) (call Side (a ∷ b ∷ c ∷ [])) (each Handle ws) first (rw z at more)

pub lead-xor : (v : ℕ) (is : List ℕ) (n : ℕ) (vs : List ℕ) (ns : List Node) → Free ns → GoodNode cedt (starts cedt ns) (node (xor n) vs) → front cedt + (sizes ns + size (xor n)) ≤ limit
    → Leads v is cedt ns (call Xor (take 1 vs) ++ each Map (drop 1 vs)) (node (xor n) vs ∷ ns)
unfolding layout refs_good ranges body step sizes
lead-xor v is n [] ns free g l = let z : 1 ≤ 0 = g.fit.1.1.1.1.0.there in absurd (omega arith)
lead-xor v is n (a ∷ ws) ns free g l =
    let f = g.fit.1.1.1.1 in
    let q = all-below 8 n ws f.1.1 in
    let k : n ≤ 255 = g.within in
    let first : Leads v is cedt ns (call Xor (a ∷ [])) (node (xor 0) (a ∷ []) ∷ ns) =
    lead v is Xor (a ∷ []) ns (λ u. refl) (free (some Xor)) (fld-fit f.0.below, refl) (record { place = refl; field = g.ruled; refs = refl; room = refl; short = omega arith }) in
    let z : 0 + length ws ≡ n = omega (arith, q.1) in
    let more : Leads v is cedt (node (xor 0) (a ∷ []) ∷ ns) (each Map ws) (node (xor (0 + length ws)) (a ∷ ws) ∷ ns) =
    each-lead v is cedt Map xor ns (λ w. w < 256 ^ 8) n 1 (one_map v is ns n k l) 0 (a ∷ []) ws q.0 (omega arith) refl in
    then v is cedt ns (node (xor 0) (a ∷ []) ∷ ns) (node (xor n) (a ∷ ws) ∷ ns) (call Xor (a ∷ [])) (each Map ws) first (rw z at more)

-- seven fields, taken apart
pub lead-window : (v : ℕ) (is : List ℕ) (n : ℕ) (vs : List ℕ) (ns : List Node) → 7 ≤ length vs → Free ns → GoodNode cedt (starts cedt ns) (node (window n) vs) → front cedt + (sizes ns + size (window n)) ≤ limit
    → Leads v is cedt ns (call Window (take 7 vs) ++ each WindowTarget (drop 7 vs)) (node (window n) vs ∷ ns)
unfolding layout refs_good ranges body step sizes
lead-window v is n [] ns m free g l = absurd (omega arith)
lead-window v is n (a ∷ []) ns m free g l = absurd (omega arith)
lead-window v is n (a ∷ b ∷ []) ns m free g l = absurd (omega arith)
lead-window v is n (a ∷ b ∷ c ∷ []) ns m free g l = absurd (omega arith)
lead-window v is n (a ∷ b ∷ c ∷ d ∷ []) ns m free g l = absurd (omega arith)
lead-window v is n (a ∷ b ∷ c ∷ d ∷ e ∷ []) ns m free g l = absurd (omega arith)
lead-window v is n (a ∷ b ∷ c ∷ d ∷ e ∷ x ∷ []) ns m free g l = absurd (omega arith)
lead-window v is n (a ∷ b ∷ c ∷ d ∷ e ∷ x ∷ y ∷ ws) ns m free g l =
    let f = g.fit.1.1.1.1 in
    let i : n ≡ ways c = g.within.1 in
    let seven = a ∷ b ∷ c ∷ d ∷ e ∷ x ∷ y ∷ [] in
    let p = both_true (ltb 0 (ways c)) _ g.ruled in
    let p₁ = both_true (leb d 1) (both (leb e 6) (leb x 31)) p.1 in
    let p₂ = both_true (leb e 6) (leb x 31) p₁.1 in
    let q = all-below 4 n ws f.1.1.1.1.1.1.1.1 in
    let first : Leads v is cedt ns (call Window seven) (node (window n) seven ∷ ns) =
    rw i (lead v is Window seven ns (λ u. refl) (free (some Window))
    (fld-fit f.0.below, (fld-fit f.1.0.below, (fld-fit f.1.1.0.below, (fld-fit f.1.1.1.0.below, (fld-fit (omega (arith, leb-true e 6 p₂.0)), (fld-fit (omega (arith, leb-true x 31 p₂.1)), (fld-fit f.1.1.1.1.1.1.1.0.below, refl)))))))
    (record { place = refl; field = g.ruled; refs = refl; room = refl; short = rw (← i) l })) in
    let z : 0 + length ws ≡ n = omega (arith, q.1) in
    let more : Leads v is cedt (node (window n) seven ∷ ns) (each WindowTarget ws) (node (window n) (a ∷ b ∷ c ∷ d ∷ e ∷ x ∷ y ∷ ws) ∷ ns) =
    each-lead v is cedt WindowTarget (λ m. window n) ns (λ w. w < 256 ^ 4) n 7 (one-target v is ns n l) 0 seven ws q.0 (omega arith) refl in
    then v is cedt ns (node (window n) seven ∷ ns) (node (window n) (a ∷ b ∷ c ∷ d ∷ e ∷ x ∷ y ∷ ws) ∷ ns) (call Window seven) (each WindowTarget ws) first more
