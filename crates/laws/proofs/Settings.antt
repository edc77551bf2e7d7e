-- The settings of a matrix, taken one by one from the unset one, give it back; with it the records of every good node lead to that node,
-- and the recipe of good nodes means these nodes.
use mathlib.Core.Path.{◌≡◌, refl, ap}
use Prim.Native.Nat.{ℕ, zero, suc, ◌+◌, ◌*◌, ◌/◌, ◌%◌, ◌^◌, ◌≤◌, ◌<◌}
use mathlib.Core.List.{List, [], ◌∷◌, ◌++◌, append_assoc, append-nil}
use mathlib.Core.Option.{none, some}
use mathlib.Core.Bool.{Bool, true, false}
use native.Mathlib.Omega.{arith}
use native.Mathlib.Nat.{lt_of_lt_of_le, mul-zero, div-lt_iff_lt-mul, mod-lt, div-add-mod'}
use lib.ListN.{length, take, drop, set, replicate, length-append, take-append-drop, replicate-append-replicate}
use lib.Seq.{take_at, drop_at, drop-drop, set_at}
use lib.Dec.{eqb, leb}
use borrow.Author.Tests.{eqb-true, eq-eqb, lt-ltb, le-ltb, leb-true}
use Rattle.format.specs.Bytes.{pick, part, given}
use Rattle.format.specs.Layout.{Item, fld, refs_good}
use Rattle.format.specs.Table.{Table, pptt, srat, hmat, cedt, revision, code, front, limit, head_of}
use Rattle.format.specs.Form.{Form, processor, cache, memory, acpi, pci, rintc, old_rintc, domain, matrix, side, bridge, window, xor, size, Width, byte, pair, octets, most, up_to, narrowest, layout, ranges}
use Rattle.format.specs.Node.{Node, node, sizes, starts}
use Rattle.format.specs.Kind.{Matrix, Initiator, Target, Cell, body, sets, suits}
use Rattle.format.specs.Recipe.{cut, setting, unset, step, lacking, means, run, table_of, headed, meaning}
use Rattle.format.specs.Normal.{call, each_set, settings, matrix_calls, calls, calls_of, recipe_of}
use Rattle.laws.proofs.Finds.{All}
use Rattle.laws.proofs.Lays.{Fit, both_true, fit_length}
use Rattle.laws.proofs.Fits.{fld-fit}
use Rattle.laws.proofs.Shapes.{table_for}
use Rattle.laws.proofs.Good.{GoodNode, Good}
use Rattle.laws.proofs.Calls.{LeadsAs, Leads, Free, stay-as, then-as, lead-as, stay, then, all-below, lead-cache, lead-memory, lead-acpi, lead-rintc, lead-domain, lead-bridge, lead-pci, lead-processor, lead-side, lead-xor, lead-window}
use Rattle.laws.proofs.Grows.{good-lacks}

-- ---- settings of one size, from index j on; ix: how wide their indices are

module _ (v : ℕ) (is : List ℕ) (ix : Width) (M : Form) (ns : List Node) (setting : ℕ → ℕ → List ℕ) (u base count w : ℕ)
    (one : (us : List ℕ) (j x : ℕ) → j < count → x < 256 ^ w → LeadsAs v is ix ix hmat (node M us ∷ ns) (setting j x) (node M (set us (base + j) x) ∷ ns)) where
  set-one : (b : Bool) (pre post : List ℕ) (j x : ℕ) → eqb x u ≡ b → length pre ≡ base + j → j < count → x < 256 ^ w
      → LeadsAs v is ix ix hmat (node M (pre ++ (u ∷ post)) ∷ ns) (pick b [] (setting j x)) (node M (pre ++ (x ∷ post)) ∷ ns)
  set-one true pre post j x q e l o = rw (eqb-true x u q) (stay-as v is ix hmat (node M (pre ++ (u ∷ post)) ∷ ns))
  set-one false pre post j x q e l o = rw (← set_at pre u post x (base + j) e) (one (pre ++ (u ∷ post)) j x l o)

  set_all : (pre xs post : List ℕ) (j : ℕ) → length pre ≡ base + j → j + length xs ≤ count → All (λ x. x < 256 ^ w) xs
      → LeadsAs v is ix ix hmat (node M (pre ++ (replicate (length xs) u ++ post)) ∷ ns) (each_set setting u j xs) (node M (pre ++ (xs ++ post)) ∷ ns)
  unfolding each_set
  set_all pre [] post j e l a = stay-as v is ix hmat (node M (pre ++ post) ∷ ns)
  set_all pre (x ∷ xs) post j e l a =
      let rs = replicate (length xs) u ++ post in
      let m : length (pre ++ (x ∷ [])) ≡ base + suc j = simp length-append (omega arith) in
      let r : LeadsAs v is ix ix hmat (node M ((pre ++ (x ∷ [])) ++ rs) ∷ ns) (each_set setting u (suc j) xs) (node M ((pre ++ (x ∷ [])) ++ (xs ++ post)) ∷ ns) =
      set_all (pre ++ (x ∷ [])) xs post (suc j) m (omega arith) a.1 in
      then-as v is ix ix ix hmat (node M (pre ++ (u ∷ rs)) ∷ ns) (node M (pre ++ (x ∷ rs)) ∷ ns) (node M (pre ++ (x ∷ (xs ++ post))) ∷ ns) (pick (eqb x u) [] (setting j x)) (each_set setting u (suc j) xs)
      (set-one (eqb x u) pre rs j x refl e (omega arith) a.0) (rw (append_assoc pre (x ∷ []) rs, append_assoc pre (x ∷ []) (xs ++ post)) at r)

-- ---- one setting

-- settings suit a matrix whose counts are as wide as their indices
suits-own : (w : Width) → suits (sets w) w ≡ true
suits-own w = eq-eqb (octets w) (octets w) refl

some-columns : (e i t : ℕ) → e < i * t → 0 < t
some-columns e i zero l = let z : i * 0 ≡ 0 = mul-zero i in absurd (omega arith)
some-columns e i (suc t) l = omega arith

module _ (v : ℕ) (is : List ℕ) (ix : Width) (ns : List Node) (i t : ℕ) (wi : i ≤ 256 ^ octets ix) (wt : t ≤ 256 ^ octets ix) (l : front hmat + (sizes ns + size (matrix i t)) ≤ limit) where
  one-initiator : (us : List ℕ) (j x : ℕ) → j < i → x < 256 ^ 4
      → LeadsAs v is ix ix hmat (node (matrix i t) us ∷ ns) (call (Initiator ix) (j ∷ x ∷ [])) (node (matrix i t) (set us (4 + j) x) ∷ ns)
  unfolding body refs_good step setting sizes lacking
  one-initiator us j x b o =
      lead-as v is ix (Initiator ix) (j ∷ x ∷ []) (node (matrix i t) us ∷ ns) (suits-own ix) refl (fld-fit (lt_of_lt_of_le b wi), (fld-fit o, refl))
      (record { place = refl; field = lt-ltb j i b; refs = refl; room = refl; short = l })

  one-target : (us : List ℕ) (j x : ℕ) → j < t → x < 256 ^ 4
      → LeadsAs v is ix ix hmat (node (matrix i t) us ∷ ns) (call (Target ix) (j ∷ x ∷ [])) (node (matrix i t) (set us (4 + i + j) x) ∷ ns)
  unfolding body refs_good step setting sizes lacking
  one-target us j x b o =
      lead-as v is ix (Target ix) (j ∷ x ∷ []) (node (matrix i t) us ∷ ns) (suits-own ix) refl (fld-fit (lt_of_lt_of_le b wt), (fld-fit o, refl))
      (record { place = refl; field = lt-ltb j t b; refs = refl; room = refl; short = l })

  cell_at : (us : List ℕ) (a b x : ℕ) → a < i → b < t → x < 256 ^ 2
      → LeadsAs v is ix ix hmat (node (matrix i t) us ∷ ns) (call (Cell ix) (a ∷ b ∷ x ∷ [])) (node (matrix i t) (set us (4 + i + t + a * t + b) x) ∷ ns)
  unfolding body refs_good step setting sizes lacking
  cell_at us a b x p q o =
      lead-as v is ix (Cell ix) (a ∷ b ∷ x ∷ []) (node (matrix i t) us ∷ ns) (suits-own ix) refl (fld-fit (lt_of_lt_of_le p wi), (fld-fit (lt_of_lt_of_le q wt), (fld-fit o, refl)))
      (record { place = refl; field = rw (lt-ltb a i p, lt-ltb b t q); refs = refl; room = refl; short = l })

  one_cell : (us : List ℕ) (e x : ℕ) → e < i * t → x < 256 ^ 2
      → LeadsAs v is ix ix hmat (node (matrix i t) us ∷ ns) (call (Cell ix) (e / t ∷ e % t ∷ x ∷ [])) (node (matrix i t) (set us (4 + i + t + e) x) ∷ ns)
  one_cell us e x b o =
      let z : 0 < t = some-columns e i t b in
      let p : e / t < i = (div-lt_iff_lt-mul z).1 b in
      let q : e % t < t = mod-lt e z in
      let s : 4 + i + t + e / t * t + e % t ≡ 4 + i + t + e = omega (arith, div-add-mod' e t) in
      rw (← s) (cell_at us (e / t) (e % t) x p q o)

-- ---- a whole matrix

split-fit : (n w : ℕ) (js : List Item) (vs : List ℕ) → Fit (replicate n (fld w) ++ js) vs → All (λ x. x < 256 ^ w) (take n vs) × (length (take n vs) ≡ n) × Fit js (drop n vs)
split-fit zero w js vs f = (tt, refl, f)
split-fit (suc n) w js [] f = let l : 1 ≤ 0 = f.0.there in absurd (omega arith)
split-fit (suc n) w js (v ∷ vs) f = let q = split-fit n w js vs f.1 in ((f.0.below, q.0), ap suc q.1, q.2)

module _ (v : ℕ) (is : List ℕ) (ix : Width) (ns : List Node) (i t : ℕ) (wi : i ≤ 256 ^ octets ix) (wt : t ≤ 256 ^ octets ix) (l : front hmat + (sizes ns + size (matrix i t)) ≤ limit) (p4 : List ℕ) (four : length p4 ≡ 4) where
  settings-lead : (A B C : List ℕ) → length A ≡ i → length B ≡ t → length C ≡ i * t → All (λ x. x < 256 ^ 4) A → All (λ x. x < 256 ^ 4) B → All (λ x. x < 256 ^ 2) C
      → LeadsAs v is ix ix hmat (node (matrix i t) (p4 ++ (replicate (i + t) 0 ++ replicate (i * t) 65535)) ∷ ns)
      (each_set (λ j x. call (Initiator ix) (j ∷ x ∷ [])) 0 0 A ++ (each_set (λ j x. call (Target ix) (j ∷ x ∷ [])) 0 0 B ++ each_set (λ e x. call (Cell ix) (e / t ∷ e % t ∷ x ∷ [])) 65535 0 C))
      (node (matrix i t) (p4 ++ (A ++ (B ++ C))) ∷ ns)
  settings-lead A B C la lb lc oa ob oc =
      let M = matrix i t in
      let N : List ℕ → List Node = λ us. node M us ∷ ns in
      let R : List ℕ = replicate (i * t) 65535 in
      let T : List ℕ = replicate t 0 in
      let fa : ℕ → ℕ → List ℕ = λ j x. call (Initiator ix) (j ∷ x ∷ []) in
      let fb : ℕ → ℕ → List ℕ = λ j x. call (Target ix) (j ∷ x ∷ []) in
      let fc : ℕ → ℕ → List ℕ = λ e x. call (Cell ix) (e / t ∷ e % t ∷ x ∷ []) in
      let a : LeadsAs v is ix ix hmat (N (p4 ++ (replicate (length A) 0 ++ (T ++ R)))) (each_set fa 0 0 A) (N (p4 ++ (A ++ (T ++ R)))) =
      set_all v is ix M ns fa 0 4 i 4 (one-initiator v is ix ns i t wi wt l) p4 A (T ++ R) 0 (omega arith) (omega arith) oa in
      let m : length (p4 ++ A) ≡ 4 + i + 0 = simp length-append (omega arith) in
      let b : LeadsAs v is ix ix hmat (N ((p4 ++ A) ++ (replicate (length B) 0 ++ R))) (each_set fb 0 0 B) (N ((p4 ++ A) ++ (B ++ R))) =
      set_all v is ix M ns fb 0 (4 + i) t 4 (one-target v is ix ns i t wi wt l) (p4 ++ A) B R 0 m (omega arith) ob in
      let k : length ((p4 ++ A) ++ B) ≡ 4 + i + t + 0 = simp length-append (omega arith) in
      let c : LeadsAs v is ix ix hmat (N (((p4 ++ A) ++ B) ++ (replicate (length C) 65535 ++ []))) (each_set fc 65535 0 C) (N (((p4 ++ A) ++ B) ++ (C ++ []))) =
      set_all v is ix M ns fc 65535 (4 + i + t) (i * t) 2 (one_cell v is ix ns i t wi wt l) ((p4 ++ A) ++ B) C [] 0 k (omega arith) oc in
      let s : p4 ++ (replicate (i + t) 0 ++ R) ≡ p4 ++ (replicate (length A) 0 ++ (T ++ R)) = rw (la, ← replicate-append-replicate {A = ℕ} i t 0, append_assoc) in
      let u : (p4 ++ A) ++ (replicate (length B) 0 ++ R) ≡ p4 ++ (A ++ (T ++ R)) = rw (lb, append_assoc) in
      let y : ((p4 ++ A) ++ B) ++ (replicate (length C) 65535 ++ []) ≡ (p4 ++ A) ++ (B ++ R) = rw (lc, append-nil, append_assoc (p4 ++ A) B) in
      let w : ((p4 ++ A) ++ B) ++ (C ++ []) ≡ p4 ++ (A ++ (B ++ C)) = rw append-nil (simp append_assoc) in
      let bc = then-as v is ix ix ix hmat (N ((p4 ++ A) ++ (replicate (length B) 0 ++ R))) (N ((p4 ++ A) ++ (B ++ R))) (N (((p4 ++ A) ++ B) ++ (C ++ []))) (each_set fb 0 0 B) (each_set fc 65535 0 C) b (rw y at c) in
      rw (s, ← w) (then-as v is ix ix ix hmat (N (p4 ++ (replicate (length A) 0 ++ (T ++ R)))) (N (p4 ++ (A ++ (T ++ R)))) (N (((p4 ++ A) ++ B) ++ (C ++ []))) (each_set fa 0 0 A) (each_set fb 0 0 B ++ each_set fc 65535 0 C) a (rw u at bc))

-- both counts fit into the width that the normal form takes
narrowest-fits : (i t : ℕ) → i ≤ most → t ≤ most → (i < 256 ^ octets (narrowest i t)) × (t < 256 ^ octets (narrowest i t))
narrowest-fits i t h k = by (up_to 255 i t) refl
  where
    by : (x : Bool) → up_to 255 i t ≡ x → (i < 256 ^ octets (pick x byte pair)) × (t < 256 ^ octets (pick x byte pair))
    by true e = let p = both_true (leb i 255) (leb t 255) e in (omega (arith, leb-true i 255 p.0), omega (arith, leb-true t 255 p.1))
    by false e = (omega arith, omega arith)

lead-matrix : (v : ℕ) (is : List ℕ) (i t : ℕ) (vs : List ℕ) (ns : List Node) → Free ns → GoodNode hmat (starts hmat ns) (node (matrix i t) vs) → front hmat + (sizes ns + size (matrix i t)) ≤ limit
    → Leads v is hmat ns (matrix_calls (narrowest i t) i t vs) (node (matrix i t) vs ∷ ns)
unfolding layout refs_good ranges body step sizes unset matrix_calls settings part
lead-matrix v is i t [] ns free g l u = let z : 1 ≤ 0 = g.fit.1.1.1.0.there in absurd (omega arith)
lead-matrix v is i t (a ∷ []) ns free g l u = let z : 1 ≤ 0 = g.fit.1.1.1.1.0.there in absurd (omega arith)
lead-matrix v is i t (a ∷ b ∷ []) ns free g l u = let z : 1 ≤ 0 = g.fit.1.1.1.1.1.0.there in absurd (omega arith)
lead-matrix v is i t (a ∷ b ∷ c ∷ []) ns free g l u = let z : 1 ≤ 0 = g.fit.1.1.1.1.1.1.1.1.1.1.0.there in absurd (omega arith)
lead-matrix v is i t (a ∷ b ∷ c ∷ d ∷ ws) ns free g l u =
    let f = g.fit.1.1.1 in
    let unit = f.1.1.1.1.1.1.1 in
    let ix = narrowest i t in
    let (wi, wt) = narrowest-fits i t g.within.0 g.within.1 in
    let p4 = a ∷ b ∷ c ∷ d ∷ [] in
    let six = a ∷ b ∷ c ∷ d ∷ i ∷ t ∷ [] in
    let bare = node (matrix i t) (p4 ++ (replicate (i + t) 0 ++ replicate (i * t) 65535)) ∷ ns in
    let e : replicate (i + t) (fld 4) ++ replicate (i * t) (fld 2) ≡ replicate i (fld 4) ++ (replicate t (fld 4) ++ replicate (i * t) (fld 2)) =
    rw (← replicate-append-replicate i t (fld 4), append_assoc) in
    let x = split-fit i 4 (replicate t (fld 4) ++ replicate (i * t) (fld 2)) ws (rw e at unit.1) in
    let y = split-fit t 4 (replicate (i * t) (fld 2)) (drop i ws) x.2 in
    let z = all-below 2 (i * t) (drop t (drop i ws)) y.2 in
    let first : LeadsAs v is u ix hmat ns (call (Matrix ix) six) bare =
    lead-as v is u (Matrix ix) six ns refl (free (some (Matrix ix))) (fld-fit f.0.below, (fld-fit f.1.0.below, (fld-fit f.1.1.0.below, (fld-fit unit.0.below, (fld-fit wi, (fld-fit wt, refl))))))
    (record { place = refl; field = g.ruled; refs = refl; room = refl; short = l }) in
    let more = settings-lead v is ix ns i t (omega arith) (omega arith) l p4 refl (take i ws) (take t (drop i ws)) (drop t (drop i ws)) x.1 y.1 z.1 x.0 y.0 z.0 in
    let back : take i ws ++ (take t (drop i ws) ++ drop t (drop i ws)) ≡ ws = rw (take-append-drop t (drop i ws)) (take-append-drop i ws) in
    (ix, then-as v is u ix ix hmat ns bare (node (matrix i t) (a ∷ b ∷ c ∷ d ∷ ws) ∷ ns) (call (Matrix ix) six) (settings ix i t ws) first (rw (back, drop-drop t i ws) at more))

-- ---- every form

calls-lead : (v : ℕ) (is : List ℕ) (f : Form) (vs : List ℕ) (ns : List Node) → Free ns → GoodNode (table_for f) (starts (table_for f) ns) (node f vs) → front (table_for f) + (sizes ns + size f) ≤ limit
    → Leads v is (table_for f) ns (calls f vs) (node f vs ∷ ns)
unfolding calls sizes layout
calls-lead v is (processor n) vs ns free g l = lead-processor v is n vs ns free g l
calls-lead v is cache vs ns free g l = lead-cache v is vs ns free g l
calls-lead v is memory vs ns free g l = lead-memory v is vs ns free g l
calls-lead v is acpi vs ns free g l = lead-acpi v is vs ns free g l
calls-lead v is pci vs ns free g l = lead-pci v is vs ns free (fit_length (layout pci) vs g.fit) g l
calls-lead v is old_rintc vs ns free g l = absurd g.within
calls-lead v is rintc vs ns free g l = lead-rintc v is vs ns free g l
calls-lead v is domain vs ns free g l = lead-domain v is vs ns free g l
calls-lead v is (matrix i t) vs ns free g l = lead-matrix v is i t vs ns free g l
calls-lead v is (side n) vs ns free g l = lead-side v is n vs ns free g l
calls-lead v is (bridge n) vs ns free g l = lead-bridge v is vs ns free n g l
calls-lead v is (window n) vs ns free g l = lead-window v is n vs ns (omega (arith, fit_length (layout (window n)) vs g.fit)) free g l
calls-lead v is (xor n) vs ns free g l = lead-xor v is n vs ns free g l

all-lead : (v : ℕ) (is : List ℕ) (t : Table) (ns : List Node) → Good t ns → front t + sizes ns ≤ limit → Leads v is t [] (calls_of ns) ns
unfolding calls_of sizes
all-lead v is t [] g l = stay v is t []
all-lead v is t (n ∷ ns) g l =
    let own = g.0.own in
    let c : Leads v is (table_for n.form) ns (calls n.form n.values) (n ∷ ns) = calls-lead v is n.form n.values ns (good-lacks t ns g.1) (rw own g.0) (rw own l) in
    then v is t [] ns (n ∷ ns) (calls_of ns) (calls n.form n.values) (all-lead v is t ns g.1 (omega arith)) (rw own at c)

-- ---- the recipe of good nodes means these nodes

pub table-back : (t : Table) → table_of (code t) ≡ some t
table-back pptt = refl
table-back srat = refl
table-back hmat = refl
table-back cedt = refl

pub meaning-back : (t : Table) (is : List ℕ) (ns : List Node) → length is ≡ 26 → Good t ns → front t + sizes ns ≤ limit → meaning (recipe_of (means (head_of t is) ns)) ≡ given (means (head_of t is) ns)
unfolding meaning headed recipe_of part run cut
meaning-back t is ns n g l =
    let cs = calls_of ns in
    let k : length (is ++ cs) ≡ 26 + length cs = rw (length-append, n) in
    let m : 28 ≤ length (1 ∷ code t ∷ (is ++ cs)) = omega arith in
    let (w, lead) = all-lead (revision t) is t ns g l byte in
    let (p, q, e) = lead 28 0 [] in
    rw (le-ltb (length (1 ∷ code t ∷ (is ++ cs))) 28 m, table-back t, take_at is cs 26 n, drop_at is cs 26 n) (rw (append-nil, good-lacks t ns g none) at e)
