-- A record that is not refused makes good nodes of good nodes: kind by kind, from the layouts.
use mathlib.Core.Path.{◌≡◌, refl, sym, ap, ◌∙◌}
use Prim.Native.Nat.{ℕ, suc, ◌+◌, ◌-◌, ◌*◌, ◌^◌, ◌≤◌, ◌<◌}
use mathlib.Core.List.{List, [], ◌∷◌, ◌++◌}
use mathlib.Core.Bool.{Bool, true, false, not}
use native.Mathlib.Omega.{arith}
use lib.ListN.{length, drop, set, replicate, get_or-append}
use lib.Dec.{leb, ltb, eqb}
use borrow.Author.Tests.{leb-true, ltb-true, ltb-false, leb-false, not-false, le-ltb, eqb-true}
use Rattle.format.specs.Bytes.{both, all, find, at, pick}
use Rattle.format.specs.Layout.{fld, to, arities, refs_good, Item, fix}
use Rattle.format.specs.Table.{Table, pptt, srat, hmat, cedt, front, limit}
use Rattle.format.specs.Form.{Form, processor, cache, memory, acpi, pci, rintc, old_rintc, domain, matrix, side, bridge, window, xor, type_of, size, Width, byte, pair, most, middle, layout, registers, ways, matrix_flags, ranges}
use Rattle.format.specs.Node.{Node, node, Entry, sizes, starts, is_ordinal, at_ordinal}
use Rattle.format.specs.Kind.{Kind, Processor, Resource, Cache, Memory, Acpi, Pci, Rintc, Domain, Matrix, Initiator, Target, Cell, Side, Handle, Bridge, Window, WindowTarget, Xor, Map, kind_number, is_kind, body, part_in, suits}
use Rattle.format.specs.Recipe.{Newest, a_list, a_matrix, other, newest_as, newest, joined, setting, unset, step, added, fault, lacking}
use Rattle.laws.proofs.Finds.{never, none_first}
use Rattle.laws.proofs.Lays.{Fit, both_true, fit_length}
use Rattle.laws.proofs.Links.{refs-backward}
use Rattle.laws.proofs.Shapes.{size_below, plain-fld, plain-matrix, Within, second, third, few-ways}
use Rattle.laws.proofs.Fits.{fix-fit, zero-fit, fld-fit, wider, fit_append, good-append, replicate-snoc, plain-good, fit_same, set_front, set-behind}
use Rattle.laws.proofs.Good.{GoodNode, Good}
use mathlib.Core.Logic.{◌⊎◌, inl, inr}
use mathlib.Core.Option.{Option, none, some}
use Rattle.laws.proofs.Changes.{arities-same}

-- ---- no test of the list was true

pub record Passed (t : Table) (ns : List Node) (k : Kind) (vs : List ℕ) : Type 0 where
  pub place : (step k vs ns).placed ≡ true
  pub field : all (step k vs ns).ranges ≡ true
  pub refs : refs_good (at_ordinal (starts t (step k vs ns).earlier)) (body k) vs ≡ true
  pub room : (step k vs ns).full ≡ false
  pub short : front t + sizes (added k vs ns) ≤ limit

pub passed : (t : Table) (w : Width) (ns : List Node) (k : Kind) (vs : List ℕ) → fault t w ns k vs ≡ 0 → Passed t ns k vs
unfolding fault
passed t w ns k vs h =
    let s = step k vs ns in
    let good = refs_good (at_ordinal (starts t s.earlier)) (body k) vs in
    let back = refs_good (is_ordinal (length s.earlier)) (body k) vs in
    let n = front t + sizes s.nodes in
    let (a, (b, (z, (c, (d, (e, end)))))) = none_first ((not (both s.placed (suits (part_in k) w)), 4) ∷ (not (all s.ranges), 5) ∷ (not back, 6) ∷ (not good, 10) ∷ (s.full, 7) ∷ (ltb limit n, 8) ∷ []) (search arith) h in
    record { place = (both_true s.placed (suits (part_in k) w) (not-false (both s.placed (suits (part_in k) w)) a)).0; field = not-false (all s.ranges) b; refs = not-false good c; room = d; short = ltb-false limit n e }

-- its indices are as wide as the newest matrix's counts
pub suited : (t : Table) (w : Width) (ns : List Node) (k : Kind) (vs : List ℕ) → fault t w ns k vs ≡ 0 → suits (part_in k) w ≡ true
unfolding fault
suited t w ns k vs h =
    let s = step k vs ns in
    let good = refs_good (at_ordinal (starts t s.earlier)) (body k) vs in
    let back = refs_good (is_ordinal (length s.earlier)) (body k) vs in
    let (a, more) = none_first ((not (both s.placed (suits (part_in k) w)), 4) ∷ (not (all s.ranges), 5) ∷ (not back, 6) ∷ (not good, 10) ∷ (s.full, 7) ∷ (ltb limit (front t + sizes s.nodes), 8) ∷ []) (search arith) h in
    (both_true s.placed (suits (part_in k) w) (not-false (both s.placed (suits (part_in k) w)) a)).1

pub no-fault : (t : Table) (w : Width) (ns : List Node) (k : Kind) (vs : List ℕ) → suits (part_in k) w ≡ true → Passed t ns k vs → fault t w ns k vs ≡ 0
unfolding fault
no-fault t w ns k vs u p =
    let back = refs-backward t (step k vs ns).earlier (body k) vs p.refs in
    rw (p.place, u, p.field, back, p.refs, p.room, le-ltb limit (front t + sizes (added k vs ns)) p.short)

-- ---- the newest node

pub data View : List Node → Newest → Type 0 where
  sees_processor : {n : ℕ} {us : List ℕ} {ns : List Node} → View (node (processor n) us ∷ ns) (a_list Resource 0 58 n (processor (suc n)) us ns)
  sees_matrix : {i t : ℕ} {us : List ℕ} {ns : List Node} → View (node (matrix i t) us ∷ ns) (a_matrix i t us ns)
  sees_side : {n : ℕ} {us : List ℕ} {ns : List Node} → View (node (side n) us ∷ ns) (a_list Handle 0 65535 n (side (suc n)) us ns)
  sees_window : {n : ℕ} {us : List ℕ} {ns : List Node} → View (node (window n) us ∷ ns) (a_list WindowTarget n n (length us - 7) (window n) us ns)
  sees_xor : {n : ℕ} {us : List ℕ} {ns : List Node} → View (node (xor n) us ∷ ns) (a_list Map 0 255 n (xor (suc n)) us ns)
  sees_other : {ns : List Node} → View ns other

view-as : (f : Form) (us : List ℕ) (ns : List Node) → View (node f us ∷ ns) (newest_as f us ns)
view-as (processor n) us ns = sees_processor
view-as cache us ns = sees_other
view-as memory us ns = sees_other
view-as acpi us ns = sees_other
view-as pci us ns = sees_other
view-as old_rintc us ns = sees_other
view-as rintc us ns = sees_other
view-as domain us ns = sees_other
view-as (matrix i t) us ns = sees_matrix
view-as (side n) us ns = sees_side
view-as (bridge n) us ns = sees_other
view-as (window n) us ns = sees_window
view-as (xor n) us ns = sees_xor

pub view : (ns : List Node) → View ns (newest ns)
view [] = sees_other
view (n ∷ ns) = view-as n.form n.values ns

-- ---- the node of a kind that makes one

pub registers-below : (v : ℕ) → registers v < 256 ^ 8
unfolding registers
registers-below v = by (eqb v 0)
  where
    by : (x : Bool) → pick x 8192 65536 < 256 ^ 8
    by true = omega arith
    by false = omega arith

module _ (es : List Entry) (vs : List ℕ) where
  new-processor : Fit (body Processor) vs → refs_good (at_ordinal es) (body Processor) vs ≡ true → GoodNode pptt es (node (processor 0) vs)
  unfolding body layout ranges refs_good
  new-processor f h =
      record { own = refl; within = omega arith; fit = (fix-fit (omega arith), (fix-fit (omega arith), (fix-fit (omega arith), (f.0, (f.1.0, (f.1.1.0, (fix-fit (omega arith), f.1.1.1))))))); ruled = refl; refs = h }

  new-cache : Fit (body Cache) vs → all (ranges cache vs) ≡ true → refs_good (at_ordinal es) (body Cache) vs ≡ true → GoodNode pptt es (node cache vs)
  unfolding body layout refs_good
  new-cache f r h =
      record { own = refl; within = tt; fit = (fix-fit (omega arith), (fix-fit (omega arith), (fix-fit (omega arith), (wider (omega arith) f.0, f.1)))); ruled = r; refs = h }

  new-memory : Fit (body Memory) vs → all (ranges memory vs) ≡ true → GoodNode srat es (node memory vs)
  unfolding body layout refs_good
  new-memory f r =
      record { own = refl; within = tt; fit = (fix-fit (omega arith), (fix-fit (omega arith), (f.0, (fix-fit (omega arith), (f.1.0, (f.1.1.0, (fix-fit (omega arith), (wider (omega arith) f.1.1.1.0, (fix-fit (omega arith), f.1.1.1.1))))))))); ruled = r; refs = refl }

  new-acpi : Fit (body Acpi) vs → all (ranges acpi vs) ≡ true → GoodNode srat es (node acpi vs)
  unfolding body layout refs_good
  new-acpi f r =
      record { own = refl; within = tt; fit = (fix-fit (omega arith), (fix-fit (omega arith), (fix-fit (omega arith), (fix-fit (omega arith), (f.0, (f.1.0, (f.1.1.0, (fix-fit (omega arith), (wider (omega arith) f.1.1.1.0, (fix-fit (omega arith), f.1.1.1.1)))))))))); ruled = r; refs = refl }

  new-rintc : Fit (body Rintc) vs → all (ranges rintc vs) ≡ true → GoodNode srat es (node rintc vs)
  unfolding body layout refs_good
  new-rintc f r =
      record { own = refl; within = tt; fit = (fix-fit (omega arith), (fix-fit (omega arith), (fix-fit (omega arith), (f.0, (f.1.0, (wider (omega arith) f.1.1.0, f.1.1.1)))))); ruled = r; refs = refl }

  new-domain : Fit (body Domain) vs → GoodNode hmat es (node domain vs)
  unfolding body layout ranges refs_good
  new-domain f =
      record { own = refl; within = tt; fit = (fix-fit (omega arith), (fix-fit (omega arith), (fix-fit (omega arith), (fix-fit (omega arith), (fix-fit (omega arith), (f.0, (f.1.0, (zero-fit, f.1.1)))))))); ruled = refl; refs = refl }

  new-side : Fit (body Side) vs → all (ranges (side 0) vs) ≡ true → GoodNode hmat es (node (side 0) vs)
  unfolding body layout refs_good
  new-side f r =
      record { own = refl; within = omega arith; fit = (fix-fit (omega arith), (fix-fit (omega arith), (fix-fit (omega arith), (f.0, (fix-fit (omega arith), (f.1.0, (f.1.1.0, (fix-fit (omega arith), (fix-fit (omega arith), f.1.1.1))))))))); ruled = r; refs = refl }

  new-bridge : Fit (body Bridge) vs → all (ranges (bridge (registers (at vs 1))) vs) ≡ true → GoodNode cedt es (node (bridge (registers (at vs 1))) vs)
  unfolding body layout refs_good
  new-bridge f r =
      let b : at vs 1 < 256 ^ 1 = rw (second vs) f.1.0.below in
      record { own = refl; within = (omega arith, refl); fit = (fix-fit (omega arith), (fix-fit (omega arith), (fix-fit (omega arith), (f.0, (wider (omega arith) f.1.0, (fix-fit (omega arith), (f.1.1.0, (fix-fit (registers-below (at vs 1)), f.1.1.1)))))))); ruled = r; refs = refl }

  new-xor : Fit (body Xor) vs → all (ranges (xor 0) vs) ≡ true → GoodNode cedt es (node (xor 0) vs)
  unfolding body layout refs_good
  new-xor f r =
      record { own = refl; within = omega arith; fit = (fix-fit (omega arith), (fix-fit (omega arith), (fix-fit (omega arith), (fix-fit (omega arith), (f.0, (fix-fit (omega arith), f.1)))))); ruled = r; refs = refl }

-- six fields, taken apart
new-pci : (es : List Entry) (vs : List ℕ) → length vs ≡ 6 → Fit (body Pci) vs → all (ranges pci vs) ≡ true → GoodNode srat es (node pci vs)
unfolding body layout ranges refs_good
new-pci es [] l f r = absurd (omega arith)
new-pci es (a ∷ []) l f r = absurd (omega arith)
new-pci es (a ∷ b ∷ []) l f r = absurd (omega arith)
new-pci es (a ∷ b ∷ c ∷ []) l f r = absurd (omega arith)
new-pci es (a ∷ b ∷ c ∷ d ∷ []) l f r = absurd (omega arith)
new-pci es (a ∷ b ∷ c ∷ d ∷ e ∷ []) l f r = absurd (omega arith)
new-pci es (a ∷ b ∷ c ∷ d ∷ e ∷ x ∷ vs) l f r =
    let p = both_true (leb d 31) (both (leb e 7) (leb x 3)) r in
    let q = both_true (leb e 7) (leb x 3) p.1 in
    let m : d ≤ 31 = leb-true d 31 p.0 in
    let k : e ≤ 7 = leb-true e 7 q.0 in
    record { own = refl; within = tt; fit = (fix-fit (omega arith), (fix-fit (omega arith), (fix-fit (omega arith), (fix-fit (omega arith), (f.0, (f.1.0, (f.1.1.0, (record { there = omega arith; below = omega arith; low = omega arith }, (fix-fit (omega arith), (wider (omega arith) f.1.1.1.1.1.0, (fix-fit (omega arith), f.1.1.1.1.1.1))))))))))); ruled = r; refs = refl }

new-matrix : (w : Width) (es : List Entry) (vs : List ℕ) → length vs ≡ 6 → Fit (body (Matrix w)) vs → all (ranges (matrix (at vs 4) (at vs 5)) vs) ≡ true → GoodNode hmat es (node (matrix (at vs 4) (at vs 5)) (unset (at vs 4) (at vs 5) vs))
unfolding body layout ranges refs_good unset
new-matrix w es [] l f r = absurd (omega arith)
new-matrix w es (a ∷ []) l f r = absurd (omega arith)
new-matrix w es (a ∷ b ∷ []) l f r = absurd (omega arith)
new-matrix w es (a ∷ b ∷ c ∷ []) l f r = absurd (omega arith)
new-matrix w es (a ∷ b ∷ c ∷ d ∷ []) l f r = absurd (omega arith)
new-matrix w es (a ∷ b ∷ c ∷ d ∷ i ∷ []) l f r = absurd (omega arith)
new-matrix w es (a ∷ b ∷ c ∷ d ∷ i ∷ t ∷ vs) l f r =
    let p = (both_true (matrix_flags a) _ r).1 in
    let q = both_true (leb i most) (leb t most) (both_true (leb c 11) _ (both_true (leb b 5) _ p).1).1 in
    let wi : i ≤ most = leb-true i most q.0 in
    let wt : t ≤ most = leb-true t most q.1 in
    record {
      own = refl;
      within = (wi, wt);
      fit = (fix-fit (omega arith), (fix-fit (omega arith), (fix-fit (size_below (matrix i t) (a ∷ b ∷ c ∷ d ∷ i ∷ t ∷ vs) (wi, wt)), (fld-fit f.0.below, (fld-fit f.1.0.below, (fld-fit f.1.1.0.below, (fix-fit (omega arith), (fix-fit (omega arith), (fix-fit (omega arith), (fix-fit (omega arith), (fld-fit f.1.1.1.0.below, fit_append (replicate (i + t) (fld 4)) (replicate (i * t) (fld 2)) (replicate (i + t) 0) (replicate (i * t) 65535) (fit_same (i + t) 4 0 (omega arith)) (fit_same (i * t) 2 65535 (omega arith)))))))))))));
      ruled = r;
      refs = plain-good (at_ordinal es) (replicate (i + t) (fld 4) ++ replicate (i * t) (fld 2)) _ (plain-matrix i t);
    }

-- ---- the node of a kind that joins one

module _ (es : List Entry) (n : ℕ) (us vs : List ℕ) where
  more-processor : GoodNode pptt es (node (processor n) us) → Fit (body Resource) vs → refs_good (at_ordinal es) (body Resource) vs ≡ true → suc n ≤ 58
      → GoodNode pptt es (node (processor (suc n)) (us ++ vs))
  unfolding body layout ranges refs_good
  more-processor g f h w =
      let z = fit_append (layout (processor n)) (to 1 ∷ []) us vs g.fit f in
      let y : Fit (to 1 ∷ replicate n (to 1)) (drop 1 (drop 1 (drop 1 (us ++ vs)))) = rw (replicate-snoc n (to 1)) at z.1.1.1.1.1.1.1 in
      let r : refs_good (at_ordinal es) (layout (processor n) ++ (to 1 ∷ [])) (us ++ vs) ≡ true = good-append (at_ordinal es) (layout (processor n)) (to 1 ∷ []) us vs (fit_length (layout (processor n)) us g.fit) g.refs h in
      record {
        own = refl;
        within = w;
        fit = (fix-fit (omega arith), (fix-fit (omega arith), (fix-fit (omega arith), (z.1.1.1.0, (z.1.1.1.1.0, (z.1.1.1.1.1.0, (fix-fit (omega arith), y)))))));
        ruled = refl;
        refs = rw (replicate-snoc n (to 1)) at r;
      }

  more-side : GoodNode hmat es (node (side n) us) → Fit (body Handle) vs → suc n ≤ 65535 → GoodNode hmat es (node (side (suc n)) (us ++ vs))
  unfolding body layout ranges refs_good
  more-side g f w =
      let z = fit_append (layout (side n)) (fld 2 ∷ []) us vs g.fit f in
      let y : Fit (fld 2 ∷ replicate n (fld 2)) (drop 1 (drop 1 (drop 1 (us ++ vs)))) = rw (replicate-snoc n (fld 2)) at z.1.1.1.1.1.1.1.1.1 in
      let l : length us ≡ arities (layout (side n)) = fit_length (layout (side n)) us g.fit in
      let e : at (us ++ vs) 2 ≡ at us 2 = get_or-append us vs 0 2 (omega arith) in
      record {
        own = refl;
        within = w;
        fit = (fix-fit (omega arith), (fix-fit (omega arith), (fix-fit (omega arith), (z.1.1.1.0, (fix-fit (omega arith), (z.1.1.1.1.1.0, (z.1.1.1.1.1.1.0, (fix-fit (omega arith), (fix-fit (omega arith), y)))))))));
        ruled = rw e g.ruled;
        refs = plain-good (at_ordinal es) (fld 2 ∷ replicate n (fld 2)) (drop 1 (drop 1 (drop 1 (us ++ vs)))) (plain-fld n 2);
      }

  more-xor : GoodNode cedt es (node (xor n) us) → Fit (body Map) vs → suc n ≤ 255 → GoodNode cedt es (node (xor (suc n)) (us ++ vs))
  unfolding body layout ranges refs_good
  more-xor g f w =
      let z = fit_append (layout (xor n)) (fld 8 ∷ []) us vs g.fit f in
      let y : Fit (fld 8 ∷ replicate n (fld 8)) (drop 1 (us ++ vs)) = rw (replicate-snoc n (fld 8)) at z.1.1.1.1.1.1 in
      let l : length us ≡ arities (layout (xor n)) = fit_length (layout (xor n)) us g.fit in
      let e : at (us ++ vs) 0 ≡ at us 0 = get_or-append us vs 0 0 (omega arith) in
      record {
        own = refl;
        within = w;
        fit = (fix-fit (omega arith), (fix-fit (omega arith), (fix-fit (omega arith), (fix-fit (omega arith), (z.1.1.1.1.0, (fix-fit (omega arith), y))))));
        ruled = rw e g.ruled;
        refs = plain-good (at_ordinal es) (fld 8 ∷ replicate n (fld 8)) (drop 1 (us ++ vs)) (plain-fld n 8);
      }

-- ---- a window, target by target

-- the layout of a window of n ways as far as its first k targets
abbrev upto : ℕ → ℕ → List Item
upto n k = middle (window n) (fix 4 0 ∷ fld 8 ∷ fld 8 ∷ fld 1 ∷ fld 1 ∷ fix 2 0 ∷ fld 4 ∷ fld 2 ∷ fld 2 ∷ replicate k (fld 4))

-- what holds of its fields then
pub record Growing (n k : ℕ) (us : List ℕ) : Type 0 where
  pub within : Within (window n) us
  pub fit : Fit (upto n k) us
  pub ruled : all (ranges (window n) us) ≡ true
  pub few : k ≤ n

upto-length : (n k : ℕ) (us : List ℕ) → Fit (upto n k) us → length us ≡ 7 + k
upto-length n k us f = omega (arith, fit_length (upto n k) us f, arities-same k 4)

growing-length : (n k : ℕ) (us : List ℕ) → Growing n k us → length us ≡ 7 + k
growing-length n k us g = upto-length n k us g.fit

window-size : (n : ℕ) (vs : List ℕ) → Within (window n) vs → size (window n) < 256 ^ 2
window-size n vs w = omega (arith, few-ways (at vs 2), w.1)

new-window : (vs : List ℕ) → Fit (body Window) vs → all (ranges (window (ways (at vs 2))) vs) ≡ true → Growing (ways (at vs 2)) 0 vs
unfolding body ranges
new-window vs f r =
    let n = ways (at vs 2) in
    let b : at vs 2 < 256 ^ 1 = rw (third vs) f.1.1.0.below in
    let z = both_true (ltb 0 n) _ r in
    let w : Within (window n) vs = (b, refl, ltb-true 0 n z.0) in
    record {
      within = w;
      fit = (fix-fit (omega arith), (fix-fit (omega arith), (fix-fit (window-size n vs w), (fix-fit (omega arith), (f.0, (f.1.0, (f.1.1.0, (f.1.1.1.0, (fix-fit (omega arith), (wider (omega arith) f.1.1.1.1.0, (wider (omega arith) f.1.1.1.1.1.0, (f.1.1.1.1.1.1.0, f.1.1.1.1.1.1.1))))))))))));
      ruled = r;
      few = omega arith;
    }

more-window : (n k : ℕ) (us vs : List ℕ) → Growing n k us → Fit (body WindowTarget) vs → suc k ≤ n → Growing n (suc k) (us ++ vs)
unfolding body ranges
more-window n k us vs g f w =
    let l = growing-length n k us g in
    let z = fit_append (upto n k) (fld 4 ∷ []) us vs g.fit f in
    let q = z.1.1.1.1.1.1.1.1.1.1.1.1 in
    let y : Fit (fld 4 ∷ replicate k (fld 4)) (drop 1 (drop 1 (drop 1 (drop 1 (drop 1 (drop 1 (drop 1 (us ++ vs)))))))) = rw (replicate-snoc k (fld 4)) at q in
    let same : (i : ℕ) → i < 7 → at (us ++ vs) i ≡ at us i = λ i h. get_or-append us vs 0 i (omega arith) in
    record {
      within = rw (same 2 (omega arith)) g.within;
      fit = (z.0, (z.1.0, (z.1.1.0, (z.1.1.1.0, (z.1.1.1.1.0, (z.1.1.1.1.1.0, (z.1.1.1.1.1.1.0, (z.1.1.1.1.1.1.1.0, (z.1.1.1.1.1.1.1.1.0, (z.1.1.1.1.1.1.1.1.1.0, (z.1.1.1.1.1.1.1.1.1.1.0, (z.1.1.1.1.1.1.1.1.1.1.1.0, y))))))))))));
      ruled = rw (same 2 (omega arith), same 3 (omega arith), same 4 (omega arith), same 5 (omega arith)) g.ruled;
      few = w;
    }

all_there : (es : List Entry) (n : ℕ) (us : List ℕ) → Growing n n us → GoodNode cedt es (node (window n) us)
unfolding layout refs_good
all_there es n us g = record { own = refl; within = g.within; fit = g.fit; ruled = g.ruled; refs = plain-good (at_ordinal es) (upto n n) us (plain-fld n 4) }

-- ---- nodes of which the newest may lack entries

-- the newest is a window with some of its targets
abbrev Part : Table → List Node → Type 0
Part t [] = ⊥
Part t (x ∷ ns) = (n : ℕ) × (k : ℕ) × (t ≡ cedt) × (x.form ≡ window n) × Growing n k x.values × Good t ns

abbrev pub Grown : Table → List Node → Type 0
Grown t ns = Good t ns ⊎ Part t ns

-- of another table they are good
pub grown-good : (t : Table) (ns : List Node) → (t ≡ cedt → ⊥) → Grown t ns → Good t ns
grown-good t ns w (inl g) = g
grown-good t [] w (inr p) = absurd p
grown-good t (x ∷ ns) w (inr (n, k, own, f, g, rest)) = absurd (w own)

-- a window has its seven fields at least
pub window-begun : (t : Table) (n : ℕ) (us : List ℕ) (ns : List Node) → Grown t (node (window n) us ∷ ns) → 7 ≤ length us
unfolding layout
window-begun t n us ns (inl g) = omega (arith, upto-length n n us g.0.fit)
window-begun t n us ns (inr (m, k, own, f, g, rest)) = omega (arith, growing-length m k us g)

-- and 16 targets at most
pub few-targets : (n : ℕ) (us : List ℕ) (ns : List Node) → Grown cedt (node (window n) us ∷ ns) → n ≤ 16
few-targets n us ns (inl g) = omega (arith, few-ways (at us 2), g.0.within.1)
few-targets n us ns (inr (m, k, own, f, g, rest)) =
    let e : 36 + 4 * n ≡ 36 + 4 * m = ap size f in
    omega (arith, few-ways (at us 2), g.within.1)

-- maths have a field for each map, and one before
pub maths-fields : (n : ℕ) (us : List ℕ) (ns : List Node) → Grown cedt (node (xor n) us ∷ ns) → length us ≡ 1 + n
unfolding layout
maths-fields n us ns (inl g) = omega (arith, fit_length (layout (xor n)) us g.0.fit, arities-same n 8)
maths-fields n us ns (inr (m, k, own, f, g, rest)) = absurd (let z : type_of (xor n) ≡ type_of (window m) = ap type_of f in omega arith)

-- a list that needs no entry lacks none
pub needless : (j : Kind) (most n : ℕ) (f : Form) (us : List ℕ) (ns : List Node) (o : Option Kind) → lacking (a_list j 0 most n f us ns) o ≡ 0
unfolding lacking
needless j most n f us ns o = rw (le-ltb n 0 (omega arith))

-- a window with all its targets lacks none
lacks-none : (n : ℕ) (us : List ℕ) (ns : List Node) (o : Option Kind) → length us ≡ 7 + n → lacking (newest_as (window n) us ns) o ≡ 0
unfolding lacking
lacks-none n us ns o l = rw (le-ltb (length us - 7) n (omega arith))

good-whole : (t : Table) {ns : List Node} {x : Newest} → View ns x → (o : Option Kind) → Good t ns → lacking x o ≡ 0
unfolding lacking layout
good-whole t (sees_processor {n} {us} {ns}) o g = needless Resource 58 n (processor (suc n)) us ns o
good-whole t sees_matrix o g = refl
good-whole t (sees_side {n} {us} {ns}) o g = needless Handle 65535 n (side (suc n)) us ns o
good-whole t (sees_window {n} {us} {ns}) o g = lacks-none n us ns o (upto-length n n us g.0.fit)
good-whole t (sees_xor {n} {us} {ns}) o g = needless Map 255 n (xor (suc n)) us ns o
good-whole t sees_other o g = refl

-- good nodes lack nothing, whatever comes
pub good-lacks : (t : Table) (ns : List Node) → Good t ns → (o : Option Kind) → lacking (newest ns) o ≡ 0
good-lacks t ns g o = good-whole t (view ns) o g

-- where something else comes and nothing is lacking, the nodes are good
pub whole-good : (t : Table) (ns : List Node) (o : Option Kind) → is_kind WindowTarget o ≡ false → lacking (newest ns) o ≡ 0 → Grown t ns → Good t ns
unfolding lacking
whole-good t ns o i e (inl g) = g
whole-good t [] o i e (inr p) = absurd p
whole-good t (x ∷ ns) o i e (inr (n, k, own, f, w, g)) = by (ltb (length x.values - 7) n) refl d
  where
    d : ◌≡◌ {A = ℕ} (pick (both (ltb (length x.values - 7) n) true) 11 0) 0
    d = rw (f, i) at e

    by : (y : Bool) → ltb (length x.values - 7) n ≡ y → ◌≡◌ {A = ℕ} (pick (both y true) 11 0) 0 → Good t (x ∷ ns)
    by true q e = absurd (omega arith)
    by false q e =
        let l = growing-length n k x.values w in
        let z : k ≡ n = omega (arith, w.few, ltb-false (length x.values - 7) n q) in
        (rw (own, f) (all_there (starts cedt ns) n x.values (rw z at w)), g)

-- ---- a setting of a matrix

-- the fields behind the first four, when one of them is set
abbrev Settable : ℕ → ℕ → ℕ → ℕ → Type 0
Settable i t k v = (us : List ℕ) → Fit (replicate (i + t) (fld 4) ++ replicate (i * t) (fld 2)) us → Fit (replicate (i + t) (fld 4) ++ replicate (i * t) (fld 2)) (set us k v)

set-matrix : (es : List Entry) (i t : ℕ) (us : List ℕ) (k v : ℕ) → Settable i t k v
    → GoodNode hmat es (node (matrix i t) us) → GoodNode hmat es (node (matrix i t) (set us (suc (suc (suc (suc k)))) v))
unfolding layout ranges refs_good
set-matrix es i t [] k v s g = g
set-matrix es i t (a ∷ []) k v s g = g
set-matrix es i t (a ∷ b ∷ []) k v s g = g
set-matrix es i t (a ∷ b ∷ c ∷ []) k v s g = g
set-matrix es i t (a ∷ b ∷ c ∷ d ∷ us) k v s g =
    let f = g.fit in
    record {
      own = refl;
      within = g.within;
      fit = (fix-fit f.0.below, (fix-fit f.1.0.below, (fix-fit f.1.1.0.below, (fld-fit f.1.1.1.0.below, (fld-fit f.1.1.1.1.0.below, (fld-fit f.1.1.1.1.1.0.below, (fix-fit f.1.1.1.1.1.1.0.below, (fix-fit f.1.1.1.1.1.1.1.0.below, (fix-fit f.1.1.1.1.1.1.1.1.0.below, (fix-fit f.1.1.1.1.1.1.1.1.1.0.below, (fld-fit f.1.1.1.1.1.1.1.1.1.1.0.below, s us f.1.1.1.1.1.1.1.1.1.1.1)))))))))));
      ruled = g.ruled;
      refs = plain-good (at_ordinal es) (replicate (i + t) (fld 4) ++ replicate (i * t) (fld 2)) _ (plain-matrix i t);
    }

module _ (es : List Entry) (i t : ℕ) (us : List ℕ) (g : GoodNode hmat es (node (matrix i t) us)) where
  set_value : (j v : ℕ) → j < i + t → v < 256 ^ 4 → GoodNode hmat es (node (matrix i t) (set us (4 + j) v))
  set_value j v l b =
      let e : 4 + j ≡ suc (suc (suc (suc j))) = omega arith in
      rw e (set-matrix es i t us j v (λ ws. set_front (i + t) 4 (replicate (i * t) (fld 2)) ws j v l b) g)

  set-target : (j v : ℕ) → j < t → v < 256 ^ 4 → GoodNode hmat es (node (matrix i t) (set us (4 + i + j) v))
  set-target j v l b =
      let e : 4 + i + j ≡ 4 + (i + j) = omega arith in
      rw e (set_value (i + j) v (omega arith) b)

  set-cell : (j k v : ℕ) → v < 256 ^ 2 → GoodNode hmat es (node (matrix i t) (set us (4 + i + t + j * t + k) v))
  set-cell j k v b =
      let e : 4 + i + t + j * t + k ≡ suc (suc (suc (suc (i + t + (j * t + k))))) = omega arith in
      rw e (set-matrix es i t us (i + t + (j * t + k)) v (λ ws. set-behind (i + t) 4 (i * t) 2 ws (j * t + k) v b) g)

-- ---- all kinds

-- the table that a kind belongs to
abbrev pub kind_home : Kind → Table
kind_home Processor = pptt
kind_home Resource = pptt
kind_home Cache = pptt
kind_home Memory = srat
kind_home Acpi = srat
kind_home Pci = srat
kind_home Rintc = srat
kind_home Domain = hmat
kind_home (Matrix w) = hmat
kind_home (Initiator w) = hmat
kind_home (Target w) = hmat
kind_home (Cell w) = hmat
kind_home Side = hmat
kind_home Handle = hmat
kind_home Bridge = cedt
kind_home Window = cedt
kind_home WindowTarget = cedt
kind_home Xor = cedt
kind_home Map = cedt

-- the kind of a number, whatever its table
numbered : ℕ → Option Kind
numbered b = find (λ k. eqb b (kind_number k)) (Processor ∷ Resource ∷ Cache ∷ Memory ∷ Acpi ∷ Pci ∷ Rintc ∷ Domain ∷ Matrix byte ∷ Initiator byte ∷ Target byte ∷ Cell byte ∷ Side ∷ Handle ∷ Matrix pair ∷ Initiator pair ∷ Target pair ∷ Cell pair ∷ Bridge ∷ Window ∷ WindowTarget ∷ Xor ∷ Map ∷ [])

number-back : (k : Kind) → numbered (kind_number k) ≡ some k
unfolding numbered
number-back Processor = refl
number-back Resource = refl
number-back Cache = refl
number-back Memory = refl
number-back Acpi = refl
number-back Pci = refl
number-back Rintc = refl
number-back Domain = refl
number-back (Matrix byte) = refl
number-back (Matrix pair) = refl
number-back (Initiator byte) = refl
number-back (Initiator pair) = refl
number-back (Target byte) = refl
number-back (Target pair) = refl
number-back (Cell byte) = refl
number-back (Cell pair) = refl
number-back Side = refl
number-back Handle = refl
number-back Bridge = refl
number-back Window = refl
number-back WindowTarget = refl
number-back Xor = refl
number-back Map = refl

-- no kind has a number that is retired
pub none-retired : (k : Kind) → kind_number k ≡ 35 → ⊥
unfolding numbered
none-retired k e = let i : none ≡ some k = rw e at (number-back k) in let z : ◌≡◌ {A = ℕ} 0 1 = cc in omega arith

pub kind-number : (k j : Kind) → kind_number k ≡ kind_number j → k ≡ j
kind-number k j e = let i : some k ≡ some j = sym (number-back k) ∙ (ap numbered e ∙ number-back j) in cc

module _ (vs : List ℕ) where
  join-resource : {ns : List Node} {x : Newest} → View ns x → (joined Resource vs x).placed ≡ true → (joined Resource vs x).full ≡ false
      → refs_good (at_ordinal (starts pptt (joined Resource vs x).earlier)) (body Resource) vs ≡ true → Fit (body Resource) vs → Good pptt ns → Good pptt (joined Resource vs x).nodes
  unfolding joined
  join-resource (sees_processor {n} {us} {ns}) p r q f g = (more-processor (starts pptt ns) n us vs g.0 f q (omega (arith, leb-false 58 n r)), g.1)
  join-resource sees_matrix p r q f g = never p
  join-resource sees_side p r q f g = never p
  join-resource sees_window p r q f g = never p
  join-resource sees_xor p r q f g = never p
  join-resource sees_other p r q f g = never p

  join-handle : {ns : List Node} {x : Newest} → View ns x → (joined Handle vs x).placed ≡ true → (joined Handle vs x).full ≡ false → Fit (body Handle) vs → Good hmat ns → Good hmat (joined Handle vs x).nodes
  unfolding joined
  join-handle sees_processor p r f g = never p
  join-handle sees_matrix p r f g = never p
  join-handle (sees_side {n} {us} {ns}) p r f g = (more-side (starts hmat ns) n us vs g.0 f (omega (arith, leb-false 65535 n r)), g.1)
  join-handle sees_window p r f g = never p
  join-handle sees_xor p r f g = never p
  join-handle sees_other p r f g = never p

  join-map : {ns : List Node} {x : Newest} → View ns x → (joined Map vs x).placed ≡ true → (joined Map vs x).full ≡ false → Fit (body Map) vs → Good cedt ns → Good cedt (joined Map vs x).nodes
  unfolding joined
  join-map sees_processor p r f g = never p
  join-map sees_matrix p r f g = never p
  join-map sees_side p r f g = never p
  join-map sees_window p r f g = never p
  join-map (sees_xor {n} {us} {ns}) p r f g = (more-xor (starts cedt ns) n us vs g.0 f (omega (arith, leb-false 255 n r)), g.1)
  join-map sees_other p r f g = never p

  -- a good window takes no target more
  target_more : (n : ℕ) (us : List ℕ) (ns : List Node) → leb n (length us - 7) ≡ false → Fit (body WindowTarget) vs → Grown cedt (node (window n) us ∷ ns) → Part cedt (node (window n) (us ++ vs) ∷ ns)
  unfolding layout
  target_more n us ns r f (inl g) = absurd (omega (arith, leb-false n (length us - 7) r, upto-length n n us g.0.fit))
  target_more n us ns r f (inr (m, k, own, i, w, g)) =
      let e : n ≡ m = cc in
      let w' : Growing n k us = rw e w in
      (n, suc k, refl, refl, more-window n k us vs w' f (omega (arith, leb-false n (length us - 7) r, growing-length n k us w')), g)

  join-target : {ns : List Node} {x : Newest} → View ns x → (joined WindowTarget vs x).placed ≡ true → (joined WindowTarget vs x).full ≡ false → Fit (body WindowTarget) vs → Grown cedt ns → Part cedt (joined WindowTarget vs x).nodes
  unfolding joined
  join-target sees_processor p r f g = never p
  join-target sees_matrix p r f g = never p
  join-target sees_side p r f g = never p
  join-target (sees_window {n} {us} {ns}) p r f g = target_more n us ns r f g
  join-target sees_xor p r f g = never p
  join-target sees_other p r f g = never p

-- a setting is good where it sets a field of a good matrix to a number that fits
join-setting : (tests : ℕ → ℕ → List Bool) (field : ℕ → ℕ → ℕ) (v : ℕ)
    → ((es : List Entry) (i t : ℕ) (us : List ℕ) → GoodNode hmat es (node (matrix i t) us) → all (tests i t) ≡ true → GoodNode hmat es (node (matrix i t) (set us (field i t) v)))
    → {ns : List Node} {x : Newest} → View ns x → (setting tests field v x).placed ≡ true → all (setting tests field v x).ranges ≡ true → Good hmat ns → Good hmat (setting tests field v x).nodes
unfolding setting
join-setting tests field v sets sees_processor p r g = never p
join-setting tests field v sets sees_window p r g = never p
join-setting tests field v sets sees_xor p r g = never p
join-setting tests field v sets (sees_matrix {i} {t} {us} {ns}) p r g = (sets (starts hmat ns) i t us g.0 r, g.1)
join-setting tests field v sets sees_side p r g = never p
join-setting tests field v sets sees_other p r g = never p

module _ (w : Width) (vs : List ℕ) (ns : List Node) where
  grows-initiator : Fit (body (Initiator w)) vs → Passed hmat ns (Initiator w) vs → Good hmat ns → Good hmat (added (Initiator w) vs ns)
  unfolding step body
  grows-initiator f p g =
      let b : at vs 1 < 256 ^ 4 = rw (second vs) f.1.0.below in
      join-setting (λ i t. ltb (at vs 0) i ∷ []) (λ i t. 4 + at vs 0) (at vs 1)
      (λ es i t us h r. let l : at vs 0 < i = ltb-true (at vs 0) i r in set_value es i t us h (at vs 0) (at vs 1) (omega arith) b)
      (view ns) p.place p.field g

  grows-target : Fit (body (Target w)) vs → Passed hmat ns (Target w) vs → Good hmat ns → Good hmat (added (Target w) vs ns)
  unfolding step body
  grows-target f p g =
      let b : at vs 1 < 256 ^ 4 = rw (second vs) f.1.0.below in
      join-setting (λ i t. ltb (at vs 0) t ∷ []) (λ i t. 4 + i + at vs 0) (at vs 1)
      (λ es i t us h r. set-target es i t us h (at vs 0) (at vs 1) (ltb-true (at vs 0) t r) b)
      (view ns) p.place p.field g

  grows-cell : Fit (body (Cell w)) vs → Passed hmat ns (Cell w) vs → Good hmat ns → Good hmat (added (Cell w) vs ns)
  unfolding step body
  grows-cell f p g =
      let b : at vs 2 < 256 ^ 2 = rw (third vs) f.1.1.0.below in
      join-setting (λ i t. ltb (at vs 0) i ∷ ltb (at vs 1) t ∷ []) (λ i t. 4 + i + t + at vs 0 * t + at vs 1) (at vs 2)
      (λ es i t us h r. set-cell es i t us h (at vs 0) (at vs 1) (at vs 2) b)
      (view ns) p.place p.field g

-- behind good nodes
grows-good : (k : Kind) (vs : List ℕ) (ns : List Node) → Fit (body k) vs → Passed (kind_home k) ns k vs → Good (kind_home k) ns → Grown (kind_home k) (added k vs ns)
unfolding step body
grows-good Processor vs ns f p g = inl (new-processor (starts pptt ns) vs f p.refs, g)
grows-good Resource vs ns f p g = inl (join-resource vs (view ns) p.place p.room p.refs f g)
grows-good Cache vs ns f p g = inl (new-cache (starts pptt ns) vs f p.field p.refs, g)
grows-good Memory vs ns f p g = inl (new-memory (starts srat ns) vs f p.field, g)
grows-good Acpi vs ns f p g = inl (new-acpi (starts srat ns) vs f p.field, g)
grows-good Pci vs ns f p g = inl (new-pci (starts srat ns) vs (fit_length (body Pci) vs f) f p.field, g)
grows-good Rintc vs ns f p g = inl (new-rintc (starts srat ns) vs f p.field, g)
grows-good Domain vs ns f p g = inl (new-domain (starts hmat ns) vs f, g)
grows-good (Matrix w) vs ns f p g = inl (new-matrix w (starts hmat ns) vs (fit_length (body (Matrix w)) vs f) f p.field, g)
grows-good (Initiator w) vs ns f p g = inl (grows-initiator w vs ns f p g)
grows-good (Target w) vs ns f p g = inl (grows-target w vs ns f p g)
grows-good (Cell w) vs ns f p g = inl (grows-cell w vs ns f p g)
grows-good Side vs ns f p g = inl (new-side (starts hmat ns) vs f p.field, g)
grows-good Handle vs ns f p g = inl (join-handle vs (view ns) p.place p.room f g)
grows-good Bridge vs ns f p g = inl (new-bridge (starts cedt ns) vs f p.field, g)
grows-good Window vs ns f p g = inr (ways (at vs 2), 0, refl, refl, new-window vs f p.field, g)
grows-good WindowTarget vs ns f p g = inr (join-target vs (view ns) p.place p.room f (inl g))
grows-good Xor vs ns f p g = inl (new-xor (starts cedt ns) vs f p.field, g)
grows-good Map vs ns f p g = inl (join-map vs (view ns) p.place p.room f g)

-- a target may come behind a window that lacks one
grows-window : (vs : List ℕ) (ns : List Node) → Fit (body WindowTarget) vs → Passed cedt ns WindowTarget vs → Grown cedt ns → Grown cedt (added WindowTarget vs ns)
unfolding step
grows-window vs ns f p g = inr (join-target vs (view ns) p.place p.room f g)

pub grows : (k : Kind) (vs : List ℕ) (ns : List Node) → Fit (body k) vs → Passed (kind_home k) ns k vs → lacking (newest ns) (some k) ≡ 0 → Grown (kind_home k) ns → Grown (kind_home k) (added k vs ns)
grows k vs ns f p e g = by (is_kind WindowTarget (some k)) refl
  where
    by : (x : Bool) → is_kind WindowTarget (some k) ≡ x → Grown (kind_home k) (added k vs ns)
    by true q =
        let i : k ≡ WindowTarget = kind-number k WindowTarget (eqb-true (kind_number k) 66 q) in
        rw i (grows-window vs ns (rw i at f) (rw i at p) (rw i at g))
    by false q = grows-good k vs ns f p (whole-good (kind_home k) ns (some k) q e g)
