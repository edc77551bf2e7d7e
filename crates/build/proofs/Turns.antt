-- One record, kind by kind: what the code writes is the table of the nodes with it, and what changes there is what the code says.
use mathlib.Core.Path.{◌≡◌, refl, sym, ap, ◌∙◌}
use Prim.Native.Nat.{ℕ, zero, suc, ◌+◌, ◌-◌, ◌*◌, ◌%◌, ◌≤◌, ◌<◌}
use mathlib.Core.List.{List, [], ◌∷◌, ◌++◌, append_assoc, append-nil}
use mathlib.Core.Bool.{Bool, true, false}
use native.Mathlib.Omega.{arith}
use native.Mathlib.Nat.{zero-add}
use native.Mathlib.Numerals.{add-one}
use lib.ListN.{length, take, drop, set, replicate, length-append, length-drop, take-append-drop}
use lib.Seq.{drop-drop, length-take-le}
use lib.Dec.{ltb}
use borrow.Author.Tests.{leb-false, ltb-true}
use Rattle.format.specs.Bytes.{all, at, le, part, over}
use Rattle.format.specs.Layout.{Item, fld, to, wide, as_is, arity, arities, number_with, lay_with, refs_good}
use Rattle.format.specs.Table.{Table, pptt, srat, hmat, cedt, front, limit}
use Rattle.format.specs.Form.{processor, cache, memory, acpi, pci, rintc, domain, matrix, side, bridge, window, xor, registers, ways, size, layout}
use Rattle.format.specs.Node.{Node, node, bytes, sizes, starts, at_ordinal, place_of}
use Rattle.format.specs.Kind.{Kind, Processor, Resource, Cache, Memory, Acpi, Pci, Rintc, Domain, Matrix, Initiator, Target, Cell, Side, Handle, Bridge, Window, WindowTarget, Xor, Map, body}
use Rattle.format.specs.Recipe.{Newest, newest, joined, setting, step, added}
use Rattle.format.specs.Build.{records}
use Rattle.laws.specs.Settings.{Setting, initiator, target, cell, spot, set_to}
use Rattle.laws.proofs.Finds.{never}
use Rattle.laws.proofs.Bytes.{length-le, length_over, length_part, over-fits, over-all, over-next}
use Rattle.laws.proofs.Over.{over-right, over-left, over-within}
use Rattle.laws.proofs.Lays.{Fit, fit_length, both_true}
use Rattle.laws.proofs.Joins.{lay-append}
use Rattle.laws.proofs.Nodes.{length-bytes}
use Rattle.laws.proofs.Links.{few-nodes}
use Rattle.laws.proofs.Fits.{replicate-snoc}
use Rattle.laws.proofs.Shapes.{plain-fld, plain-matrix}
use Rattle.laws.proofs.Fields.{bytes-plain}
use Rattle.laws.proofs.Heads.{length-records}
use Rattle.laws.proofs.Good.{Good}
use Rattle.laws.proofs.Grows.{View, sees_processor, sees_matrix, sees_side, sees_window, sees_xor, sees_other, view, Passed, Grown, grown-good, window-begun, few-targets, maths-fields, kind_home}
use Rattle.laws.proofs.Builds.{other-table}
use Rattle.recipe.specs.Kinds.{naming}
use Rattle.pptt.specs.Processor as processors
use Rattle.hmat.specs.Hmat as sides
use Rattle.hmat.specs.Settings as matrices
use Rattle.hmat.proofs.Matrices.{entry-below, set-in-place}
use Rattle.hmat.proofs.Sides.{fields-all}
use Rattle.cedt.specs.Cedt as maths
use Rattle.cedt.proofs.Windows.{set-target}
use Rattle.writes.specs.declared.State.{State}
use Rattle.writes.specs.declared.Change.{Change}
use Rattle.writes.specs.declared.Found.{Found}
use Rattle.writes.specs.Writes.{next, capped, unset_matrix, making, growing, filling, setting_at, setting as setting-of, target_at, change_of, wrote}
use Rattle.build.specs.Write.{place_in}
use Rattle.build.specs.Held.{Counts, Placed}
use Rattle.build.proofs.Agrees.{pptt-agrees, named-place}

-- ---- before and after

-- the buffer holds nodes behind a front, and the numbers are theirs
pub record Laid (xs fs : List ℕ) (t : Table) (ns : List Node) (s : State) (out : List ℕ) : Type 0 where
  pub long : length fs ≡ front t
  pub ends : s.end ≡ front t + sizes ns
  pub place : s.latest.place ≡ front t + sizes (drop 1 ns)
  pub counts : Counts (newest ns) s.latest
  pub few : s.latest.count ≤ 65535
  pub counted : s.latest.nodes ≡ length ns
  pub good : Grown t ns
  pub short : front t + sizes ns ≤ limit
  pub room : front t + sizes ns ≤ length xs
  pub held : out ≡ over xs 0 (fs ++ records t ns)

-- some bytes in the table change, and some come at its end
pub record Turned (xs fs : List ℕ) (t : Table) (ns more : List Node) (c : Change) (out : List ℕ) : Type 0 where
  pub head : List ℕ
  pub old : List ℕ
  pub new : List ℕ
  pub kept : List ℕ
  pub tail : List ℕ
  pub was : fs ++ records t ns ≡ head ++ (old ++ kept)
  pub is : fs ++ records t more ≡ head ++ (new ++ (kept ++ tail))
  pub same : length new ≡ length old
  pub from : c.from ≡ length head
  pub len : c.len ≡ length old
  pub extra : c.more ≡ length tail
  pub place : c.latest.place ≡ front t + sizes (drop 1 more)
  pub counts : Counts (newest more) c.latest
  pub few : c.latest.count ≤ 65535
  pub counted : c.latest.nodes ≡ length more
  pub held : out ≡ over xs 0 (fs ++ records t more)

-- ---- a record is made

module _ {xs fs : List ℕ} {t : Table} {ns : List Node} {s : State} {out : List ℕ} (h : Laid xs fs t ns s out) where
  length-held : length (fs ++ records t ns) ≡ s.end
  length-held = rw (length-append, length-records) (omega (arith, h.long, h.ends))

  made : (f : ℕ → ℕ) (n : Node) (i j : ℕ) → Counts (newest (n ∷ ns)) (record { nodes = next s.latest.nodes; place = s.end; count = 0; initiators = i; targets = j }) → bytes f n ≡ bytes (place_of (starts t ns)) n
      → Turned xs fs t ns (n ∷ ns) (making s (size n.form) i j) (over out s.end (bytes f n))
  unfolding records
  made f n i j c e =
      let g = place_of (starts t ns) in
      let z = fs ++ records t ns in
      let l = length-held in
      record {
        head = z;
        old = [];
        new = [];
        kept = [];
        tail = bytes g n;
        was = sym (append-nil z);
        is = sym (append_assoc fs (records t ns) (bytes g n));
        same = refl;
        from = sym l;
        len = refl;
        extra = sym (length-bytes g n);
        place = h.ends;
        counts = c;
        few = omega arith;
        counted = omega (arith, h.counted, few-nodes ns, h.short);
        held = over-next xs 0 z out s.end (bytes g n) (over out s.end (bytes f n)) h.held (rw e) (omega arith) ∙ ap (λ (l : List ℕ). over xs 0 l) (append_assoc fs (records t ns) (bytes g n));
      }

-- ---- the newest record changes

-- in its first node a becomes b: between what stands before and behind, old bytes become new ones, and some come at the end
changed : (xs fs : List ℕ) (t : Table) (ns : List Node) (a b : Node) (c : Change) (out : List ℕ) (ps old new kept tail : List ℕ)
    → length fs ≡ front t
    → bytes (place_of (starts t ns)) a ≡ ps ++ (old ++ kept) → bytes (place_of (starts t ns)) b ≡ ps ++ (new ++ (kept ++ tail)) → length new ≡ length old
    → c.from ≡ front t + sizes ns + length ps → c.len ≡ length old → c.more ≡ length tail
    → c.latest.place ≡ front t + sizes ns → Counts (newest (b ∷ ns)) c.latest → c.latest.count ≤ 65535 → c.latest.nodes ≡ suc (length ns)
    → out ≡ over xs 0 ((fs ++ records t ns) ++ bytes (place_of (starts t ns)) b)
    → Turned xs fs t (a ∷ ns) (b ∷ ns) c out
unfolding records
changed xs fs t ns a b c out ps old new kept tail long ea eb same from len extra place counts few counted held =
    let z = fs ++ records t ns in
    record {
      head = z ++ ps;
      old = old;
      new = new;
      kept = kept;
      tail = tail;
      was = rw ea (simp append_assoc);
      is = rw eb (simp append_assoc);
      same = same;
      from = rw (length-append, length-append, length-records) (omega arith);
      len = len;
      extra = extra;
      place = place;
      counts = counts;
      few = few;
      counted = counted;
      held = held ∙ ap (λ (l : List ℕ). over xs 0 l) (append_assoc fs (records t ns) (bytes (place_of (starts t ns)) b));
    }

-- ---- a list grows

arities-one : (n : ℕ) (i : Item) → arity i ≡ 1 → arities (replicate n i) ≡ n
arities-one zero i e = refl
arities-one (suc n) i e = rw (arities-one n i e, e) (omega arith)

lay-one : (g : ℕ → ℕ) (i : Item) (v : ℕ) → lay_with g (i ∷ []) (v ∷ []) ≡ le (wide i) (number_with g i (v ∷ []))
unfolding lay_with
lay-one g i v = append-nil (le (wide i) (number_with g i (v ∷ [])))

-- f: how many fields stand before the list
module _ (g : ℕ → ℕ) (i : Item) (one : arity i ≡ 1) (f n : ℕ) (us : List ℕ) (l : length us ≡ f + n) where
  first : length (take f us) ≡ f
  first = length-take-le f us (omega arith)

  rest : length (drop f us) ≡ arities (replicate n i)
  rest = rw (length-drop, arities-one n i one) (omega arith)

  list-was : (is : List Item) → arities is ≡ f → lay_with g (is ++ replicate n i) us ≡ lay_with g is (take f us) ++ lay_with g (replicate n i) (drop f us)
  list-was is a = ap (λ (l : List ℕ). lay_with g (is ++ replicate n i) l) (sym (take-append-drop f us)) ∙ lay-append g is (replicate n i) (take f us) (drop f us) (first ∙ sym a)

  list-is : (is : List Item) (v : ℕ) → arities is ≡ f
      → lay_with g (is ++ replicate (suc n) i) (us ++ (v ∷ [])) ≡ lay_with g is (take f us) ++ (lay_with g (replicate n i) (drop f us) ++ lay_with g (i ∷ []) (v ∷ []))
  list-is is v a =
      let e : us ++ (v ∷ []) ≡ take f us ++ (drop f us ++ (v ∷ [])) = ap (λ (l : List ℕ). l ++ (v ∷ [])) (sym (take-append-drop f us)) ∙ append_assoc (take f us) (drop f us) (v ∷ []) in
      let b = lay-append g (replicate n i) (i ∷ []) (drop f us) (v ∷ []) rest in
      rw (e, lay-append g is (replicate (suc n) i) (take f us) (drop f us ++ (v ∷ [])) (first ∙ sym a)) (ap (λ (l : List ℕ). lay_with g is (take f us) ++ l) (rw replicate-snoc at b))

-- one change within what was laid
inside : (xs z f l x : List ℕ) (p i : ℕ) → p ≡ length z → i + length x ≤ length f → over (over xs 0 (z ++ (f ++ l))) (p + i) x ≡ over xs 0 (z ++ (over f i x ++ l))
inside xs z f l x p i e h =
    let b : length z + i + length x ≤ length (z ++ (f ++ l)) = rw (length-append, length-append) (omega arith) in
    rw e (rw zero-add at (over-within xs (z ++ (f ++ l)) x 0 (length z + i) b) ∙ rw (over-right z (f ++ l) x i, over-left f l x i h))

-- two changes, and some bytes at the end
grew : (xs z f l x y tail : List ℕ) (p i j q : ℕ) → p ≡ length z → i + length x ≤ length f → j + length y ≤ length f → q ≡ p + (length f + length l)
    → over (over (over (over xs 0 (z ++ (f ++ l))) (p + i) x) (p + j) y) q tail ≡ over xs 0 (z ++ (over (over f i x) j y ++ (l ++ tail)))
grew xs z f l x y tail p i j q e h k m =
    let w = over (over f i x) j y in
    let n : q ≡ 0 + length (z ++ (w ++ l)) = rw (length-append, length-append, length_over, length_over) (omega arith) in
    rw (inside xs z f l x p i e h, inside xs z (over f i x) l y p j e (rw length_over k))
    (over-next xs 0 (z ++ (w ++ l)) _ q tail _ refl refl n ∙ ap (λ (l : List ℕ). over xs 0 l) (append_assoc z (w ++ l) tail ∙ ap (λ (r : List ℕ). z ++ r) (append_assoc w l tail)))

module _ (g : ℕ → ℕ) (n : ℕ) (us : List ℕ) where
  -- the bytes before a processor's resources
  processor_front : ℕ → List ℕ
  processor_front m = lay_with g (take 7 (layout (processor m))) (take 3 us)

  processor-front : over (over (processor_front n) 1 (le 1 (size (processor (suc n))))) 16 (le 4 (suc n)) ≡ processor_front (suc n)
  unfolding processor_front layout lay_with over le
  processor-front = refl

  -- the bytes before a side cache's handles
  side_front : ℕ → List ℕ
  side_front m = lay_with g (take 9 (layout (side m))) (take 3 us)

  side-front : over (over (side_front n) 4 (le 4 (size (side (suc n))))) 30 (le 2 (suc n)) ≡ side_front (suc n)
  unfolding side_front layout lay_with over le
  side-front = refl

  -- the bytes before the maps of maths
  maths_front : ℕ → List ℕ
  maths_front m = lay_with g (take 6 (layout (xor m))) (take 1 us)

  maths-front : over (over (maths_front n) 2 (le 2 (size (xor (suc n))))) 7 (le 1 (suc n)) ≡ maths_front (suc n)
  unfolding maths_front layout lay_with over le
  maths-front = refl

  length-maths : (m : ℕ) → length (maths_front m) ≡ 8
  unfolding maths_front layout lay_with le
  length-maths m = refl

  length-processor : (m : ℕ) → length (processor_front m) ≡ 20
  unfolding processor_front layout lay_with le
  length-processor m = refl

  length-side : (m : ℕ) → length (side_front m) ≡ 32
  unfolding side_front layout lay_with le
  length-side m = refl

  module _ (l : length us ≡ 3 + n) where
    processor-was : bytes g (node (processor n) us) ≡ processor_front n ++ lay_with g (replicate n (to 1)) (drop 3 us)
    unfolding bytes layout processor_front
    processor-was = list-was g (to 1) refl 3 n us l (take 7 (layout (processor n))) refl

    processor-is : (v : ℕ) → bytes g (node (processor (suc n)) (us ++ (v ∷ []))) ≡ processor_front (suc n) ++ (lay_with g (replicate n (to 1)) (drop 3 us) ++ le 4 (g v))
    unfolding bytes layout processor_front
    processor-is v = list-is g (to 1) refl 3 n us l (take 7 (layout (processor (suc n)))) v refl ∙ rw (lay-one g (to 1) v)

    side-was : bytes g (node (side n) us) ≡ side_front n ++ lay_with g (replicate n (fld 2)) (drop 3 us)
    unfolding bytes layout side_front
    side-was = list-was g (fld 2) refl 3 n us l (take 9 (layout (side n))) refl

    side-is : (v : ℕ) → bytes g (node (side (suc n)) (us ++ (v ∷ []))) ≡ side_front (suc n) ++ (lay_with g (replicate n (fld 2)) (drop 3 us) ++ le 2 v)
    unfolding bytes layout side_front
    side-is v = list-is g (fld 2) refl 3 n us l (take 9 (layout (side (suc n)))) v refl ∙ rw (lay-one g (fld 2) v)

  module _ (l : length us ≡ 1 + n) where
    maths-was : bytes g (node (xor n) us) ≡ maths_front n ++ lay_with g (replicate n (fld 8)) (drop 1 us)
    unfolding bytes layout maths_front
    maths-was = list-was g (fld 8) refl 1 n us l (take 6 (layout (xor n))) refl

    maths-is : (v : ℕ) → bytes g (node (xor (suc n)) (us ++ (v ∷ []))) ≡ maths_front (suc n) ++ (lay_with g (replicate n (fld 8)) (drop 1 us) ++ le 8 v)
    unfolding bytes layout maths_front
    maths-is v = list-is g (fld 8) refl 1 n us l (take 6 (layout (xor (suc n)))) v refl ∙ rw (lay-one g (fld 8) v)

-- ---- resources, handles and maps

count-processor : (n : ℕ) → arities (layout (processor n)) ≡ 3 + n
unfolding layout
count-processor n = rw (arities-one n (to 1) refl) (omega arith)

-- one field
alone : (vs : List ℕ) → length vs ≡ 1 → vs ≡ at vs 0 ∷ []
alone [] l = absurd (omega arith)
alone (v ∷ []) l = refl
alone (v ∷ w ∷ vs) l = absurd (omega arith)

-- nodes of another table lack nothing
whole : {xs fs : List ℕ} {t : Table} {ns : List Node} {s : State} {out : List ℕ} → Laid xs fs t ns s out → (t ≡ cedt → ⊥) → Good t ns
whole {t = t} {ns = ns} h w = grown-good t ns w h.good

module _ (xs fs : List ℕ) (s : State) (out : List ℕ) where
  -- q: the place of the record that it names
  resource-one : (n v q : ℕ) (us : List ℕ) (ns : List Node) → Laid xs fs pptt (node (processor n) us ∷ ns) s out → n < 58 → q ≡ place_in out v
      → refs_good (at_ordinal (starts pptt ns)) (body Resource) (v ∷ []) ≡ true
      → Turned xs fs pptt (node (processor n) us ∷ ns) (node (processor (suc n)) (us ++ (v ∷ [])) ∷ ns) (growing s 20 4) (processors.grown out s.latest.place s.latest.count (record { 0 = q }))
  unfolding records sizes processors.grown body refs_good
  resource-one n v q us ns h few f r =
      let g = place_of (starts pptt ns) in
      let z = fs ++ records pptt ns in
      let good = whole h (other-table refl) in
      let l : length us ≡ 3 + n = fit_length (layout (processor n)) us good.0.fit ∙ count-processor n in
      let fr = processor_front g n us n in
      let js = lay_with g (replicate n (to 1)) (drop 3 us) in
      let old = processor-was g n us l in
      let lf : length fr ≡ 20 = length-processor g n us n in
      let lb : length (fr ++ js) ≡ 20 + 4 * n = rw old at (length-bytes g (node (processor n) us)) in
      let lj : length js ≡ 4 * n = omega (arith, rw length-append at lb) in
      let lz : length z ≡ 36 + sizes ns = rw (length-append, length-records) (omega (arith, h.long)) in
      let e : out ≡ over xs 0 (fs ++ (records pptt ns ++ bytes g (node (processor n) us))) = h.held in
      let place : q ≡ g v =
      f ∙ ap (λ (o : List ℕ). place_in o v) e ∙ named-place xs fs (bytes g (node (processor n) us)) ns h.long (rw (length-append, length-append, length-records, length-bytes) (omega (arith, h.long, h.room))) good.1 (omega (arith, h.short)) v 1 (both_true (at_ordinal (starts pptt ns) v 1) true r).0 in
      let o : out ≡ over xs 0 (z ++ (fr ++ js)) = e ∙ rw (old, append_assoc) in
      let w = grew xs z fr js (le 1 (size (processor (suc n)))) (le 4 (suc n)) (le 4 (g v)) s.latest.place 1 16 (s.latest.place + size (processor n)) (h.place ∙ sym lz) (rw length-le (omega arith)) (rw length-le (omega arith)) (omega arith) in
      changed xs fs pptt ns (node (processor n) us) (node (processor (suc n)) (us ++ (v ∷ []))) (growing s 20 4) _ [] fr (processor_front g n us (suc n)) js (le 4 (g v))
      h.long old (processor-is g n us l v) (length-processor g n us (suc n) ∙ sym lf) (h.place ∙ omega arith) (sym lf) (sym (length-le 4 (g v))) h.place (omega (arith, h.counts)) (omega (arith, h.counts)) h.counted
      (rw (h.counts, add-one n, place, o) (w ∙ rw (processor-front g n us, ← processor-is g n us l v)))

  handle-one : (n v : ℕ) (us : List ℕ) (ns : List Node) → Laid xs fs hmat (node (side n) us ∷ ns) s out → n < 65535
      → Turned xs fs hmat (node (side n) us ∷ ns) (node (side (suc n)) (us ++ (v ∷ [])) ∷ ns) (growing s 32 2) (sides.grown out s.latest.place (s.latest.count % 65536) v)
  unfolding records sizes sides.grown
  handle-one n v us ns h few =
      let g = place_of (starts hmat ns) in
      let z = fs ++ records hmat ns in
      let l : length us ≡ 3 + n = fit_length (layout (side n)) us (whole h (other-table refl)).0.fit ∙ fields-all n in
      let f = side_front g n us n in
      let js = lay_with g (replicate n (fld 2)) (drop 3 us) in
      let old = side-was g n us l in
      let lf : length f ≡ 32 = length-side g n us n in
      let lb : length (f ++ js) ≡ 32 + 2 * n = rw old at (length-bytes g (node (side n) us)) in
      let lj : length js ≡ 2 * n = omega (arith, rw length-append at lb) in
      let lz : length z ≡ 40 + sizes ns = rw (length-append, length-records) (omega (arith, h.long)) in
      let count : s.latest.count % 65536 ≡ n = omega (arith, h.counts) in
      let o : out ≡ over xs 0 (z ++ (f ++ js)) = h.held ∙ rw (old, append_assoc) in
      let w = grew xs z f js (le 4 (size (side (suc n)))) (le 2 (suc n)) (le 2 v) s.latest.place 4 30 (s.latest.place + 32 + 2 * n) (h.place ∙ sym lz) (rw length-le (omega arith)) (rw length-le (omega arith)) (omega arith) in
      changed xs fs hmat ns (node (side n) us) (node (side (suc n)) (us ++ (v ∷ []))) (growing s 32 2) _ [] f (side_front g n us (suc n)) js (le 2 v)
      h.long old (side-is g n us l v) (length-side g n us (suc n) ∙ sym lf) (h.place ∙ omega arith) (sym lf) (sym (length-le 2 v)) h.place (omega (arith, h.counts)) (omega (arith, h.counts)) h.counted
      (rw (count, add-one n, o) (w ∙ rw (side-front g n us, ← side-is g n us l v)))

  map-one : (n v : ℕ) (us : List ℕ) (ns : List Node) → Laid xs fs cedt (node (xor n) us ∷ ns) s out → length us ≡ 1 + n → n < 255
      → Turned xs fs cedt (node (xor n) us ∷ ns) (node (xor (suc n)) (us ++ (v ∷ [])) ∷ ns) (growing s 8 8) (maths.grown out s.latest.place (s.latest.count % 65536) v)
  unfolding records sizes maths.grown
  map-one n v us ns h l few =
      let g = place_of (starts cedt ns) in
      let z = fs ++ records cedt ns in
      let f = maths_front g n us n in
      let js = lay_with g (replicate n (fld 8)) (drop 1 us) in
      let old = maths-was g n us l in
      let lf : length f ≡ 8 = length-maths g n us n in
      let lb : length (f ++ js) ≡ 8 + 8 * n = rw old at (length-bytes g (node (xor n) us)) in
      let lj : length js ≡ 8 * n = omega (arith, rw length-append at lb) in
      let lz : length z ≡ 36 + sizes ns = rw (length-append, length-records) (omega (arith, h.long)) in
      let count : s.latest.count % 65536 ≡ n = omega (arith, h.counts) in
      let o : out ≡ over xs 0 (z ++ (f ++ js)) = h.held ∙ rw (old, append_assoc) in
      let w = grew xs z f js (le 2 (size (xor (suc n)))) (le 1 (suc n)) (le 8 v) s.latest.place 2 7 (s.latest.place + 8 + 8 * n) (h.place ∙ sym lz) (rw length-le (omega arith)) (rw length-le (omega arith)) (omega arith) in
      changed xs fs cedt ns (node (xor n) us) (node (xor (suc n)) (us ++ (v ∷ []))) (growing s 8 8) _ [] f (maths_front g n us (suc n)) js (le 8 v)
      h.long old (maths-is g n us l v) (length-maths g n us (suc n) ∙ sym lf) (h.place ∙ omega arith) (sym lf) (sym (length-le 8 v)) h.place (omega (arith, h.counts)) (omega (arith, h.counts)) h.counted
      (rw (count, add-one n, o) (w ∙ rw (maths-front g n us, ← maths-is g n us l v)))

-- ---- settings, and targets of a window

-- a setting lies within its record
within : (i t : ℕ) (x : Setting) → matrices.Inside i t x → matrices.place_in 0 i t x + matrices.wide_in x ≤ size (matrix i t)
within i t (initiator j v) h = omega arith
within i t (target j v) h = omega arith
within i t (cell j k v) (h, m) = let b = entry-below j k i t h m in omega arith

offset : (p i t : ℕ) (x : Setting) → matrices.place_in p i t x ≡ p + matrices.place_in 0 i t x
offset p i t (initiator j v) = omega arith
offset p i t (target j v) = omega arith
offset p i t (cell j k v) = omega arith

-- the record with a setting is the record with other bytes at its place
set-bytes : (g : ℕ → ℕ) (i t : ℕ) (us : List ℕ) (x : Setting) → length us ≡ arities (layout (matrix i t)) → matrices.Inside i t x
    → bytes g (node (matrix i t) (set us (spot i t x) (set_to x))) ≡ over (bytes g (node (matrix i t) us)) (matrices.place_in 0 i t x) (le (matrices.wide_in x) (set_to x))
set-bytes g i t us x l h =
    let b = bytes g (node (matrix i t) us) in
    let n = bytes g (node (matrix i t) (set us (spot i t x) (set_to x))) in
    let e : length n ≡ length b = rw (length-bytes, length-bytes) in
    sym (over-all b n e) ∙ sym (set-in-place g i t b 0 us x l h) ∙ rw (over-all b b refl)

split_at : (b : List ℕ) (k w : ℕ) → b ≡ take k b ++ (part b k w ++ drop (k + w) b)
unfolding part
split_at b k w = sym (rw (← drop-drop, take-append-drop w (drop k b)) (take-append-drop k b))

module _ (xs fs : List ℕ) (s : State) (out : List ℕ) where
  -- the newest record is the same but for w bytes from its byte k on
  patched : {t : Table} (a b : Node) (ns : List Node) → Laid xs fs t (a ∷ ns) s out → (c : Change) (k w v : ℕ)
      → bytes (place_of (starts t ns)) b ≡ over (bytes (place_of (starts t ns)) a) k (le w v) → k + w ≤ size a.form
      → c.from ≡ s.latest.place + k → c.len ≡ w → c.more ≡ 0
      → c.latest.place ≡ front t + sizes ns → Counts (newest (b ∷ ns)) c.latest → c.latest.count ≤ 65535 → c.latest.nodes ≡ suc (length ns)
      → Turned xs fs t (a ∷ ns) (b ∷ ns) c (over out c.from (le w v))
  unfolding records sizes
  patched {t} a b ns h c k w v new inn from len more place counts few counted =
      let g = place_of (starts t ns) in
      let z = fs ++ records t ns in
      let old = bytes g a in
      let cs = le w v in
      let lb : length old ≡ size a.form = length-bytes g a in
      let lc : length cs ≡ w = length-le w v in
      let lz : length z ≡ front t + sizes ns = rw (length-append, length-records) (omega (arith, h.long)) in
      let o : out ≡ over xs 0 (z ++ (old ++ [])) = h.held ∙ rw (append-nil, append_assoc) in
      let lk : length (take k old) ≡ k = length-take-le k old (omega arith) in
      changed xs fs t ns a b c _ (take k old) (part old k w) cs (drop (k + w) old) []
      h.long (split_at old k w) (new ∙ over-fits old k cs (omega arith) ∙ rw (lc, append-nil)) (lc ∙ sym (length_part old k w (omega arith))) (from ∙ omega (arith, h.place)) (len ∙ sym (length_part old k w (omega arith))) more place counts few counted
      (rw (from, o) (inside xs z old [] cs s.latest.place k (h.place ∙ sym lz) (omega arith) ∙ rw (append-nil, ← new)))

  setting-one : (i t : ℕ) (us : List ℕ) (ns : List Node) (x : Setting) → Laid xs fs hmat (node (matrix i t) us ∷ ns) s out → matrices.Inside i t x
      → Turned xs fs hmat (node (matrix i t) us ∷ ns) (node (matrix i t) (set us (spot i t x) (set_to x)) ∷ ns) (setting-of s x) (over out (setting-of s x).from (le (matrices.wide_in x) (set_to x)))
  unfolding records sizes
  setting-one i t us ns x h inn =
      let g = place_of (starts hmat ns) in
      let l = fit_length (layout (matrix i t)) us (whole h (other-table refl)).0.fit in
      let there : setting_at s x ≡ s.latest.place + matrices.place_in 0 i t x = rw (h.counts.0, h.counts.1) (offset s.latest.place i t x) in
      let at_place : capped (setting_at s x) ≡ s.latest.place + matrices.place_in 0 i t x = omega (arith, there, within i t x inn, h.place, h.short) in
      patched (node (matrix i t) us) (node (matrix i t) (set us (spot i t x) (set_to x))) ns h (setting-of s x) (matrices.place_in 0 i t x) (matrices.wide_in x) (set_to x) (set-bytes g i t us x l inn) (within i t x inn) at_place refl refl h.place h.counts h.few h.counted

  -- the next target of a window that has k
  target_one : (n k v : ℕ) (us : List ℕ) (ns : List Node) → Laid xs fs cedt (node (window n) us ∷ ns) s out → length us ≡ 7 + k → k < n → n ≤ 16
      → Turned xs fs cedt (node (window n) us ∷ ns) (node (window n) (us ++ (v ∷ [])) ∷ ns) (filling s (capped (target_at s)) 4) (over out (target_at s) (le 4 v))
  unfolding records sizes
  target_one n k v us ns h l few most =
      let a = node (window n) us in
      let b = node (window n) (us ++ (v ∷ [])) in
      let g = place_of (starts cedt ns) in
      let c : s.latest.count ≡ k = h.counts ∙ omega arith in
      let e : length (bytes g b) ≡ length (bytes g a) = rw (length-bytes, length-bytes) in
      let new : bytes g b ≡ over (bytes g a) (36 + 4 * k) (le 4 v) = sym (over-all (bytes g a) (bytes g b) e) ∙ sym (set-target g (bytes g a) 0 n us k v l few) ∙ rw (over-all (bytes g a) (bytes g a) refl) in
      let exact : capped (target_at s) ≡ target_at s = omega (arith, c, h.place, h.short) in
      rw exact (patched a b ns h (filling s (target_at s) 4) (36 + 4 * k) 4 v new (omega arith) (omega arith) refl refl h.place (rw length-append (omega arith)) (omega arith) h.counted)

  resource-turned : (vs : List ℕ) (q : ℕ) → q ≡ place_in out (at vs 0) → Fit (body Resource) vs → {ns : List Node} {x : Newest} → View ns x → (joined Resource vs x).placed ≡ true → (joined Resource vs x).full ≡ false
      → refs_good (at_ordinal (starts pptt (joined Resource vs x).earlier)) (body Resource) vs ≡ true → Laid xs fs pptt ns s out
      → Turned xs fs pptt ns (joined Resource vs x).nodes (growing s 20 4) (processors.grown out s.latest.place s.latest.count (record { 0 = q }))
  unfolding joined body
  resource-turned vs q d f (sees_processor {n} {us} {ns}) p e r h =
      let a = alone vs (fit_length (body Resource) vs f) in
      rw a (resource-one xs fs s out n (at vs 0) q us ns h (omega (arith, leb-false 58 n e)) d (rw a at r))
  resource-turned vs q d f sees_matrix p e r h = never p
  resource-turned vs q d f sees_side p e r h = never p
  resource-turned vs q d f sees_window p e r h = never p
  resource-turned vs q d f sees_xor p e r h = never p
  resource-turned vs q d f sees_other p e r h = never p

  handle-turned : (vs : List ℕ) → Fit (body Handle) vs → {ns : List Node} {x : Newest} → View ns x → (joined Handle vs x).placed ≡ true → (joined Handle vs x).full ≡ false → Laid xs fs hmat ns s out
      → Turned xs fs hmat ns (joined Handle vs x).nodes (growing s 32 2) (sides.grown out s.latest.place (s.latest.count % 65536) (at vs 0))
  unfolding joined body
  handle-turned vs f sees_processor p e h = never p
  handle-turned vs f sees_matrix p e h = never p
  handle-turned vs f (sees_side {n} {us} {ns}) p e h =
      let a = alone vs (fit_length (body Handle) vs f) in
      rw a (handle-one xs fs s out n (at vs 0) us ns h (omega (arith, leb-false 65535 n e)))
  handle-turned vs f sees_window p e h = never p
  handle-turned vs f sees_xor p e h = never p
  handle-turned vs f sees_other p e h = never p

  target-turned : (vs : List ℕ) → Fit (body WindowTarget) vs → {ns : List Node} {x : Newest} → View ns x → (joined WindowTarget vs x).placed ≡ true → (joined WindowTarget vs x).full ≡ false → Laid xs fs cedt ns s out
      → Turned xs fs cedt ns (joined WindowTarget vs x).nodes (filling s (capped (target_at s)) 4) (over out (target_at s) (le 4 (at vs 0)))
  unfolding joined body
  target-turned vs f sees_processor p e h = never p
  target-turned vs f sees_matrix p e h = never p
  target-turned vs f sees_side p e h = never p
  target-turned vs f (sees_window {n} {us} {ns}) p e h =
      let a = alone vs (fit_length (body WindowTarget) vs f) in
      let b = window-begun cedt n us ns h.good in
      rw a (target_one n (length us - 7) (at vs 0) us ns h (omega arith) (leb-false n (length us - 7) e) (few-targets n us ns h.good))
  target-turned vs f sees_xor p e h = never p
  target-turned vs f sees_other p e h = never p

  map_turned : (vs : List ℕ) → Fit (body Map) vs → {ns : List Node} {x : Newest} → View ns x → (joined Map vs x).placed ≡ true → (joined Map vs x).full ≡ false → Laid xs fs cedt ns s out
      → Turned xs fs cedt ns (joined Map vs x).nodes (growing s 8 8) (maths.grown out s.latest.place (s.latest.count % 65536) (at vs 0))
  unfolding joined body
  map_turned vs f sees_processor p e h = never p
  map_turned vs f sees_matrix p e h = never p
  map_turned vs f sees_side p e h = never p
  map_turned vs f sees_window p e h = never p
  map_turned vs f (sees_xor {n} {us} {ns}) p e h =
      let a = alone vs (fit_length (body Map) vs f) in
      rw a (map-one xs fs s out n (at vs 0) us ns h (maths-fields n us ns h.good) (leb-false 255 n e))
  map_turned vs f sees_other p e h = never p

  setting-turned : (tests : ℕ → ℕ → List Bool) (x : Setting) → ((i t : ℕ) → all (tests i t) ≡ true → matrices.Inside i t x) → {ns : List Node} {y : Newest} → View ns y
      → (setting tests (λ i t. spot i t x) (set_to x) y).placed ≡ true → all (setting tests (λ i t. spot i t x) (set_to x) y).ranges ≡ true → Laid xs fs hmat ns s out
      → Turned xs fs hmat ns (setting tests (λ i t. spot i t x) (set_to x) y).nodes (setting-of s x) (over out (setting-of s x).from (le (matrices.wide_in x) (set_to x)))
  unfolding setting
  setting-turned tests x inn sees_processor p r h = never p
  setting-turned tests x inn (sees_matrix {i} {t} {us} {ns}) p r h = setting-one i t us ns x h (inn i t r)
  setting-turned tests x inn sees_side p r h = never p
  setting-turned tests x inn sees_window p r h = never p
  setting-turned tests x inn sees_xor p r h = never p
  setting-turned tests x inn sees_other p r h = never p

-- ---- every kind

-- a record is settled by where the record stands that it names
parent-as : (f g : ℕ → ℕ) (vs : List ℕ) → f (at vs 1) ≡ g (at vs 1) → bytes f (node (processor 0) vs) ≡ bytes g (node (processor 0) vs)
unfolding bytes layout lay_with
parent-as f g [] e = rw e
parent-as f g (v ∷ []) e = rw e
parent-as f g (v ∷ u ∷ vs) e = rw e

level-as : (f g : ℕ → ℕ) (vs : List ℕ) → f (at vs 1) ≡ g (at vs 1) → bytes f (node cache vs) ≡ bytes g (node cache vs)
unfolding bytes layout lay_with
level-as f g [] e = rw e
level-as f g (v ∷ []) e = rw e
level-as f g (v ∷ u ∷ vs) e = rw e

module _ {xs fs : List ℕ} {ns : List Node} {s : State} {out : List ℕ} where
  among : Laid xs fs pptt ns s out → (n : Node) → Grown pptt (n ∷ ns) → bytes (place_in out) n ≡ bytes (place_of (starts pptt ns)) n
  unfolding bytes
  among h n g =
      let e : out ≡ over xs 0 (fs ++ (records pptt ns ++ [])) = h.held ∙ rw append-nil in
      rw e (pptt-agrees xs fs [] ns h.long (rw (append-nil, length-append, length-records) (omega (arith, h.long, h.room))) (whole h (other-table refl)) h.short (layout n.form) n.values (grown-good pptt (n ∷ ns) (other-table refl) g).0.refs)

  pub turned : (k : Kind) (vs : List ℕ) (d : Found) → Placed out (naming k vs) d → Laid xs fs (kind_home k) ns s out → Fit (body k) vs → Passed (kind_home k) ns k vs → Grown (kind_home k) (added k vs ns)
      → Turned xs fs (kind_home k) ns (added k vs ns) (change_of k s vs) (wrote k s d (change_of k s vs).from vs out)
  unfolding step body change_of wrote layout
  turned Processor vs d e h f p g = made h (λ v. d.processor.0) (node (processor 0) vs) 0 0 refl (parent-as (λ v. d.processor.0) (place_in out) vs e ∙ among h (node (processor 0) vs) g)
  turned Resource vs d e h f p g = resource-turned xs fs s out vs d.cache.0 e f (view ns) p.place p.room p.refs h
  turned Cache vs d e h f p g = made h (λ v. d.cache.0) (node cache vs) 0 0 tt (level-as (λ v. d.cache.0) (place_in out) vs e ∙ among h (node cache vs) g)
  turned Memory vs d e h f p g = made h as_is (node memory vs) 0 0 tt (bytes-plain as_is (place_of (starts srat ns)) (node memory vs) tt)
  turned Acpi vs d e h f p g = made h as_is (node acpi vs) 0 0 tt (bytes-plain as_is (place_of (starts srat ns)) (node acpi vs) tt)
  turned Pci vs d e h f p g = made h as_is (node pci vs) 0 0 tt (bytes-plain as_is (place_of (starts srat ns)) (node pci vs) tt)
  turned Rintc vs d e h f p g = made h as_is (node rintc vs) 0 0 tt (bytes-plain as_is (place_of (starts srat ns)) (node rintc vs) tt)
  turned Domain vs d e h f p g = made h as_is (node domain vs) 0 0 tt (bytes-plain as_is (place_of (starts hmat ns)) (node domain vs) tt)
  turned (Matrix w) vs d e h f p g = made h as_is (unset_matrix vs) (at vs 4) (at vs 5) (refl, refl) (bytes-plain as_is (place_of (starts hmat ns)) (unset_matrix vs) (plain-matrix (at vs 4) (at vs 5)))
  turned (Initiator w) vs d e h f p g =
      setting-turned xs fs s out (λ i t. ltb (at vs 0) i ∷ []) (initiator (at vs 0) (at vs 1)) (λ i t r. ltb-true (at vs 0) i r) (view ns) p.place p.field h
  turned (Target w) vs d e h f p g =
      setting-turned xs fs s out (λ i t. ltb (at vs 0) t ∷ []) (target (at vs 0) (at vs 1)) (λ i t r. ltb-true (at vs 0) t r) (view ns) p.place p.field h
  turned (Cell w) vs d e h f p g =
      setting-turned xs fs s out (λ i t. ltb (at vs 0) i ∷ ltb (at vs 1) t ∷ []) (cell (at vs 0) (at vs 1) (at vs 2))
      (λ i t r. let (a, b) = both_true (ltb (at vs 0) i) (ltb (at vs 1) t) r in (ltb-true (at vs 0) i a, ltb-true (at vs 1) t b)) (view ns) p.place p.field h
  turned Side vs d e h f p g = made h as_is (node (side 0) vs) 0 0 refl (bytes-plain as_is (place_of (starts hmat ns)) (node (side 0) vs) tt)
  turned Handle vs d e h f p g = handle-turned xs fs s out vs f (view ns) p.place p.room h
  turned Bridge vs d e h f p g = made h as_is (node (bridge (registers (at vs 1))) vs) 0 0 tt (bytes-plain as_is (place_of (starts cedt ns)) (node (bridge (registers (at vs 1))) vs) tt)
  turned Window vs d e h f p g =
      made h as_is (node (window (ways (at vs 2))) vs) 0 0 (omega (arith, fit_length (body Window) vs f)) (bytes-plain as_is (place_of (starts cedt ns)) (node (window (ways (at vs 2))) vs) (plain-fld (ways (at vs 2)) 4))
  turned WindowTarget vs d e h f p g = target-turned xs fs s out vs f (view ns) p.place p.room h
  turned Xor vs d e h f p g = made h as_is (node (xor 0) vs) 0 0 refl (bytes-plain as_is (place_of (starts cedt ns)) (node (xor 0) vs) tt)
  turned Map vs d e h f p g = map_turned xs fs s out vs f (view ns) p.place p.room h
