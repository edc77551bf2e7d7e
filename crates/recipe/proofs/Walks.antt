-- The records of a recipe from a place on: one more is cut off and judged, or the cut ends there. What the pass keeps stays true.
use mathlib.Core.Path.{◌≡◌, refl, sym, ap, ◌∙◌}
use Prim.Native.Nat.{ℕ, suc, ◌+◌, ◌*◌, ◌/◌, ◌%◌, ◌^◌, ◌≤◌, ◌<◌}
use mathlib.Core.List.{List, [], ◌∷◌}
use mathlib.Core.Bool.{Bool, true, false}
use mathlib.Core.Logic.{⊎_elim}
use mathlib.Core.Option.{Option, none, some}
use native.Mathlib.Omega.{arith}
use lib.ListN.{length, drop, set, drop_of_length-le, length-append, length-drop, length-set}
use lib.Dec.{eqb, leb, ltb}
use borrow.Author.Tests.{le-ltb, lt-ltb, eq-eqb, ne_eqb, eqb-true, eqb-false, leb-true}
use Rattle.std.specs.Prelude.{Result, Ok, Err}
use Rattle.format.specs.Bytes.{pick, at, Answer, refused, given, unless, value, part}
use Rattle.format.specs.Layout.{width, fields_with, fields, refs_good}
use Rattle.format.specs.Table.{Table, pptt, srat, hmat, cedt, limit, Head, head_of}
use Rattle.format.specs.Form.{Form, processor, cache, memory, acpi, pci, rintc, old_rintc, domain, matrix, side, bridge, window, xor, type_of, size, Width, byte, pair, octets}
use Rattle.format.specs.Node.{Node, sizes}
use Rattle.format.specs.Kind.{Kind, Processor, Resource, Cache, Memory, Acpi, Pci, Rintc, Domain, Matrix, Initiator, Target, Cell, Side, Handle, Bridge, Window, WindowTarget, Xor, Map, kind_number, kind_of, no_kind, body, part_in, width_behind}
use Rattle.format.specs.Recipe.{Newest, a_list, a_matrix, other, newest, Calls, cut_off, called, cut_as, skip, cut, joined, setting, step, added, fault, fault_at, since, lacking, means, run, table_of, headed, meaning}
use Rattle.laws.proofs.Bytes.{value-byte}
use Rattle.laws.proofs.Finds.{never, unless-given}
use Rattle.laws.proofs.Lays.{both_true}
use Rattle.laws.proofs.Fields.{fault-within}
use Rattle.laws.proofs.Grows.{View, sees_processor, sees_matrix, sees_side, sees_window, sees_xor, sees_other, view, needless, passed}
use Rattle.laws.proofs.Builds.{kind-home, front-short}
use Rattle.laws.proofs.Calls.{cut_at}
use Rattle.header.specs.declared.Table.TheVariants.{Hmat}
use Rattle.header.specs.Header.{meant, table_named}
use Rattle.hmat.specs.declared.Width as code
use Rattle.hmat.specs.Widths.{meant_width}
use Rattle.hmat.specs.Settings.{in_counts, good_cell}
use Rattle.hmat.proofs.Bodies.{cell-fields}
use Rattle.recipe.specs.declared.Newest.TheVariants as is
use Rattle.recipe.specs.declared.Refusal.{Refusal}
use Rattle.recipe.specs.declared.state.State.{State}
use Rattle.recipe.specs.declared.Fault.{Fault}
use Rattle.recipe.specs.declared.Fault.TheVariants.{Record, Field}
use Rattle.recipe.specs.Answers.{number, outlined}
use Rattle.recipe.specs.Machine.{newest_kept, lacks, Counts, counts, state_of, Begun, ended_with, types_of, Bits, least_record, Roomy, Typed, Clear, noted, stepped, TurnsWith, whole, Stands}
use Rattle.recipe.proofs.Types.{bits-parts, clear_next, typed-zero, typed_one}
use Rattle.recipe.proofs.Refers.{length_types}
use Rattle.recipe.proofs.Steps.{set-turn, kept-width}

-- ---- the types of the nodes with one record more

-- a resource does not change the type of the newest node
types-resource : {ns : List Node} {x : Newest} (vs : List ℕ) → View ns x → (joined Resource vs x).placed ≡ true → types_of (joined Resource vs x).nodes ≡ types_of ns
unfolding joined types_of
types-resource vs sees_processor h = refl
types-resource vs sees_matrix h = never h
types-resource vs sees_side h = never h
types-resource vs sees_window h = never h
types-resource vs sees_xor h = never h
types-resource vs sees_other h = never h

-- nor how many there are
few-resource : {ns : List Node} {x : Newest} (vs : List ℕ) → View ns x → (joined Resource vs x).placed ≡ true → length (joined Resource vs x).nodes ≤ length ns
unfolding joined
few-resource vs sees_processor h = omega arith
few-resource vs sees_matrix h = never h
few-resource vs sees_side h = never h
few-resource vs sees_window h = never h
few-resource vs sees_xor h = never h
few-resource vs sees_other h = never h

-- a record of under 20 bytes has no type that is a bit
long-enough : (f : Form) → type_of f < 2 → 20 ≤ size f
long-enough (processor n) h = omega arith
long-enough cache h = omega arith
long-enough memory h = omega arith
long-enough acpi h = absurd (omega arith)
long-enough pci h = absurd (omega arith)
long-enough rintc h = absurd (omega arith)
long-enough old_rintc h = absurd (omega arith)
long-enough domain h = omega arith
long-enough (matrix i t) h = omega arith
long-enough (side n) h = absurd (omega arith)
long-enough (bridge n) h = omega arith
long-enough (window n) h = omega arith
long-enough (xor n) h = absurd (omega arith)

-- so a PPTT has a node for 20 bytes at most
fewer : (ns : List Node) → Bits (types_of ns) → 20 * length ns ≤ sizes ns
unfolding types_of sizes
fewer [] h = omega arith
fewer (n ∷ ns) h =
    let (x, y) = bits-parts (types_of ns) (type_of n.form ∷ []) h in
    omega (arith, fewer ns x, long-enough n.form y.0)

-- there is a clear bit for the next node of a PPTT: its record has room in the recipe yet, and its node in the table
next-clear : (r ws : List ℕ) (ns : List Node) → sizes ns ≤ limit → least_record * length ns < length r → Roomy ws r → Typed ws (types_of ns) → Clear ws (length ns)
unfolding width body
next-clear r ws ns l m o w =
    rw (length_types ns) at (clear_next ws (types_of ns) w (rw (length_types ns) (⊎_elim (λ x. omega (arith, fewer ns w.two)) (λ x. omega arith) o)))

-- one record more of a PPTT: what is noted are the types then
types-added : (r : List ℕ) (b : ℕ) (k : Kind) (vs : List ℕ) (ns : List Node) (ws : List ℕ)
    → kind_of pptt b ≡ some k → (step k vs ns).placed ≡ true → sizes ns ≤ limit → least_record * length ns < length r → Roomy ws r → Typed ws (types_of ns) → Typed (noted k (length ns) ws) (types_of (added k vs ns))
unfolding kind_of step types_of
types-added r b k vs ns ws e h l m o w = by (eqb b 16) (eqb b 17) (eqb b 18) e
  where
    by : (x y z : Bool) → pick x (some Processor) (pick y (some Resource) (pick z (some Cache) none)) ≡ some k → Typed (noted k (length ns) ws) (types_of (added k vs ns))
    by true y z e = let q : Processor ≡ k = cc in rw (← q) (typed-zero ws (types_of ns) w)
    by false true z e = let q : Resource ≡ k = cc in rw (← q, types-resource vs (view ns) (rw (← q) at h)) w
    by false false true e =
        let q : Cache ≡ k = cc in
        rw (← q, ← length_types ns) (typed_one ws (types_of ns) w (rw length_types (next-clear r ws ns l m o w).there))
    by false false false e = absurd (let z : ◌≡◌ {A = ℕ} 0 1 = cc in omega arith)

pub length-noted : (k : Kind) (i : ℕ) (ws : List ℕ) → length (noted k i ws) ≡ length ws
length-noted k i ws = by (eqb (kind_number k) (kind_number Cache))
  where
    by : (x : Bool) → length (pick x (set ws (i / 64) (at ws (i / 64) + 2 ^ (i % 64))) ws) ≡ length ws
    by true = length-set ws (i / 64) _
    by false = refl

pub roomy-noted : (k : Kind) (i : ℕ) (ws r : List ℕ) → Roomy ws r → Roomy (noted k i ws) r
roomy-noted k i ws r o = rw (length-noted k i ws) o

-- a record of a PPTT that makes a node has so many bytes at least
few-added : (b : ℕ) (k : Kind) (vs : List ℕ) (ns : List Node) → kind_of pptt b ≡ some k → (step k vs ns).placed ≡ true
    → least_record * length (added k vs ns) ≤ least_record * length ns + (1 + width (body k))
unfolding kind_of step width body
few-added b k vs ns e h = by (eqb b 16) (eqb b 17) (eqb b 18) e
  where
    by : (x y z : Bool) → pick x (some Processor) (pick y (some Resource) (pick z (some Cache) none)) ≡ some k → least_record * length (added k vs ns) ≤ least_record * length ns + (1 + width (body k))
    by true y z e = let q : Processor ≡ k = cc in rw (← q) (omega arith)
    by false true z e = let q : Resource ≡ k = cc in rw (← q) (omega (arith, few-resource vs (view ns) (rw (← q) at h)))
    by false false true e = let q : Cache ≡ k = cc in rw (← q) (omega arith)
    by false false false e = absurd (let z : ◌≡◌ {A = ℕ} 0 1 = cc in omega arith)

-- ---- windows

-- a list of another kind is no window's
other-list : (k : Kind) → eqb (kind_number k) (kind_number WindowTarget) ≡ false → {A : Type 0} → k ≡ WindowTarget → A
other-list k n e = absurd (eqb-false (kind_number k) (kind_number WindowTarget) n (ap kind_number e))

module _ (vs : List ℕ) where
  begun-resource : {ns : List Node} {x : Newest} → View ns x → Begun (newest (joined Resource vs x).nodes)
  unfolding joined
  begun-resource sees_processor = other-list Resource refl
  begun-resource sees_matrix = tt
  begun-resource sees_side = tt
  begun-resource sees_window = tt
  begun-resource sees_xor = tt
  begun-resource sees_other = tt

  begun-handle : {ns : List Node} {x : Newest} → View ns x → Begun (newest (joined Handle vs x).nodes)
  unfolding joined
  begun-handle sees_processor = tt
  begun-handle sees_matrix = tt
  begun-handle sees_side = other-list Handle refl
  begun-handle sees_window = tt
  begun-handle sees_xor = tt
  begun-handle sees_other = tt

  begun-target : {ns : List Node} {x : Newest} → View ns x → Begun x → Begun (newest (joined WindowTarget vs x).nodes)
  unfolding joined
  begun-target sees_processor g = tt
  begun-target sees_matrix g = tt
  begun-target sees_side g = tt
  begun-target (sees_window {n} {us}) g = λ e. rw length-append (omega (arith, g e))
  begun-target sees_xor g = tt
  begun-target sees_other g = tt

  begun-map : {ns : List Node} {x : Newest} → View ns x → Begun (newest (joined Map vs x).nodes)
  unfolding joined
  begun-map sees_processor = tt
  begun-map sees_matrix = tt
  begun-map sees_side = tt
  begun-map sees_window = tt
  begun-map sees_xor = other-list Map refl
  begun-map sees_other = tt

begun-setting : (tests : ℕ → ℕ → List Bool) (place : ℕ → ℕ → ℕ) (v : ℕ) (x : Newest) → Begun (newest (setting tests place v x).nodes)
unfolding setting
begun-setting tests place v (a_list k needs most n f us ns) = tt
begun-setting tests place v (a_matrix i t us ns) = tt
begun-setting tests place v other = tt

-- a window begins with its seven fields, and a target is one more
begun-added : (k : Kind) (bs : List ℕ) (ns : List Node) → Begun (newest ns) → Begun (newest (added k (fields (body k) bs) ns))
unfolding step body fields_with
begun-added Processor bs ns g = other-list Resource refl
begun-added Resource bs ns g = begun-resource _ (view ns)
begun-added Cache bs ns g = tt
begun-added Memory bs ns g = tt
begun-added Acpi bs ns g = tt
begun-added Pci bs ns g = tt
begun-added Rintc bs ns g = tt
begun-added Domain bs ns g = tt
begun-added (Matrix w) bs ns g = tt
begun-added (Initiator w) bs ns g = begun-setting _ _ _ (newest ns)
begun-added (Target w) bs ns g = begun-setting _ _ _ (newest ns)
begun-added (Cell w) bs ns g = begun-setting _ _ _ (newest ns)
begun-added Side bs ns g = other-list Handle refl
begun-added Handle bs ns g = begun-handle _ (view ns)
begun-added Bridge bs ns g = tt
begun-added Window bs ns g = λ e. omega arith
begun-added WindowTarget bs ns g = begun-target _ (view ns) g
begun-added Xor bs ns g = other-list Map refl
begun-added Map bs ns g = begun-map _ (view ns)

-- what the newest node lacks, by what is kept of it
lacks-as : (u : Width) {ns : List Node} {x : Newest} → View ns x → (o : Option Kind) → lacking x o ≡ pick (lacks (newest_kept u x) o) 11 0
unfolding lacking
lacks-as u (sees_processor {n} {us} {ns}) o = needless Resource 58 n (processor (suc n)) us ns o
lacks-as u sees_matrix o = refl
lacks-as u (sees_side {n} {us} {ns}) o = needless Handle 65535 n (side (suc n)) us ns o
lacks-as u sees_window o = refl
lacks-as u (sees_xor {n} {us} {ns}) o = needless Map 255 n (xor (suc n)) us ns o
lacks-as u sees_other o = refl

-- ---- the pass

meant-named : (t : Table) → meant (table_named t) ≡ t
meant-named pptt = refl
meant-named srat = refl
meant-named hmat = refl
meant-named cedt = refl

-- a refusal of a step is one of the whole
refused-also : {A B : Type 0} (f q n p : ℕ) (x : A) (b : Answer B) → refused n p ≡ unless f q (given x) → (unless f q b ≡ refused n p) × (p ≡ q)
refused-also f q n p x b e = go (eqb f 0) e
  where
    go : (y : Bool) → refused n p ≡ pick y (given x) (refused f q) → (pick y b (refused f q) ≡ refused n p) × (p ≡ q)
    go true e = absurd (let z : ◌≡◌ {A = ℕ} 0 1 = cc in omega arith)
    go false e =
        let i : f ≡ n = cc in
        let j : p ≡ q = cc in
        (rw (i, j), j)

module _ (r : List ℕ) (h : Head) where
  pub starts-so : (ws : List ℕ) → (h.table ≡ pptt → Roomy ws r × Typed ws []) → Stands r h 0 28 (state_of h.table byte []) ws
  unfolding types_of sizes
  starts-so ws z = record { nodes = []; width = byte; is = refl; short = front-short h.table; few = λ t. omega arith; roomy = λ t. (z t).0; knows = record { typed = λ t. (z t).1; begun = tt }; same = refl }

  module _ (q p : ℕ) (s : Counts) (ws : List ℕ) (w : Stands r h q p s ws) where
    lacking-as : (o : Option Kind) → lacking (newest w.nodes) o ≡ pick (lacks s.newest o) 11 0
    lacking-as o = rw w.is (lacks-as w.width (view w.nodes) o)

    pub ends : length r ≤ p → outlined (whole r h) ≡ ended_with s q
    unfolding cut run
    ends l = rw (w.same, drop_of_length-le r l, lacking-as none) (by (lacks s.newest none))
      where
        by : (x : Bool) → outlined (unless (pick x 11 0) q (given (means h w.nodes))) ≡ pick x (refused 11 q) (given (meant s.table, s.length))
        by true = refl
        by false = rw (w.is, meant-named h.table)

    module _ (l : p < length r) where
      -- what comes is no entry of the list that lacks one
      pub incomplete : lacks s.newest (kind_of h.table (at r p)) ≡ true → whole r h ≡ refused 11 q
      unfolding cut_as run
      incomplete e = w.same ∙ rw (cut_at h.table r p l) (by (kind_of h.table (at r p)) e)
        where
          rest : Calls
          rest = cut h.table 0 (p + 1 + skip (kind_of h.table (at r p))) (drop (p + 1 + skip (kind_of h.table (at r p))) r)

          by : (o : Option Kind) → lacks s.newest o ≡ true → run h q w.width w.nodes (cut_as o (no_kind h.table (at r p)) (drop (p + 1) r) p rest) ≡ refused 11 q
          by none e = rw (lacking-as none, e)
          by (some k) e = long (ltb (length (drop (p + 1) r)) (width (body k)))
            where
              long : (x : Bool) → run h q w.width w.nodes (pick x (cut_off p k) (called p k (fields (body k) (drop (p + 1) r)) rest)) ≡ refused 11 q
              long true = rw (lacking-as (some k), e)
              long false = rw (lacking-as (some k), e)

      pub bad_kind_lem : kind_of h.table (at r p) ≡ none → lacks s.newest none ≡ false → whole r h ≡ refused (no_kind h.table (at r p)) p
      unfolding cut_as run
      bad_kind_lem e f = w.same ∙ rw (cut_at h.table r p l, e, lacking-as none, f)

      module _ (k : Kind) (e : kind_of h.table (at r p) ≡ some k) (f : lacks s.newest (some k) ≡ false) where
        pub cut_off_lem : length (drop (p + 1) r) < width (body k) → whole r h ≡ refused 3 p
        unfolding cut_as run
        cut_off_lem c = w.same ∙ rw (cut_at h.table r p l, e, lt-ltb _ _ c, lacking-as (some k), f)

        module _ (c : width (body k) ≤ length (drop (p + 1) r)) where
          vs : List ℕ
          vs = fields (body k) (drop (p + 1) r)

          n : ℕ
          n = fault h.table w.width w.nodes k vs

          place : ℕ
          place = p + fault_at n k (step k vs w.nodes).ranges

          called_at : whole r h ≡ unless n place (run h (since w.nodes (added k vs w.nodes) p q) (width_behind (part_in k) w.width) (added k vs w.nodes) (cut h.table 0 (p + 1 + width (body k)) (drop (p + 1 + width (body k)) r)))
          unfolding cut_as run vs n place
          called_at = w.same ∙ rw (cut_at h.table r p l, e, le-ltb _ _ c, lacking-as (some k), f)

          module _ (x : Result State Fault) (d : TurnsWith ws k (drop (p + 1) r) s x) where
            turned : stepped p x ≡ unless n place (given (state_of h.table (width_behind (part_in k) w.width) (added k vs w.nodes)))
            unfolding vs n place
            turned = d h.table w.width w.nodes p w.is (at r p) e w.knows

            pub stops : (f : Refusal) → x ≡ Err (Record f) → whole r h ≡ refused (number f) p
            stops f i = called_at ∙ (refused-also n place (number f) p _ _ (rw i at turned)).0

            pub stops_at : (by : ℕ) → x ≡ Err (Field by) → whole r h ≡ refused 5 (p + by)
            stops_at by i = called_at ∙ (refused-also n place 5 (p + by) _ _ (rw i at turned)).0

            -- a bad field is one of the record
            pub within : (by : ℕ) → x ≡ Err (Field by) → by ≤ 1 + width (body k)
            unfolding place
            within by i =
                let j : p + by ≡ place = (refused-also {B = ℕ} n place 5 (p + by) _ (given 0) (rw i at turned)).1 in
                omega (arith, j, fault-within n k (step k vs w.nodes).ranges)

            pub goes : (s' : State) → x ≡ Ok s' → Stands r h (pick (eqb s'.nodes s.nodes) q p) (p + 1 + width (body k)) (counts s') (noted k s.nodes ws)
            unfolding vs n place
            goes s' i =
                let (z, g) = unless-given n place (given (state_of h.table (width_behind (part_in k) w.width) (added k vs w.nodes))) (sym (rw i at turned)) in
                let is : counts s' ≡ state_of h.table (width_behind (part_in k) w.width) (added k vs w.nodes) = cc in
                let y = passed h.table w.width w.nodes k vs z in
                let small : sizes w.nodes ≤ limit = omega (arith, w.short) in
                record {
                  nodes = added k vs w.nodes;
                  width = width_behind (part_in k) w.width;
                  is = is;
                  short = y.short;
                  few = λ t. omega (arith, few-added (at r p) k vs w.nodes (rw t at e) y.place, w.few t);
                  roomy = λ t. rw w.is (roomy-noted k (length w.nodes) ws r (w.roomy t));
                  knows =
                      record {
                        typed = λ t. rw w.is (types-added r (at r p) k vs w.nodes ws (rw t at e) y.place small (omega (arith, w.few t)) (w.roomy t) (w.knows.typed t));
                        begun = begun-added k (drop (p + 1) r) w.nodes w.knows.begun;
                      };
                  same = called_at ∙ rw (z, ap (λ (s : Counts). s.nodes) is, w.is);
                }

        pub clear : k ≡ Cache → Clear ws s.nodes
        clear i =
            let t = sym (kind-home h.table (at r p) Cache (rw i at e)) in
            rw w.is (next-clear r ws w.nodes (omega (arith, w.short)) (omega (arith, w.few t)) (w.roomy t) (w.knows.typed t))

pub cell-fits : (w : Width) (r : List ℕ) (p i t : ℕ) → good_cell w r p i t ≡ true → suc p + width (body (Cell w)) ≤ length r
cell-fits w r p i t good =
    leb-true (suc p + width (body (Cell w))) (length r) (both_true (leb (suc p + width (body (Cell w))) (length r)) _ (both_true (eqb (at r p) (kind_number (Cell w))) _ good).1).0

cell-kind : (w : Width) → kind_of hmat (kind_number (Cell w)) ≡ some (Cell w)
unfolding kind_of
cell-kind byte = refl
cell-kind pair = refl

noted-cell : (w : Width) (i : ℕ) (ws : List ℕ) → noted (Cell w) i ws ≡ ws
noted-cell byte i ws = refl
noted-cell pair i ws = refl

-- a good cell leaves the state as it is
module _ (r : List ℕ) (h : Head) (q p : ℕ) (s : State) (ws : List ℕ) (w : Stands r h q p (counts s) ws) (x : code.Width) (i t : ℕ) (own : s.table ≡ Hmat) (behind : s.newest ≡ is.Matrix x i t)
    (good : good_cell (meant_width x) r p i t ≡ true) where
  tests : (at r p ≡ kind_number (Cell (meant_width x))) × (in_counts (meant_width x) (drop (p + 1) r) i t ≡ true)
  tests =
      let v = meant_width x in
      let (a, y) = both_true (eqb (at r p) (kind_number (Cell v))) _ good in
      (eqb-true (at r p) (kind_number (Cell v)) a, (both_true (leb (suc p + width (body (Cell v))) (length r)) _ y).1)

  named : kind_of h.table (at r p) ≡ some (Cell (meant_width x))
  named = let m : meant s.table ≡ h.table = ap (λ (s : Counts). meant s.table) w.is ∙ meant-named h.table in rw (← m, own, tests.0) (cell-kind (meant_width x))

  turns : TurnsWith ws (Cell (meant_width x)) (drop (p + 1) r) (counts s) (Ok s)
  unfolding body step refs_good
  turns b u ns m e k z y =
      let v = meant_width x in
      let bs = drop (p + 1) r in
      let (c, d) = both_true (ltb (value (part bs 0 (octets v))) i) _ tests.1 in
      sym (set-turn b u (counts s) m (drop (p + 1) r) v (Cell v) refl _ _ _ s.short (λ ms. refl) (λ ok vs. refl) i t ns x e behind
      ∙ rw (← kept-width b u ns (counts s) x i t e behind, eq-eqb (octets v) (octets v) refl, cell-fields v bs, c, d))

  pub cell-passed : Stands r h q (p + 1 + width (body (Cell (meant_width x)))) (counts s) ws
  cell-passed =
      let v = meant_width x in
      let l : suc p + width (body (Cell v)) ≤ length r = cell-fits v r p i t good in
      rw (eq-eqb s.nodes s.nodes refl, noted-cell v s.nodes ws) at (goes r h q p (counts s) ws w (omega arith) (Cell v) named (rw behind refl) (rw length-drop (omega arith)) (Ok s) turns s refl)

-- ---- the head

module _ (r : List ℕ) where
  pub no-head : (value (part r 0 1) ≡ 1 → ⊥) → meaning r ≡ refused 1 0
  unfolding meaning headed
  no-head e = rw (value-byte r 0, ne_eqb _ _ e)

  module _ (e : value (part r 0 1) ≡ 1) where
    pub cut-head : length r < 28 → meaning r ≡ refused 3 0
    unfolding meaning headed
    cut-head l = rw (value-byte r 0, e, lt-ltb _ _ l)

    module _ (l : 28 ≤ length r) where
      pub no_table : table_of (value (part r 1 1)) ≡ none → meaning r ≡ refused 5 1
      unfolding meaning headed
      no_table z = rw (value-byte r 0, e, le-ltb _ _ l, value-byte r 1, z)

      pub headed-by : (t : Table) → table_of (value (part r 1 1)) ≡ some t → meaning r ≡ whole r (head_of t (part r 2 26))
      unfolding meaning headed
      headed-by t z = rw (value-byte r 0, e, le-ltb _ _ l, value-byte r 1, z)
