-- What a recipe of the older tables means has not moved, but for the place of 5, the split of 6 and the limit of 8: record by record, since of the two lists of faults one has a line more and a higher limit, and no node of these tables lacks an entry.
use mathlib.Core.Path.{◌≡◌, refl, sym, ap, ◌∙◌}
use Prim.Native.Nat.{ℕ, suc, ◌+◌, ◌<◌}
use mathlib.Core.List.{List, [], ◌∷◌, ◌++◌}
use mathlib.Core.Bool.{Bool, true, false, not}
use mathlib.Core.Option.{Option, none, some}
use native.Mathlib.Nat.{add-zero}
use native.Mathlib.Omega.{arith}
use lib.ListN.{length, drop}
use lib.Dec.{eqb, ltb}
use borrow.Author.Tests.{ne_eqb, eqb-true, eqb-false, le-ltb, ltb-false}
use Rattle.format.specs.Bytes.{pick, all, first_of, Answer, given, and_then, or_refused, unless, at, part}
use Rattle.format.specs.Layout.{refs_good}
use Rattle.format.specs.Table.{Table, pptt, srat, hmat, cedt, code, front, limit, Head, head_of}
use Rattle.format.specs.Form.{processor, side, byte, pair}
use Rattle.format.specs.Node.{Node, sizes, starts, is_ordinal, at_ordinal}
use Rattle.format.specs.Kind.{Kind, Processor, Resource, Cache, Memory, Acpi, Pci, Rintc, Domain, Matrix, Initiator, Target, Cell, Side, Handle, Bridge, Window, WindowTarget, Xor, Map, no_kind, body, Part, opens, sets, apart, part_in, suits, width_behind}
use Rattle.format.specs.Field.{bad_in}
use Rattle.format.specs.Recipe.{Calls, done, bad_kind, cut_off, called, cut, Newest, a_list, a_matrix, other, newest, joined, setting, step, added, fault, fault_at, since, lacking, Meaning, run, table_of, headed, meaning}
use Rattle.laws.specs.Before.{limit_before, fault_before, is_wide, run_before, table_before, headed_before, meaning_before, Moves, good, same, field, kind, long, NoRintc, Narrow, Stays, BuildsSame}
use Rattle.laws.proofs.Tests.{both_right}
use Rattle.laws.proofs.Finds.{never, found-test, found_in, then-given, unless-given}
use Rattle.laws.proofs.Fields.{all-bad}
use Rattle.laws.proofs.Links.{refs-backward}
use Rattle.laws.proofs.Grows.{View, sees_processor, sees_matrix, sees_side, sees_window, sees_xor, sees_other, view, needless, kind_home}
use Rattle.laws.proofs.Builds.{other-table, kind-home, Each, cut-each}
use Rattle.laws.proofs.Calls.{Free}

module _ {A : Type 0} where
  -- of one record: where it is good, the rest moves as it does
  moves-record : (placed ranged backward named full over past : Bool) (p d : ℕ) (old new : Answer A) → (named ≡ true → backward ≡ true) → (ranged ≡ false → 0 < d) → (over ≡ false → past ≡ false) → Moves old new
      → (let n : ℕ = first_of ((not placed, 4) ∷ (not ranged, 5) ∷ (not backward, 6) ∷ (not named, 10) ∷ (full, 7) ∷ (past, 8) ∷ []) in
      Moves (unless (first_of ((not placed, 4) ∷ (not ranged, 5) ∷ (not named, 6) ∷ (full, 7) ∷ (over, 8) ∷ [])) p old) (unless n (p + pick (eqb n 5) d 0) new))
  moves-record false r b c f o l p d old new w z y m = rw (add-zero p) (same 4 p (λ e. omega arith))
  moves-record true false b c f o l p d old new w z y m = field p d (z refl)
  moves-record true true false true f o l p d old new w z y m = never (w refl)
  moves-record true true false false f o l p d old new w z y m = rw (add-zero p) (same 6 p (λ e. omega arith))
  moves-record true true true false f o l p d old new w z y m = rw (add-zero p) (kind p)
  moves-record true true true true true o l p d old new w z y m = rw (add-zero p) (same 7 p (λ e. omega arith))
  moves-record true true true true false true l p d old new w z y m = long p _
  moves-record true true true true false false true p d old new w z y m = never (sym (y refl))
  moves-record true true true true false false false p d old new w z y m = m

-- within the limit before is within the limit
higher : (n : ℕ) → ltb limit_before n ≡ false → ltb limit n ≡ false
higher n e = le-ltb limit n (omega (arith, ltb-false limit_before n e))

-- a field that is bad does not begin at the kind byte
bad-behind : (k : Kind) (ts : List Bool) → all ts ≡ false → 0 < bad_in k ts
bad-behind k ts e = omega (arith, eqb-false (bad_in k ts) 0 (sym (all-bad 1 (body k) ts (omega arith)) ∙ e))

-- ---- the older tables

-- no node lacks nothing
lacks-other : Free []
unfolding lacking
lacks-other o = refl

-- a list that needs no entry lacks none, whatever joined it
resource-free : (vs : List ℕ) {ns : List Node} {x : Newest} → View ns x → Free (joined Resource vs x).nodes
unfolding joined
resource-free vs (sees_processor {n} {us} {ns}) o = needless Resource 58 (suc n) (processor (suc (suc n))) (us ++ vs) ns o
resource-free vs sees_matrix o = lacks-other o
resource-free vs sees_side o = lacks-other o
resource-free vs sees_window o = lacks-other o
resource-free vs sees_xor o = lacks-other o
resource-free vs sees_other o = lacks-other o

handle-free : (vs : List ℕ) {ns : List Node} {x : Newest} → View ns x → Free (joined Handle vs x).nodes
unfolding joined
handle-free vs sees_processor o = lacks-other o
handle-free vs sees_matrix o = lacks-other o
handle-free vs (sees_side {n} {us} {ns}) o = needless Handle 65535 (suc n) (side (suc (suc n))) (us ++ vs) ns o
handle-free vs sees_window o = lacks-other o
handle-free vs sees_xor o = lacks-other o
handle-free vs sees_other o = lacks-other o

setting-free : (tests : ℕ → ℕ → List Bool) (place : ℕ → ℕ → ℕ) (v : ℕ) (x : Newest) → Free (setting tests place v x).nodes
unfolding setting lacking
setting-free tests place v (a_list j least most n f us ns) o = refl
setting-free tests place v (a_matrix i t us ns) o = refl
setting-free tests place v other o = refl

-- what the newest node is after a record of an older table, it lacks nothing
step-free : (k : Kind) (vs : List ℕ) (ns : List Node) → (kind_home k ≡ cedt → ⊥) → Free (added k vs ns)
unfolding step lacking
step-free Processor vs ns w o = needless Resource 58 0 (processor 1) vs ns o
step-free Resource vs ns w o = resource-free vs (view ns) o
step-free Cache vs ns w o = refl
step-free Memory vs ns w o = refl
step-free Acpi vs ns w o = refl
step-free Pci vs ns w o = refl
step-free Rintc vs ns w o = refl
step-free Domain vs ns w o = refl
step-free (Matrix x) vs ns w o = refl
step-free (Initiator x) vs ns w o = setting-free _ _ _ (newest ns) o
step-free (Target x) vs ns w o = setting-free _ _ _ (newest ns) o
step-free (Cell x) vs ns w o = setting-free _ _ _ (newest ns) o
step-free Side vs ns w o = needless Handle 65535 0 (side 1) vs ns o
step-free Handle vs ns w o = handle-free vs (view ns) o
step-free Bridge vs ns w o = absurd (w refl)
step-free Window vs ns w o = absurd (w refl)
step-free WindowTarget vs ns w o = absurd (w refl)
step-free Xor vs ns w o = absurd (w refl)
step-free Map vs ns w o = absurd (w refl)

-- ---- records of one table

-- every kind is the table's
abbrev Own : Table → Calls → Type 0
Own t = Each (λ k vs. kind_home k ≡ t) (λ n. Unit) (λ k. kind_home k ≡ t)

cut-own : (t : Table) (n p : ℕ) (bs : List ℕ) → Own t (cut t n p bs)
cut-own t n p bs = cut-each t (λ bs. Unit) (λ k vs. kind_home k ≡ t) (λ n. Unit) (λ k. kind_home k ≡ t) (λ b bs s. tt) (λ b. tt) (kind-home t) (λ b k bs e s l. kind-home t b k e) n p bs tt

-- no kind is retired
abbrev Kept : Calls → Type 0
Kept = Each (λ k vs. Unit) (λ n. n ≡ 2) (λ k. Unit)

-- of a table without a retired kind
cut-kept : (t : Table) → ((b : ℕ) → no_kind t b ≡ 2) → (n p : ℕ) (bs : List ℕ) → Kept (cut t n p bs)
cut-kept t i n p bs = cut-each t (λ bs. Unit) (λ k vs. Unit) (λ n. n ≡ 2) (λ k. Unit) (λ b bs s. tt) i (λ b k e. tt) (λ b k bs e s l. tt) n p bs tt

no-rintc : (cs : Calls) → NoRintc cs → Kept cs
no-rintc done w = tt
no-rintc (bad_kind n p) w = w
no-rintc (cut_off p k) w = tt
no-rintc (called p k vs rest) w = (tt, no-rintc rest w.1)

older-kept : (t : Table) (bs : List ℕ) → (t ≡ cedt → ⊥) → (t ≡ srat → NoRintc (cut srat 0 28 bs)) → Kept (cut t 0 28 bs)
unfolding no_kind
older-kept pptt bs w h = cut-kept pptt (λ b. refl) 0 28 bs
older-kept srat bs w h = no-rintc (cut srat 0 28 bs) (h refl)
older-kept hmat bs w h = cut-kept hmat (λ b. refl) 0 28 bs
older-kept cedt bs w h = absurd (w refl)

-- a kind with counts or indices of two bytes is of HMAT
narrow-home : (k : Kind) → (kind_home k ≡ hmat → ⊥) → is_wide (part_in k) ≡ false
narrow-home Processor w = refl
narrow-home Resource w = refl
narrow-home Cache w = refl
narrow-home Memory w = refl
narrow-home Acpi w = refl
narrow-home Pci w = refl
narrow-home Rintc w = refl
narrow-home Domain w = refl
narrow-home (Matrix x) w = absurd (w refl)
narrow-home (Initiator x) w = absurd (w refl)
narrow-home (Target x) w = absurd (w refl)
narrow-home (Cell x) w = absurd (w refl)
narrow-home Side w = refl
narrow-home Handle w = refl
narrow-home Bridge w = refl
narrow-home Window w = refl
narrow-home WindowTarget w = refl
narrow-home Xor w = refl
narrow-home Map w = refl

own-narrow : (t : Table) → (t ≡ hmat → ⊥) → (cs : Calls) → Own t cs → Narrow cs
own-narrow t w done own = tt
own-narrow t w (bad_kind n p) own = tt
own-narrow t w (cut_off p k) own = narrow-home k (λ e. w (sym own ∙ e))
own-narrow t w (called p k vs rest) (own, behind) = (narrow-home k (λ e. w (sym own ∙ e)), own-narrow t w rest behind)

older-narrow : (t : Table) (bs : List ℕ) → (t ≡ hmat → Narrow (cut hmat 0 28 bs)) → Narrow (cut t 0 28 bs)
older-narrow pptt bs h = own-narrow pptt (other-table refl) (cut pptt 0 28 bs) (cut-own pptt 0 28 bs)
older-narrow srat bs h = own-narrow srat (other-table refl) (cut srat 0 28 bs) (cut-own srat 0 28 bs)
older-narrow hmat bs h = h refl
older-narrow cedt bs h = own-narrow cedt (other-table refl) (cut cedt 0 28 bs) (cut-own cedt 0 28 bs)

-- behind matrices whose counts are a byte, a record without others is placed by its node alone, and leaves them so
narrow-part : (x : Part) → is_wide x ≡ false → (suits x byte ≡ true) × (width_behind x byte ≡ byte)
narrow-part (opens byte) e = (refl, refl)
narrow-part (opens pair) e = never (sym e)
narrow-part (sets byte) e = (refl, refl)
narrow-part (sets pair) e = never (sym e)
narrow-part apart e = (refl, refl)

older-table : (c : ℕ) → (c ≡ code cedt → ⊥) → table_of c ≡ table_before c
older-table c w = rw (ne_eqb c (code cedt) w) refl

-- a table of document 01 is none that came later
table-older : (c : ℕ) (t : Table) → table_before c ≡ some t → t ≡ cedt → ⊥
table-older c t e = found_in (λ t. t ≡ cedt → ⊥) (λ t. eqb c (code t)) (pptt ∷ srat ∷ hmat ∷ []) t (other-table refl, (other-table refl, (other-table refl, tt))) e

-- the code that names a table is its own
table-code : (c : ℕ) (t : Table) → table_before c ≡ some t → c ≡ code t
table-code c t e = eqb-true c (code t) (found-test (λ t. eqb c (code t)) (pptt ∷ srat ∷ hmat ∷ []) t e)

-- ---- the pass

moves-run : (h : Head) (q : ℕ) (ns : List Node) (cs : Calls) → (h.table ≡ cedt → ⊥) → Own h.table cs → Kept cs → Narrow cs → Free ns → Moves (run_before h ns cs) (run h q byte ns cs)
unfolding run_before run fault_before fault fault_at
moves-run h q ns done older own kept narrow free = rw (free none) (good _)
moves-run h q ns (bad_kind n p) older own kept narrow free = rw (free none, kept) (same 2 p (λ e. omega arith))
moves-run h q ns (cut_off p k) older own kept narrow free = rw (free (some k), narrow) (same 3 p (λ e. omega arith))
moves-run h q ns (called p k vs rest) older (own, behind) (i, kept) (n, narrow) free =
    let s = step k vs ns in
    let (suited, stays) = narrow-part (part_in k) n in
    let size = front h.table + sizes s.nodes in
    rw (free (some k), n, suited, both_right s.placed, stays)
    (moves-record s.placed (all s.ranges) (refs_good (is_ordinal (length s.earlier)) (body k) vs) (refs_good (at_ordinal (starts h.table s.earlier)) (body k) vs)
    s.full (ltb limit_before size) (ltb limit size) p (bad_in k s.ranges) (run_before h (added k vs ns) rest) (run h (since ns (added k vs ns) p q) byte (added k vs ns) rest)
    (refs-backward h.table s.earlier (body k) vs) (bad-behind k s.ranges) (higher size)
    (moves-run h (since ns (added k vs ns) p q) (added k vs ns) rest older behind kept narrow (step-free k vs ns (λ e. older (sym own ∙ e)))))

pub stays : (r : List ℕ) → Stays r
unfolding meaning_before meaning headed_before headed
stays r (older, current, narrow) = rw (older-table (at r 1) older) (by (eqb (at r 0) 1) (ltb (length r) 28) (table_before (at r 1)) refl)
  where
    by : (x y : Bool) (o : Option Table) → table_before (at r 1) ≡ o
        → (let tests : ℕ = first_of ((not x, 1) ∷ (y, 3) ∷ []) in
        Moves (and_then (unless tests 0 (and_then (or_refused 5 0 o) (λ t. given (head_of t (part r 2 26))))) (λ h. run_before h [] (cut h.table 0 28 (drop 28 r))))
        (and_then (unless tests 0 (and_then (or_refused 5 1 o) (λ t. given (head_of t (part r 2 26))))) (λ h. run h 0 byte [] (cut h.table 0 28 (drop 28 r)))))
    by false y o e = same 1 0 (λ e. omega arith)
    by true true o e = same 3 0 (λ e. omega arith)
    by true false none e = field 0 1 (omega arith)
    by true false (some t) e =
        let w = table-older (at r 1) t e in
        moves-run (head_of t (part r 2 26)) 0 [] (cut t 0 28 (drop 28 r)) w (cut-own t 0 28 (drop 28 r)) (older-kept t (drop 28 r) w (λ i. current (table-code (at r 1) t e ∙ ap code i)))
        (older-narrow t (drop 28 r) (λ i. narrow (table-code (at r 1) t e ∙ ap code i))) lacks-other

-- ---- what built

-- records that were good have no counts or indices of two bytes
built-narrow : (h : Head) (ns : List Node) (cs : Calls) (m : Meaning) → run_before h ns cs ≡ given m → Narrow cs
unfolding run_before
built-narrow h ns done m e = tt
built-narrow h ns (bad_kind n p) m e = tt
built-narrow h ns (cut_off p k) m e = let z : ◌≡◌ {A = ℕ} 0 1 = cc in absurd (omega arith)
built-narrow h ns (called p k vs rest) m e =
    let (z, d) = unless-given (pick (is_wide (part_in k)) 2 (fault_before h.table ns k vs)) p (run_before h (added k vs ns) rest) e in
    (by (is_wide (part_in k)) z, built-narrow h (added k vs ns) rest m d)
  where
    by : (x : Bool) → pick x 2 (fault_before h.table ns k vs) ≡ 0 → x ≡ false
    by true z = absurd (omega arith)
    by false z = refl

-- the answer that moved from what was given is the same
moved-given : {A : Type 0} (a : A) (x y : Answer A) → x ≡ given a → Moves x y → y ≡ given a
moved-given a x y e (good b) = e
moved-given a x y e (same n p w) = let z : ◌≡◌ {A = ℕ} 0 1 = cc in absurd (omega arith)
moved-given a x y e (field p d w) = let z : ◌≡◌ {A = ℕ} 0 1 = cc in absurd (omega arith)
moved-given a x y e (kind p) = let z : ◌≡◌ {A = ℕ} 0 1 = cc in absurd (omega arith)
moved-given a x y e (long p b) = let z : ◌≡◌ {A = ℕ} 0 1 = cc in absurd (omega arith)

hmat-head : (r : List ℕ) (h : Head) → at r 1 ≡ code hmat → headed_before r ≡ given h → head_of hmat (part r 2 26) ≡ h
unfolding headed_before
hmat-head r h i e =
    let (z, g) = unless-given (first_of ((not (eqb (at r 0) 1), 1) ∷ (ltb (length r) 28, 3) ∷ [])) 0 (given (head_of hmat (part r 2 26))) (rw i at e) in
    cc

pub builds-same : (r : List ℕ) → BuildsSame r
unfolding meaning_before
builds-same r i m e =
    let (h, d, f) = then-given (headed_before r) (λ h. run_before h [] (cut h.table 0 28 (drop 28 r))) e in
    let head = head_of hmat (part r 2 26) in
    let own : head ≡ h = hmat-head r h i d in
    let narrow = built-narrow head [] (cut hmat 0 28 (drop 28 r)) m (rw (← own) at f) in
    moved-given m (meaning_before r) (meaning r) e (stays r (λ c. omega arith, λ c. absurd (omega arith), λ c. narrow))
