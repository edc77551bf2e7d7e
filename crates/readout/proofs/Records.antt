-- The calls of a record, read by places: of a record without a list it is one call, of the others the list's calls follow it.
use mathlib.Core.Path.{◌≡◌, refl, sym, ap, subst, ◌∙◌}
use Prim.Native.Nat.{ℕ, zero, suc, ◌+◌, ◌*◌, ◌/◌, ◌%◌, ◌≤◌}
use mathlib.Core.List.{List, [], ◌∷◌, ◌++◌, append_assoc}
use mathlib.Core.Bool.{Bool, true, false}
use native.Mathlib.Omega.{arith}
use native.Mathlib.Nat.{mul-le-mul}
use lib.Dec.{eqb}
use lib.Seq.{take_at, drop_at, drop-drop}
use lib.ListN.{length, length-append, take, drop, replicate, replicate-append-replicate}
use Rattle.format.specs.Bytes.{pick, at, value, part, over}
use Rattle.format.specs.Layout.{Item, fld, to, as_is, width, lay_with, fields_with}
use Rattle.format.specs.Form.{Form, processor, cache, memory, acpi, pci, rintc, old_rintc, domain, matrix, side, bridge, window, xor, Width, byte, pair, most, narrowest, layout, ways}
use Rattle.format.specs.Row.{initiators, matrices, sides, windows, xors, form_in}
use Rattle.format.specs.Kind.{Kind, Processor, Resource, Cache, Memory, Acpi, Pci, Rintc, Domain, Matrix, Initiator, Target, Cell, Side, Handle, Bridge, Window, WindowTarget, Xor, Map, kind_number, body}
use Rattle.format.specs.Normal.{call, each, each_set, settings, matrix_calls, calls, calls_of_node}
use Rattle.laws.specs.Offsets.{fields_at, trimmed}
use Rattle.format.specs.Node.{Node, node_at}
use Rattle.format.specs.Read.{shown}
use Rattle.laws.proofs.Finds.{never}
use Rattle.laws.proofs.Shapes.{Plain, plain-fld}
use Rattle.laws.proofs.Fields.{length-call, fields-plain}
use Rattle.laws.proofs.Offsets.{fields-at, node_at_lem, form-known}
use Rattle.pptt.specs.declared.ProcessorHandle.{ProcessorHandle}
use Rattle.pptt.specs.declared.ProcessorNode.{ProcessorNode}
use Rattle.pptt.specs.declared.CacheHandle.{CacheHandle}
use Rattle.pptt.specs.declared.CacheNode.{CacheNode}
use Rattle.pptt.specs.Processor.{processor_shown, processor_in}
use Rattle.pptt.specs.Cache.{cache_shown, cache_node, cache_before}
use Rattle.hmat.specs.declared.SystemLocality.{SystemLocality}
use Rattle.hmat.specs.declared.MemorySideCache.{MemorySideCache}
use Rattle.hmat.specs.Hmat.{matrix_form, matrix_fields, matrix_call, matrix_head, side_form, side_fields, side_head}
use Rattle.cedt.specs.declared.CxlFixedMemory.{CxlFixedMemory}
use Rattle.cedt.specs.declared.XorInterleaveMath.{XorInterleaveMath}
use Rattle.cedt.specs.Cedt.{window_form, window_fields, window_node, maths_form, maths_fields, maths_head}
use Rattle.read.proofs.Refs.{plain_row}
use Rattle.readout.specs.Laid.{Laid, Calls, up_to}
use Rattle.readout.specs.Places.{setting, calls_in}
use Rattle.readout.proofs.Lists.{length-each, low_word, resource_short, up_to-same, entry, calls_each, each-laid}

-- the calls of a record are those of its fields by their places
pub calls_at : (g : ℕ → ℕ) (f : Form) (bs : List ℕ) → calls_in g f bs ≡ calls f (fields_at g (layout f) bs 0)
unfolding calls_in
calls_at g f bs = ap (calls f) (fields-at g (layout f) bs 0)

-- a processor's calls are as long whatever its references are
pub length-processor : (g : ℕ → ℕ) (n : ℕ) (bs : List ℕ) → length (calls_in g (processor n) bs) ≡ 13 + 5 * n
unfolding calls layout body width
length-processor g n bs =
    let a = length-append (call Processor (take 3 (fields_at g (layout (processor n)) bs 0))) (each Resource (fields_at g (replicate n (to 1)) bs 20)) in
    rw (calls_at g (processor n) bs) (a ∙ rw (length-call Processor (take 3 (fields_at g (layout (processor n)) bs 0)), length-each Resource g 1 n bs 20))

-- in a list of plain numbers there is no reference
pub list-plain : (g : ℕ → ℕ) (n w : ℕ) (bs : List ℕ) (p : ℕ) → fields_at g (replicate n (fld w)) bs p ≡ fields_at as_is (replicate n (fld w)) bs p
list-plain g n w bs p =
    let is = replicate n (fld w) in
    sym (fields-at g is bs p) ∙ fields-plain g as_is is (drop p bs) (plain-fld n w) ∙ fields-at as_is is bs p

-- ---- records with a reference: the node that a record's own reading gives, under its handle's ordinal

-- g: how a reference is read; h: the handle by which the node is written
module _ (g : ℕ → ℕ) (bs : List ℕ) where
  pub processor-named : (n : ProcessorNode) (h : ProcessorHandle) (k : ℕ) → processor_shown n ≡ processor_in bs → h.0 ≡ g n.parent.0 % 4294967296
      → call Processor (n.flags ∷ h.0 ∷ n.acpi_processor_id ∷ []) ≡ call Processor (take 3 (fields_at g (layout (processor k)) bs 0))
  unfolding processor_in shown layout lay_with body
  processor-named n h k e r =
      let i = value (part bs 16 4) in
      let s : processor_shown n ≡ shown (processor i) (fields_at as_is (layout (processor i)) bs 0) = e ∙ ap (shown (processor i)) (fields-at as_is (layout (processor i)) bs 0) in
      let w : call Processor (n.flags ∷ h.0 ∷ n.acpi_processor_id ∷ []) ≡ call Processor (n.flags ∷ g n.parent.0 ∷ n.acpi_processor_id ∷ []) = rw (low_word h.0 (g n.parent.0) r) in
      w ∙ ap (λ (vs : List ℕ). call Processor (at vs 0 ∷ g (at vs 1) ∷ at vs 2 ∷ [])) s

  pub cache-named : (n : CacheNode) (h : CacheHandle) → cache_node n ≡ node_at as_is cache bs → h.0 ≡ g n.next_level.0 % 4294967296
      → calls_of_node (cache_node (cache_before n h)) ≡ calls_in g cache bs
  unfolding calls layout lay_with body
  cache-named n h e r =
      let s : cache_shown n ≡ fields_at as_is (layout cache) bs 0 = ap (λ (m : Node). m.values) (e ∙ node_at_lem as_is cache bs) in
      let w : call Cache (n.flags ∷ h.0 ∷ drop 2 (cache_shown n)) ≡ call Cache (n.flags ∷ g n.next_level.0 ∷ drop 2 (cache_shown n)) = rw (low_word h.0 (g n.next_level.0) r) in
      w ∙ ap (λ (vs : List ℕ). call Cache (at vs 0 ∷ g (at vs 1) ∷ drop 2 vs)) s ∙ sym (calls_at g cache bs)

-- resources, each of whose references is laid by its low bytes
abbrev pub resource_list : (ℕ → ℕ) → List ℕ → Calls
resource_list g bs = calls_each g (to 1) bs Resource 20 (λ v. g v % 4294967296) resource_short

pub resources-laid : (g : ℕ → ℕ) (bs : List ℕ) (n : ℕ) {a b : List ℕ} {at q : ℕ} → Laid a b at (up_to (resource_list g bs).of n) q
    → Laid a b at (each Resource (fields_at g (replicate n (to 1)) bs 20)) q × (q ≤ at + suc (width (body Resource)) * n)
unfolding lay_with body
resources-laid g bs n {a} {b} {at} {q} l =
    let e = up_to-same (λ i. call Resource (g (entry g (to 1) bs 20 i) % 4294967296 ∷ [])) (λ i. call Resource (g (entry g (to 1) bs 20 i) ∷ [])) n (λ i k. rw (low_word _ (g (entry g (to 1) bs 20 i)) refl)) in
    each-laid g (to 1) bs Resource g (λ v. refl) n 20 (subst (λ (xs : List ℕ). Laid a b at xs q) e l)

-- ---- records with a list: the node before it, and the list

pub matrix-counts : (bs : List ℕ) (n : SystemLocality) → matrix_head n ≡ trimmed 4 (node_at as_is (form_in (matrices byte) bs) bs)
    → (n.initiators ≡ value (part bs 12 4)) × (n.targets ≡ value (part bs 16 4))
unfolding form_in node_at
matrix-counts bs n e =
    let f : matrix_form n ≡ matrix (value (part bs 12 4)) (value (part bs 16 4)) = ap (λ (m : Node). m.form) e in
    (cc, cc)

pub matrix-calls : (g : ℕ → ℕ) (bs : List ℕ) (n : SystemLocality) (w : Width) → matrix_head n ≡ trimmed 4 (node_at as_is (form_in (matrices byte) bs) bs) → w ≡ narrowest n.initiators n.targets
    → calls_in g (matrix (value (part bs 12 4)) (value (part bs 16 4))) bs
    ≡ call (Matrix (narrowest n.initiators n.targets)) (matrix_call n) ++ settings w n.initiators n.targets (fields_at g (replicate (n.initiators + n.targets) (fld 4) ++ replicate (n.initiators * n.targets) (fld 2)) bs 32)
unfolding form_in calls matrix_calls layout
matrix-calls g bs n w e q =
    let (i, t) = matrix-counts bs n e in
    let I = value (part bs 12 4) in
    let T = value (part bs 16 4) in
    let s : matrix_fields n ≡ take 4 (fields_at g (layout (matrix I T)) bs 0) = ap (λ (m : Node). m.values) (e ∙ ap (trimmed 4) (node_at_lem as_is (matrix I T) bs)) in
    let more = settings (narrowest I T) I T (fields_at g (replicate (I + T) (fld 4) ++ replicate (I * T) (fld 2)) bs 32) in
    rw (calls_at g (matrix I T) bs, q, i, t) (ap (λ (vs : List ℕ). call (Matrix (narrowest I T)) (vs ++ (I ∷ T ∷ [])) ++ more) (sym s))

-- a matrix's own call is at most 16 bytes
pub matrix-short : (w : Width) (vs : List ℕ) → length (call (Matrix w) vs) ≤ 16
unfolding body width
matrix-short byte vs = omega (arith, length-call (Matrix byte) vs)
matrix-short pair vs = omega (arith, length-call (Matrix pair) vs)

-- g: how a reference is read, of which there are none; head: the node before the list, of the m fields that the call K has; J: the call of each number
module _ (g : ℕ → ℕ) (f : Form) (bs : List ℕ) (head : Node) (m : ℕ) (e : head ≡ trimmed m (node_at as_is f bs)) where
  list-calls : (K J : Kind) (vs : List ℕ) → Plain (layout f) → ((us : List ℕ) → calls f us ≡ call K (take m us) ++ each J (drop m us)) → drop m (fields_at as_is (layout f) bs 0) ≡ vs
      → calls_in g f bs ≡ call K head.values ++ each J vs
  unfolding calls_in node_at
  list-calls K J vs h c d =
      let s : take m (fields_with as_is (layout f) bs) ≡ head.values = sym (ap (λ (x : Node). x.values) e) in
      let l : drop m (fields_with as_is (layout f) bs) ≡ vs = rw (fields-at as_is (layout f) bs 0) d in
      rw (fields-plain g as_is (layout f) bs h, c, s, l)

module _ (g : ℕ → ℕ) (bs : List ℕ) where
  pub side-calls : (n : MemorySideCache) → side_head n ≡ trimmed 3 (node_at as_is (form_in sides bs) bs)
      → calls_in g (form_in sides bs) bs ≡ call Side (side_fields n) ++ each Handle (fields_at as_is (replicate n.smbios_handles (fld 2)) bs 32)
  unfolding form_in calls layout
  side-calls n e =
      let f : side_form n ≡ form_in sides bs = form-known 3 _ bs e in
      let i : n.smbios_handles ≡ value (part bs 30 2) = cc in
      rw i (list-calls g (form_in sides bs) bs (side_head n) 3 e Side Handle _ (plain_row sides bs tt) (λ us. refl) refl)

  pub window-calls : (n : CxlFixedMemory) → window_node n ≡ trimmed 7 (node_at as_is (form_in windows bs) bs)
      → calls_in g (form_in windows bs) bs ≡ call Window (window_fields n) ++ each WindowTarget (fields_at as_is (replicate (ways n.interleave_ways) (fld 4)) bs 36)
  unfolding form_in calls layout
  window-calls n e =
      let f : window_form n ≡ form_in windows bs = form-known 7 _ bs e in
      let i : ways n.interleave_ways ≡ ways (value (part bs 24 1)) = cc in
      rw i (list-calls g (form_in windows bs) bs (window_node n) 7 e Window WindowTarget _ (plain_row windows bs tt) (λ us. refl) refl)

  pub maths-calls : (n : XorInterleaveMath) → maths_head n ≡ trimmed 1 (node_at as_is (form_in xors bs) bs)
      → calls_in g (form_in xors bs) bs ≡ call Xor (maths_fields n) ++ each Map (fields_at as_is (replicate n.xormaps (fld 8)) bs 8)
  unfolding form_in calls layout
  maths-calls n e =
      let f : maths_form n ≡ form_in xors bs = form-known 1 _ bs e in
      let i : n.xormaps ≡ value (part bs 7 1) = cc in
      rw i (list-calls g (form_in xors bs) bs (maths_head n) 1 e Xor Map _ (plain_row xors bs tt) (λ us. refl) refl)

-- ---- records of one call, by their nodes

abbrev one : Form → Bool
one (processor n) = false
one cache = true
one memory = true
one acpi = true
one pci = true
one rintc = true
one old_rintc = true
one domain = true
one (matrix i t) = false
one (side n) = false
one (bridge n) = true
one (window n) = false
one (xor n) = false

one-short : (f : Form) (vs : List ℕ) → one f ≡ true → length (calls f vs) ≤ 28
unfolding calls body width
one-short (processor n) vs h = never h
one-short cache vs h = rw (length-call Cache vs) (omega arith)
one-short memory vs h = rw (length-call Memory vs) (omega arith)
one-short acpi vs h = rw (length-call Acpi vs) (omega arith)
one-short pci vs h = rw (length-call Pci vs) (omega arith)
one-short rintc vs h = rw (length-call Rintc vs) (omega arith)
one-short old_rintc vs h = omega arith
one-short domain vs h = rw (length-call Domain vs) (omega arith)
one-short (matrix i t) vs h = never h
one-short (side n) vs h = never h
one-short (bridge n) vs h = rw (length-call Bridge vs) (omega arith)
one-short (window n) vs h = never h
one-short (xor n) vs h = never h

-- n: the node of a record bs
module _ (f : Form) (bs : List ℕ) (n : Node) (e : n ≡ node_at as_is f bs) where
  pub node-short : one f ≡ true → length (calls_of_node n) ≤ 28
  unfolding node_at
  node-short h = rw e (one-short f (fields_with as_is (layout f) bs) h)

  pub node-length : (g : ℕ → ℕ) (r : ℕ) → Plain (layout f) → r ≡ length (calls_of_node n) → r ≡ length (calls_in g f bs)
  unfolding node_at calls_in
  node-length g r h l = l ∙ ap length (ap calls_of_node e ∙ ap (calls f) (sym (fields-plain g as_is (layout f) bs h)))

  pub node-laid : (g : ℕ → ℕ) (a b : List ℕ) (p q r : ℕ) → Plain (layout f) → b ≡ over a p (calls_of_node n) → r ≡ length (calls_of_node n) → q ≡ p + r
      → Laid a b p (calls_in g f bs) q
  unfolding node_at calls_in
  node-laid g a b p q r h w l m =
      let z : calls_of_node n ≡ calls f (fields_with g (layout f) bs) = ap calls_of_node e ∙ ap (calls f) (sym (fields-plain g as_is (layout f) bs h)) in
      record { bytes = w ∙ ap (over a p) z; next = m ∙ ap (λ (x : ℕ). p + x) (l ∙ ap length z) }

-- an initiator has one call, whatever its handle
pub initiator-one : (bs : List ℕ) → one (form_in initiators bs) ≡ true
unfolding form_in
initiator-one bs = by (eqb (at bs 3) 0)
  where
    by : (b : Bool) → one (pick b acpi pci) ≡ true
    by true = refl
    by false = refl

-- ---- the lists of a matrix

module _ (g : ℕ → ℕ) (bs : List ℕ) where
  length-list : (n w p : ℕ) → length (fields_at g (replicate n (fld w)) bs p) ≡ n
  length-list zero w p = refl
  length-list (suc n) w p = ap suc (length-list n w (p + w))

  list-join : (n p : ℕ) (js : List Item) → fields_at g (replicate n (fld 4) ++ js) bs p ≡ fields_at g (replicate n (fld 4)) bs p ++ fields_at g js bs (p + 4 * n)
  list-join zero p js = let e : p + 4 * 0 ≡ p = omega arith in rw e
  list-join (suc n) p js = let e : p + 4 * suc n ≡ p + 4 + 4 * n = omega arith in rw (e, list-join n (p + 4) js)

three-parts : (a b c : List ℕ) (i t : ℕ) → length a ≡ i → length b ≡ t
    → (part (a ++ (b ++ c)) 0 i ≡ a) × (part (a ++ (b ++ c)) i t ≡ b) × (drop (i + t) (a ++ (b ++ c)) ≡ c)
unfolding part
three-parts a b c i t l m =
    let d = drop_at a (b ++ c) i l in
    (take_at a (b ++ c) i l, rw d (take_at b c t m), sym (drop-drop t i (a ++ (b ++ c))) ∙ rw d (drop_at b c t m))

-- x, y: their kinds
pub settings-at : (g : ℕ → ℕ) (bs : List ℕ) (w : Width) (i t p x y : ℕ) → x ≡ kind_number (Initiator w) → y ≡ kind_number (Target w)
    → settings w i t (fields_at g (replicate (i + t) (fld 4) ++ replicate (i * t) (fld 2)) bs p)
    ≡ each_set (setting w x) 0 0 (fields_at as_is (replicate i (fld 4)) bs p)
    ++ (each_set (setting w y) 0 0 (fields_at as_is (replicate t (fld 4)) bs (p + 4 * i))
    ++ each_set (λ e v. call (Cell w) (e / t ∷ e % t ∷ v ∷ [])) 65535 0 (fields_at as_is (replicate (i * t) (fld 2)) bs (p + 4 * i + 4 * t)))
unfolding settings body
settings-at g bs w i t p x y a b =
    let q = p + 4 * i in
    let js = replicate (i * t) (fld 2) in
    let A = fields_at g (replicate i (fld 4)) bs p in
    let B = fields_at g (replicate t (fld 4)) bs q in
    let C = fields_at g js bs (q + 4 * t) in
    let e : fields_at g (replicate (i + t) (fld 4) ++ js) bs p ≡ A ++ (B ++ C) =
    rw (← replicate-append-replicate i t (fld 4), append_assoc, list-join g bs i p (replicate t (fld 4) ++ js), list-join g bs t q js) in
    let (u, v, z) = three-parts A B C i t (length-list g bs i 4 p) (length-list g bs t 4 q) in
    rw (a, b, e, u, v, z, list-plain g i 4 bs p, list-plain g t 4 bs q, list-plain g (i * t) 2 bs (q + 4 * t))

pub few-cells : (i t : ℕ) → i ≤ most → t ≤ most → i * t ≤ most * most
few-cells i t a b = mul-le-mul a b
