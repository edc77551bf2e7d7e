-- The whole recipe: from a head to its meaning, a turn of the pass for the record at a place, and the table at the end.
use mathlib.Core.Path.{◌≡◌, refl}
use Prim.Native.Nat.{ℕ, suc, ◌+◌, ◌-◌, ◌*◌, ◌≤◌, ◌<◌}
use mathlib.Core.List.{List, [], ◌∷◌}
use mathlib.Core.Bool.{Bool, true, false}
use mathlib.Core.Option.{Option, none, some}
use native.Mathlib.Omega.{arith}
use lib.ListN.{length, drop, get_or, length-drop}
use lib.Seq.{drop-cons, drop-drop}
use lib.Dec.{eqb, ltb}
use borrow.Author.Tests.{ltb-false}
use Rattle.format.specs.Bytes.{pick, at, part, Answer, refused, given, unless}
use Rattle.format.specs.Layout.{width, fields}
use Rattle.format.specs.Table.{Head, head_of}
use Rattle.format.specs.Node.{Node, sizes}
use Rattle.format.specs.Form.{Width, byte}
use Rattle.format.specs.Kind.{Kind, Processor, Resource, Cache, Memory, Acpi, Pci, Rintc, Domain, Matrix, Initiator, Target, Cell, Side, Handle, Bridge, Window, WindowTarget, Xor, Map, kind_number, kind_of, no_kind, body, part_in, width_behind}
use Rattle.format.specs.Recipe.{Calls, done, bad_kind, cut_off, called, cut_as, skip, cut, newest, joined, setting, changes, stray, step, added, fault, lacking, fault_at, Meaning, means, since, run, headed, meaning}
use Rattle.laws.proofs.Finds.{never, then-given, unless-given}
use Rattle.laws.proofs.Grows.{View, sees_processor, sees_matrix, sees_side, sees_window, sees_xor, sees_other, view, passed}
use Rattle.laws.proofs.Calls.{cut-skip}
use Rattle.laws.proofs.Builds.{headed-given}

-- ---- the nodes only grow

-- a record that joins the newest node's list, whose form with one more is at least as long
taken : (k j : Kind) (full : Bool) (n : Node) (ns : List Node) (m : ℕ) → m ≤ sizes (n ∷ ns) → (pick (eqb (kind_number k) (kind_number j)) (changes [] full n ns) stray).placed ≡ true
    → m ≤ sizes (pick (eqb (kind_number k) (kind_number j)) (changes [] full n ns) stray).nodes
taken k j full n ns m h p = by (eqb (kind_number k) (kind_number j)) p
  where
    by : (x : Bool) → (pick x (changes [] full n ns) stray).placed ≡ true → m ≤ sizes (pick x (changes [] full n ns) stray).nodes
    by true p = h
    by false p = never p

joined-grows : (k : Kind) (vs : List ℕ) {ns : List Node} {x : _} → View ns x → (joined k vs x).placed ≡ true → sizes ns ≤ sizes (joined k vs x).nodes
unfolding joined sizes
joined-grows k vs sees_processor p = taken k Resource _ _ _ _ (omega arith) p
joined-grows k vs sees_matrix p = never p
joined-grows k vs sees_side p = taken k Handle _ _ _ _ (omega arith) p
joined-grows k vs sees_window p = taken k WindowTarget _ _ _ _ (omega arith) p
joined-grows k vs sees_xor p = taken k Map _ _ _ _ (omega arith) p
joined-grows k vs sees_other p = never p

setting-grows : (tests : ℕ → ℕ → List Bool) (field : ℕ → ℕ → ℕ) (v : ℕ) {ns : List Node} {x : _} → View ns x → (setting tests field v x).placed ≡ true → sizes ns ≤ sizes (setting tests field v x).nodes
unfolding setting sizes
setting-grows tests field v sees_processor p = never p
setting-grows tests field v sees_matrix p = omega arith
setting-grows tests field v sees_side p = never p
setting-grows tests field v sees_window p = never p
setting-grows tests field v sees_xor p = never p
setting-grows tests field v sees_other p = never p

sizes-grow : (k : Kind) (vs : List ℕ) (ns : List Node) → (step k vs ns).placed ≡ true → sizes ns ≤ sizes (added k vs ns)
unfolding step sizes
sizes-grow Processor vs ns p = omega arith
sizes-grow Resource vs ns p = joined-grows Resource vs (view ns) p
sizes-grow Cache vs ns p = omega arith
sizes-grow Memory vs ns p = omega arith
sizes-grow Acpi vs ns p = omega arith
sizes-grow Pci vs ns p = omega arith
sizes-grow Rintc vs ns p = omega arith
sizes-grow Domain vs ns p = omega arith
sizes-grow (Matrix w) vs ns p = omega arith
sizes-grow (Initiator w) vs ns p = setting-grows (λ i t. ltb (at vs 0) i ∷ []) (λ i t. 4 + at vs 0) (at vs 1) (view ns) p
sizes-grow (Target w) vs ns p = setting-grows (λ i t. ltb (at vs 0) t ∷ []) (λ i t. 4 + i + at vs 0) (at vs 1) (view ns) p
sizes-grow (Cell w) vs ns p = setting-grows (λ i t. ltb (at vs 0) i ∷ ltb (at vs 1) t ∷ []) (λ i t. 4 + i + t + at vs 0 * t + at vs 1) (at vs 2) (view ns) p
sizes-grow Side vs ns p = omega arith
sizes-grow Handle vs ns p = joined-grows Handle vs (view ns) p
sizes-grow Bridge vs ns p = omega arith
sizes-grow Window vs ns p = omega arith
sizes-grow WindowTarget vs ns p = joined-grows WindowTarget vs (view ns) p
sizes-grow Xor vs ns p = omega arith
sizes-grow Map vs ns p = joined-grows Map vs (view ns) p

-- ---- running

not-given : {A : Type 0} {n p : ℕ} {m : Meaning} → ◌≡◌ {A = Answer Meaning} (refused n p) (given m) → A
not-given e = absurd (let z : ◌≡◌ {A = ℕ} 0 1 = cc in omega arith)

-- nor where something else is asked first
never-given : {A : Type 0} (n q i p : ℕ) {m : Meaning} → unless {A = Meaning} n q (refused i p) ≡ given m → A
never-given n q i p e = not-given (unless-given n q (refused i p) e).1

run-turn : (h : Head) (q : ℕ) (u : Width) (ns : List Node) (p : ℕ) (k : Kind) (vs : List ℕ) (rest : Calls) (m : Meaning) → run h q u ns (called p k vs rest) ≡ given m
    → (lacking (newest ns) (some k) ≡ 0) × (fault h.table u ns k vs ≡ 0) × (run h (since ns (added k vs ns) p q) (width_behind (part_in k) u) (added k vs ns) rest ≡ given m)
unfolding run
run-turn h q u ns p k vs rest m e =
    let n = fault h.table u ns k vs in
    let (i, d) = unless-given (lacking (newest ns) (some k)) q _ e in
    let (z, r) = unless-given n (p + fault_at n k (step k vs ns).ranges) (run h (since ns (added k vs ns) p q) (width_behind (part_in k) u) (added k vs ns) rest) d in
    (i, z, r)

pub run_end : (h : Head) (q : ℕ) (u : Width) (ns : List Node) (m : Meaning) → run h q u ns done ≡ given m → means h ns ≡ m
unfolding run
run_end h q u ns m e =
    let (i, d) = unless-given (lacking (newest ns) none) q (given (means h ns)) e in
    cc

-- the head stays, and the nodes only grow
pub run-keeps : (h : Head) (q : ℕ) (u : Width) (ns : List Node) (cs : Calls) (m : Meaning) → run h q u ns cs ≡ given m → (h ≡ m.head) × (sizes ns ≤ sizes m.nodes)
unfolding run
run-keeps h q u ns done m e = let z = run_end h q u ns m e in rw (← z) (refl, omega arith)
run-keeps h q u ns (bad_kind n p) m e = never-given (lacking (newest ns) none) q n p e
run-keeps h q u ns (cut_off p k) m e = never-given (lacking (newest ns) (some k)) q 3 p e
run-keeps h q u ns (called p k vs rest) m e =
    let (i, z, r) = run-turn h q u ns p k vs rest m e in
    let (a, b) = run-keeps h (since ns (added k vs ns) p q) (width_behind (part_in k) u) (added k vs ns) rest m r in
    (a, omega (arith, sizes-grow k vs ns (passed h.table u ns k vs z).place))

-- ---- the record at a place

-- the record is whole, is not refused, and the rest leads on
pub record Turn (h : Head) (r : List ℕ) (u : Width) (ns : List Node) (p : ℕ) (k : Kind) (m : Meaning) : Type 0 where
  pub whole : suc p + width (body k) ≤ length r
  pub free : lacking (newest ns) (some k) ≡ 0
  pub sound : fault h.table u ns k (fields (body k) (drop (suc p) r)) ≡ 0
  pub since : ℕ
  pub leads : run h since (width_behind (part_in k) u) (added k (fields (body k) (drop (suc p) r)) ns) (cut h.table 0 (suc p + width (body k)) (drop (suc p + width (body k)) r)) ≡ given m

module _ (h : Head) (q : ℕ) (r : List ℕ) (u : Width) (ns : List Node) (p : ℕ) (m : Meaning) where
  turn_at : (k : Kind) (x : Bool) → p < length r → ltb (length (drop (suc p) r)) (width (body k)) ≡ x
      → run h q u ns (pick x (cut_off p k) (called p k (fields (body k) (drop (suc p) r)) (cut h.table (width (body k)) (suc p) (drop (suc p) r)))) ≡ given m
      → Turn h r u ns p k m
  unfolding run
  turn_at k true l e f = never-given (lacking (newest ns) (some k)) q 3 p f
  turn_at k false l e f =
      let d : length (drop (suc p) r) ≡ length r - suc p = length-drop (suc p) r in
      let w : width (body k) ≤ length (drop (suc p) r) = ltb-false (length (drop (suc p) r)) (width (body k)) e in
      let vs = fields (body k) (drop (suc p) r) in
      let (i, z, g) = run-turn h q u ns p k vs (cut h.table (width (body k)) (suc p) (drop (suc p) r)) m f in
      record { whole = omega arith; free = i; sound = z; since = since ns (added k vs ns) p q; leads = rw (cut-skip h.table (width (body k)) (suc p) (drop (suc p) r), drop-drop) at g }

  cut-first : p < length r → cut h.table 0 p (drop p r) ≡ cut_as (kind_of h.table (get_or r p 0)) (no_kind h.table (get_or r p 0)) (drop (suc p) r) p (cut h.table (skip (kind_of h.table (get_or r p 0))) (suc p) (drop (suc p) r))
  unfolding cut
  cut-first l = rw (drop-cons r p 0 l)

  -- the same for a kind that is known
  pub turn-as : (k : Kind) → p < length r → kind_of h.table (get_or r p 0) ≡ some k → run h q u ns (cut h.table 0 p (drop p r)) ≡ given m → Turn h r u ns p k m
  unfolding cut_as
  turn-as k l e f = turn_at k (ltb (length (drop (suc p) r)) (width (body k))) l refl (rw (cut-first l, e) at f)

  as-kind : (o : Option Kind) (why : ℕ) → p < length r → run h q u ns (cut_as o why (drop (suc p) r) p (cut h.table (skip o) (suc p) (drop (suc p) r))) ≡ given m → (k : Kind) × (o ≡ some k) × Turn h r u ns p k m
  unfolding cut_as run
  as-kind none why l e = never-given (lacking (newest ns) none) q why p e
  as-kind (some k) why l e = (k, refl, turn_at k (ltb (length (drop (suc p) r)) (width (body k))) l refl e)

  pub turn : p < length r → run h q u ns (cut h.table 0 p (drop p r)) ≡ given m → (k : Kind) × (kind_of h.table (get_or r p 0) ≡ some k) × Turn h r u ns p k m
  turn l e = as-kind (kind_of h.table (get_or r p 0)) (no_kind h.table (get_or r p 0)) l (rw (cut-first l) at e)

-- ---- the head

-- a recipe with a meaning has a head, from which its records lead there
pub from-head : (r : List ℕ) (m : Meaning) → meaning r ≡ given m
    → (28 ≤ length r) × (m.head ≡ head_of m.head.table (part r 2 26)) × (run (head_of m.head.table (part r 2 26)) 0 byte [] (cut m.head.table 0 28 (drop 28 r)) ≡ given m)
unfolding meaning
from-head r m e =
    let (h, d, f) = then-given (headed r) (λ h. run h 0 byte [] (cut h.table 0 28 (drop 28 r))) e in
    let (own, n) = headed-given r h d in
    let k = (run-keeps h 0 byte [] (cut h.table 0 28 (drop 28 r)) m f).0 in
    let own' : m.head ≡ head_of m.head.table (part r 2 26) = rw k at own in
    (n, own', rw (← own') (rw k at f))
