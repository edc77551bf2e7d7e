-- Order 7: settings of one matrix set its fields, each its own, so that they commute; of those that agree every permutation has the same meaning.
use mathlib.Core.Path.{◌≡◌, refl, sym, ap, ◌∙◌}
use mathlib.Core.Logic.{◌⊎◌, inl, inr}
use Prim.Native.Nat.{ℕ, ◌+◌, ◌*◌, ◌/◌, ◌≤◌, ◌<◌}
use mathlib.Core.List.{List, [], ◌∷◌, ◌++◌, append_assoc, append-nil}
use mathlib.Core.Bool.{Bool, true, false}
use native.Mathlib.Omega.{arith}
use native.Mathlib.Nat.{mul-add-div_right, div-eq_of_lt}
use lib.ListN.{set}
use lib.Seq.{set_comm}
use lib.Dec.{eqb, ltb}
use borrow.Author.Tests.{eqb-true, eqb-false, ltb-true}
use Rattle.format.specs.Bytes.{both, at, given}
use Rattle.format.specs.Layout.{fields_with, fields}
use Rattle.format.specs.Table.{Table, Head}
use Rattle.format.specs.Form.{Width, byte, matrix}
use Rattle.format.specs.Node.{Node, node, sizes}
use Rattle.format.specs.Kind.{Kind, Processor, Resource, Cache, Memory, Acpi, Pci, Rintc, Domain, Matrix, Initiator, Target, Cell, Side, Handle, Bridge, Window, WindowTarget, Xor, Map, matrix_number, kind_number, body, opens, sets, apart, part_in, suits, width_behind}
use Rattle.format.specs.Recipe.{Newest, setting, step, added, fault, lacking, Meaning, meaning}
use Rattle.format.specs.Build.{fitting, length_of, build, table, built}
use Rattle.format.specs.Normal.{normal}
use Rattle.laws.specs.Settings.{Setting, initiator, target, cell, spot}
use Rattle.laws.specs.AnyOrder.{Each, Pairs, Rec, Whole, flat, Cut, Builds, SetsAs, Sets, fields_of, place, number, Agree, Apart, Same, Exchange, OfOne, AnyOrder}
use Rattle.laws.proofs.Finds.{never, then-given}
use Rattle.laws.proofs.Lays.{both_true}
use Rattle.laws.proofs.Grows.{passed, suited, View, sees_processor, sees_matrix, sees_side, sees_window, sees_xor, sees_other, view, kind-number}
use Rattle.laws.proofs.Faults.{same_width, follows_next}
use Rattle.laws.proofs.Shuffles.{Drawn, each-front, each_back, each-join, each-drawn, each_both, pairs-map, after, Commute, drawn-after, rearranged-drawn, often}
use Rattle.laws.proofs.Records.{Passes, Goes, behind-any, meaning-in, meaning-out, cut_up, cut-sole}

-- ---- the kinds that set a place

-- those that set a place of a matrix whose counts are w wide
data Setter (w : Width) : Kind → Type 0 where
  sets_initiator : Setter w (Initiator w)
  sets_target : Setter w (Target w)
  sets_cell : Setter w (Cell w)

-- what sets a place does not stand apart, and makes no matrix
apart-not : {A : Type 0} (w : Width) → apart ≡ sets w → A
apart-not w e = absurd (let z : ◌≡◌ {A = ℕ} 0 1 = cc in omega arith)

opens_not : {A : Type 0} (v w : Width) → opens v ≡ sets w → A
opens_not v w e = absurd (let z : ◌≡◌ {A = ℕ} 0 1 = cc in omega arith)

setter : (w : Width) (k : Kind) → part_in k ≡ sets w → Setter w k
setter w Processor e = apart-not w e
setter w Resource e = apart-not w e
setter w Cache e = apart-not w e
setter w Memory e = apart-not w e
setter w Acpi e = apart-not w e
setter w Pci e = apart-not w e
setter w Rintc e = apart-not w e
setter w Domain e = apart-not w e
setter w (Matrix v) e = opens_not v w e
setter w (Initiator v) e = let i : v ≡ w = cc in rw i sets_initiator
setter w (Target v) e = let i : v ≡ w = cc in rw i sets_target
setter w (Cell v) e = let i : v ≡ w = cc in rw i sets_cell
setter w Side e = apart-not w e
setter w Handle e = apart-not w e
setter w Bridge e = apart-not w e
setter w Window e = apart-not w e
setter w WindowTarget e = apart-not w e
setter w Xor e = apart-not w e
setter w Map e = apart-not w e

-- the setting that a record of the fields vs is
abbrev setting_of : {w : Width} {k : Kind} → Setter w k → List ℕ → Setting
setting_of sets_initiator vs = initiator (at vs 0) (at vs 1)
setting_of sets_target vs = target (at vs 0) (at vs 1)
setting_of sets_cell vs = cell (at vs 0) (at vs 1) (at vs 2)

-- its indices are below I and T
abbrev Within : ℕ → ℕ → {w : Width} {k : Kind} → Setter w k → List ℕ → Type 0
Within i t sets_initiator vs = at vs 0 < i
Within i t sets_target vs = at vs 0 < t
Within i t sets_cell vs = (at vs 0 < i) × (at vs 1 < t)

-- ---- what it does to the newest node

-- the newest node is a matrix
abbrev HasMatrix : List Node → Type 0
HasMatrix ns = (i : ℕ) × (t : ℕ) × (us : List ℕ) × (rest : List Node) × (ns ≡ node (matrix i t) us ∷ rest)

placed-matrix : (tests : ℕ → ℕ → List Bool) (field : ℕ → ℕ → ℕ) (v : ℕ) {ns : List Node} {x : Newest} → View ns x → (setting tests field v x).placed ≡ true → HasMatrix ns
unfolding setting
placed-matrix tests field v sees_processor e = never e
placed-matrix tests field v (sees_matrix {i} {t} {us} {ns}) e = (i, t, us, ns, refl)
placed-matrix tests field v sees_side e = never e
placed-matrix tests field v sees_window e = never e
placed-matrix tests field v sees_xor e = never e
placed-matrix tests field v sees_other e = never e

has-matrix : {w : Width} {k : Kind} → Setter w k → (vs : List ℕ) (ns : List Node) → (step k vs ns).placed ≡ true → HasMatrix ns
unfolding step
has-matrix sets_initiator vs ns e = placed-matrix _ _ _ (view ns) e
has-matrix sets_target vs ns e = placed-matrix _ _ _ (view ns) e
has-matrix sets_cell vs ns e = placed-matrix _ _ _ (view ns) e

-- the fields of the newest node
abbrev values_of : List Node → List ℕ
values_of [] = []
values_of (n ∷ ns) = n.values

module _ (i t : ℕ) where
  -- what a record makes of the fields of the matrix
  abbrev does : Rec → List ℕ → List ℕ
  does a us = values_of (added a.kind (fields_of a) (node (matrix i t) us ∷ []))

  module _ (w : Width) where
    sets-one : {k : Kind} → Setter w k → (vs us : List ℕ) (ns : List Node) → added k vs (node (matrix i t) us ∷ ns) ≡ node (matrix i t) (values_of (added k vs (node (matrix i t) us ∷ []))) ∷ ns
    unfolding step setting
    sets-one sets_initiator vs us ns = refl
    sets-one sets_target vs us ns = refl
    sets-one sets_cell vs us ns = refl

    -- its faults are not by the matrix's fields
    same-fault : {k : Kind} → Setter w k → (vs us ws : List ℕ) (ns : List Node) (b : Table) → fault b w (node (matrix i t) us ∷ ns) k vs ≡ fault b w (node (matrix i t) ws ∷ ns) k vs
    unfolding fault step setting sizes
    same-fault sets_initiator vs us ws ns b = refl
    same-fault sets_target vs us ws ns b = refl
    same-fault sets_cell vs us ws ns b = refl

    within : {k : Kind} (s : Setter w k) (vs us : List ℕ) (ns : List Node) (b : Table) → fault b w (node (matrix i t) us ∷ ns) k vs ≡ 0 → Within i t s vs
    unfolding step setting
    within sets_initiator vs us ns b e = ltb-true (at vs 0) i (passed b w (node (matrix i t) us ∷ ns) (Initiator w) vs e).field
    within sets_target vs us ns b e = ltb-true (at vs 0) t (passed b w (node (matrix i t) us ∷ ns) (Target w) vs e).field
    within sets_cell vs us ns b e =
        let p = both_true (ltb (at vs 0) i) (ltb (at vs 1) t) (passed b w (node (matrix i t) us ∷ ns) (Cell w) vs e).field in
        (ltb-true (at vs 0) i p.0, ltb-true (at vs 1) t p.1)

-- ---- different places are different fields

cells-sole : (t a b c d : ℕ) → b < t → d < t → a * t + b ≡ c * t + d → (a ≡ c) × (b ≡ d)
cells-sole t a b c d l m e =
    let z : 0 < t = omega arith in
    let x : (a * t + b) / t ≡ a = mul-add-div_right z a b ∙ omega (arith, div-eq_of_lt l) in
    let y : (c * t + d) / t ≡ c = mul-add-div_right z c d ∙ omega (arith, div-eq_of_lt m) in
    let f : a ≡ c = sym x ∙ (ap (λ n. n / t) e ∙ y) in
    let g : a * t ≡ c * t = rw f in
    (f, omega arith)

-- the place and the number of a record of kind k with these bytes
abbrev place_in : Kind → List ℕ → Kind × List ℕ
place_in k xs = place (record { kind = k; bytes = xs })

abbrev number_in : Kind → List ℕ → ℕ
number_in k xs = number (record { kind = k; bytes = xs })

module _ (i t : ℕ) (w : Width) where
  places : {j k : Kind} (s : Setter w j) (u : Setter w k) (xs ys : List ℕ) → Within i t s (fields (body j) xs) → Within i t u (fields (body k) ys)
      → spot i t (setting_of s (fields (body j) xs)) ≡ spot i t (setting_of u (fields (body k) ys)) → place_in j xs ≡ place_in k ys
  unfolding body fields_with
  places sets_initiator sets_initiator xs ys v z e =
      let f : at (fields (body (Initiator w)) xs) 0 ≡ at (fields (body (Initiator w)) ys) 0 = omega arith in
      rw f
  places sets_initiator sets_target xs ys v z e = absurd (omega arith)
  places sets_initiator sets_cell xs ys v z e = absurd (omega arith)
  places sets_target sets_initiator xs ys v z e = absurd (omega arith)
  places sets_target sets_target xs ys v z e =
      let f : at (fields (body (Target w)) xs) 0 ≡ at (fields (body (Target w)) ys) 0 = omega arith in
      rw f
  places sets_target sets_cell xs ys v z e = absurd (omega arith)
  places sets_cell sets_initiator xs ys v z e = absurd (omega arith)
  places sets_cell sets_target xs ys v z e = absurd (omega arith)
  places sets_cell sets_cell xs ys v z e =
      let us = fields (body (Cell w)) xs in
      let vs = fields (body (Cell w)) ys in
      let (f, g) = cells-sole t (at us 0) (at us 1) (at vs 0) (at vs 1) v.1 z.1 (omega arith) in
      rw (f, g)

  does-is : {k : Kind} (s : Setter w k) (xs us : List ℕ) → does i t (record { kind = k; bytes = xs }) us ≡ set us (spot i t (setting_of s (fields (body k) xs))) (number_in k xs)
  unfolding step setting body fields_with
  does-is sets_initiator xs us = refl
  does-is sets_target xs us = refl
  does-is sets_cell xs us = refl

-- numbers set at two spots, or one at one
two-set : (us : List ℕ) (p q m n : ℕ) → (p ≡ q → m ≡ n) → set (set us p m) q n ≡ set (set us q n) p m
two-set us p q m n f = by (eqb p q) refl
  where
    by : (b : Bool) → eqb p q ≡ b → set (set us p m) q n ≡ set (set us q n) p m
    by true e = let s : p ≡ q = eqb-true p q e in let v : m ≡ n = f s in rw (s, v)
    by false e = set_comm us p q m n (eqb-false p q e)

-- ---- settings behind a matrix

module _ (h : Head) (m : Meaning) (i t : ℕ) (ns : List Node) (w : Width) where
  -- the nodes with the fields us of the matrix
  abbrev behind : List ℕ → List Node
  behind us = node (matrix i t) us ∷ ns

  other-fields : (a : Rec) (us vs : List ℕ) → SetsAs w a → Passes h.table w (behind us) a → Passes h.table w (behind vs) a
  unfolding lacking
  other-fields a us vs e p =
      record { known = p.known; free = refl; fine = sym (same-fault i t w (setter w a.kind e) (fields_of a) us vs ns h.table) ∙ p.fine }

  set_out : (cs ys : List Rec) (us vs : List ℕ) → Each (SetsAs w) cs → Goes h m (cs ++ ys) w (behind us)
      → Each (Passes h.table w (behind vs)) cs × Goes h m ys w (behind (after (does i t) cs us))
  set_out [] ys us vs e g = (tt, g)
  set_out (a ∷ cs) ys us vs (e, es) (p, g) =
      let n : Goes h m (cs ++ ys) w (behind (does i t a us)) = rw (e, sets-one i t w (setter w a.kind e) (fields_of a) us ns) at g in
      let (ps, r) = set_out cs ys (does i t a us) vs es n in
      ((other-fields a us vs e p, ps), r)

  set-in : (cs ys : List Rec) (us vs : List ℕ) → Each (SetsAs w) cs → Each (Passes h.table w (behind vs)) cs → Goes h m ys w (behind (after (does i t) cs us))
      → Goes h m (cs ++ ys) w (behind us)
  set-in [] ys us vs e ps g = g
  set-in (a ∷ cs) ys us vs (e, es) (p, ps) g =
      (other-fields a vs us e p, rw (e, sets-one i t w (setter w a.kind e) (fields_of a) us ns) (set-in cs ys (does i t a us) vs es ps g))

  -- settings that agree commute
  commute : (us : List ℕ) (a b : Rec) → SetsAs w a × Passes h.table w (behind us) a → SetsAs w b × Passes h.table w (behind us) b → Agree a b → Commute (does i t) a b
  commute us a b (e, p) (f, q) g vs =
      let s = setter w a.kind e in
      let u = setter w b.kind f in
      let j = within i t w s (fields_of a) us ns h.table p.fine in
      let k = within i t w u (fields_of b) us ns h.table q.fine in
      let x = spot i t (setting_of s (fields_of a)) in
      let y = spot i t (setting_of u (fields_of b)) in
      rw (does-is i t w s a.bytes vs, does-is i t w u b.bytes vs, does-is i t w u b.bytes (set vs x (number a)), does-is i t w s a.bytes (set vs y (number b)))
      (two-set vs x y (number a) (number b) (λ o. g (places i t w s u a.bytes b.bytes j k o)))

  stands-behind : (cs ds ys : List Rec) (us : List ℕ) → Each (SetsAs w) cs → Pairs Agree cs → Drawn cs ds → Goes h m (cs ++ ys) w (behind us) → Goes h m (ds ++ ys) w (behind us)
  stands-behind cs ds ys us e g d o =
      let (ps, r) = set_out cs ys us us e o in
      let c : Pairs (Commute (does i t)) cs = pairs-map (λ a. SetsAs w a × Passes h.table w (behind us) a) Agree (Commute (does i t)) (commute us) cs (each_both (SetsAs w) (Passes h.table w (behind us)) cs e ps) g in
      set-in ds ys us us (each-drawn (SetsAs w) cs ds d e) (each-drawn (Passes h.table w (behind us)) cs ds d ps) (rw (← drawn-after (does i t) cs ds us c d) r)

module _ (h : Head) (m : Meaning) where
  -- a setting is as wide as the newest matrix's counts
  as_wide : (w : Width) (ns : List Node) (a : Rec) → Sets a → Passes h.table w ns a → SetsAs w a
  as_wide w ns a (v, e) p =
      let i : v ≡ w = same_width v w (rw e at (suited h.table w ns a.kind (fields_of a) p.fine)) in
      e ∙ ap sets i

  all-wide : (w : Width) (cs ys : List Rec) (ns : List Node) → Each Sets cs → Goes h m (cs ++ ys) w ns → Each (SetsAs w) cs
  all-wide w [] ys ns s g = tt
  all-wide w (a ∷ cs) ys ns (s, ss) (p, g) =
      let e : SetsAs w a = as_wide w ns a s p in
      (e, all-wide w cs ys (added a.kind (fields_of a) ns) ss (rw e at g))

  passed-matrix : (w : Width) (ns : List Node) (a : Rec) → SetsAs w a → Passes h.table w ns a → HasMatrix ns
  passed-matrix w ns a e p = has-matrix (setter w a.kind e) (fields_of a) ns (passed h.table w ns a.kind (fields_of a) p.fine).place

  drawn-none : (ds : List Rec) → Drawn [] ds → ds ≡ []
  drawn-none [] d = refl
  drawn-none (c ∷ ds) ([], behind, is, d) = cc
  drawn-none (c ∷ ds) (x ∷ before, behind, is, d) = cc

  stands : (cs ds ys : List Rec) → Each Sets cs → Pairs Agree cs → Drawn cs ds → (w : Width) (ns : List Node) → Goes h m (cs ++ ys) w ns → Goes h m (ds ++ ys) w ns
  stands [] ds ys s g d w ns o = rw (drawn-none ds d) o
  stands (a ∷ cs) ds ys s g d w ns o =
      let e : Each (SetsAs w) (a ∷ cs) = all-wide w (a ∷ cs) ys ns s o in
      let (i, t, us, rest, is) = passed-matrix w ns a e.0 o.0 in
      rw is (stands-behind h m i t rest w (a ∷ cs) ds ys us e g d (rw is at o))

-- ---- one matrix

-- a kind byte of a matrix's records is that of the matrix or of a setting
matrix-part : (w : Width) (k : Kind) → matrix_number w ≤ kind_number k → kind_number k ≤ matrix_number w + 3 → (part_in k ≡ opens w) ⊎ (part_in k ≡ sets w)
matrix-part w k l o = by (eqb (kind_number k) (matrix_number w)) refl (eqb (kind_number k) (matrix_number w + 1)) refl (eqb (kind_number k) (matrix_number w + 2)) refl
  where
    by : (x : Bool) → eqb (kind_number k) (matrix_number w) ≡ x → (y : Bool) → eqb (kind_number k) (matrix_number w + 1) ≡ y → (z : Bool) → eqb (kind_number k) (matrix_number w + 2) ≡ z
        → (part_in k ≡ opens w) ⊎ (part_in k ≡ sets w)
    by true x y f z g = inl (ap part_in (kind-number k (Matrix w) (eqb-true (kind_number k) (matrix_number w) x)))
    by false x true f z g = inr (ap part_in (kind-number k (Initiator w) (eqb-true (kind_number k) (matrix_number w + 1) f)))
    by false x false f true g = inr (ap part_in (kind-number k (Target w) (eqb-true (kind_number k) (matrix_number w + 2) g)))
    by false x false f false g =
        let a = eqb-false (kind_number k) (matrix_number w) x in
        let b = eqb-false (kind_number k) (matrix_number w + 1) f in
        let c = eqb-false (kind_number k) (matrix_number w + 2) g in
        inr (ap part_in (kind-number k (Cell w) (last (kind_number k) (matrix_number w) l o a b c)))
      where
        last : (n b : ℕ) → b ≤ n → n ≤ b + 3 → (n ≡ b → ⊥) → (n ≡ b + 1 → ⊥) → (n ≡ b + 2 → ⊥) → n ≡ b + 3
        last n b l o x y z = omega arith

module _ (h : Head) (m : Meaning) where
  -- a record that passes stands where it may
  standing : (w : Width) (ns : List Node) (a : Rec) → Passes h.table w ns a → both (step a.kind (fields_of a) ns).placed (suits (part_in a.kind) w) ≡ true
  standing w ns a p = rw (passed h.table w ns a.kind (fields_of a) p.fine).place (suited h.table w ns a.kind (fields_of a) p.fine)

  -- where the newest node is a matrix, its record and settings are the last records
  abbrev Led : List Rec → Width → List Node → Type 0
  Led xs w ns = HasMatrix ns → OfOne w xs

  led-next : (xs : List Rec) (w : Width) (ns : List Node) (a : Rec) → Passes h.table w ns a → Led xs w ns
      → Led (xs ++ (a ∷ [])) (width_behind (part_in a.kind) w) (added a.kind (fields_of a) ns)
  led-next xs w ns a p led (i, t, us, rest, is) =
      let v = width_behind (part_in a.kind) w in
      let (l, o) = rw is at (follows_next w a.kind (fields_of a) ns (standing w ns a p)) in
      by (matrix-part v a.kind l o)
    where
      by : (part_in a.kind ≡ opens (width_behind (part_in a.kind) w)) ⊎ (part_in a.kind ≡ sets (width_behind (part_in a.kind) w)) → OfOne (width_behind (part_in a.kind) w) (xs ++ (a ∷ []))
      by (inl e) = (xs, a, [], refl, e, tt)
      by (inr e) =
          let z : width_behind (part_in a.kind) w ≡ w = ap (λ p. width_behind p w) e in
          let f : SetsAs w a = e ∙ ap sets z in
          let (before, n, ss, j, o, es) = led (passed-matrix h m w ns a f p) in
          rw z (before, n, ss ++ (a ∷ []), rw j (append_assoc before (n ∷ ss) (a ∷ [])), o, each-join (SetsAs w) ss (a ∷ []) es (f, tt))

  led-all : (xs done ys : List Rec) (w : Width) (ns : List Node) → Led done w ns → Goes h m (xs ++ ys) w ns → (v : Width) × (ns' : List Node) × Led (done ++ xs) v ns' × Goes h m ys v ns'
  led-all [] done ys w ns led g = (w, ns, rw append-nil led, g)
  led-all (a ∷ xs) done ys w ns led (p, g) =
      let (v, ns', l, r) = led-all xs (done ++ (a ∷ [])) ys (width_behind (part_in a.kind) w) (added a.kind (fields_of a) ns) (led-next done w ns a p led) g in
      (v, ns', rw (append_assoc done (a ∷ []) xs) at l, r)

  led-none : Led [] byte []
  led-none (i, t, us, rest, is) = absurd (let z : ◌≡◌ {A = ℕ} 0 1 = cc in omega arith)

  one-matrix : (xs : List Rec) (a : Rec) (cs ys : List Rec) → Each Sets (a ∷ cs) → Goes h m (xs ++ (a ∷ (cs ++ ys))) byte [] → (w : Width) × OfOne w xs × Each (SetsAs w) (a ∷ cs)
  one-matrix xs a cs ys s g =
      let (w, ns, led, r) = led-all xs [] (a ∷ (cs ++ ys)) byte [] led-none g in
      let e : Each (SetsAs w) (a ∷ cs) = all-wide h m w (a ∷ cs) ys ns s r in
      (w, led (passed-matrix h m w ns a e.0 r.0), e)

-- ---- the theorems

same_of : (r s : List ℕ) → meaning s ≡ meaning r → Same r s
unfolding build table built normal
same_of r s e =
    let t : table s ≡ table r = rw e in
    record {
      meant = e;
      answer = λ room. rw e;
      tabled = t;
      written = λ buffer. rw e;
      form = rw e;
      out_answer = λ room. rw t;
      out = rw t;
      out_buffer = λ buffer. rw t;
    }

builds-means : (r : List ℕ) → Builds r → (m : Meaning) × (meaning r ≡ given m)
unfolding build
builds-means r (room, n, e) = let (m, q, f) = then-given (meaning r) (λ m. fitting 9 room (length_of m)) e in (m, q)

exchange : (cs ds : List Rec) → Each Sets cs → Pairs Agree cs → Drawn cs ds → Exchange cs ds
exchange cs ds s g d front xs ys (l, ws) e =
    let (m, q) = builds-means (front ++ flat (xs ++ (cs ++ ys))) e in
    let (h, f, o) = meaning-in front (xs ++ (cs ++ ys)) m (l, ws) q in
    let wx : Each Whole xs = each-front Whole xs (cs ++ ys) ws in
    let wc : Each Whole (cs ++ ys) = each_back Whole xs (cs ++ ys) ws in
    let wd : Each Whole (ds ++ ys) = each-join Whole ds ys (each-drawn Whole cs ds d (each-front Whole cs ys wc)) (each_back Whole cs ys wc) in
    let o' : Goes h m (xs ++ (ds ++ ys)) byte [] = behind-any h m (cs ++ ys) (ds ++ ys) (stands h m cs ds ys s g d) xs byte [] o in
    same_of (front ++ flat (xs ++ (cs ++ ys))) (front ++ flat (xs ++ (ds ++ ys))) (meaning-out front (xs ++ (ds ++ ys)) m h (l, each-join Whole xs (ds ++ ys) wx wd) f o' ∙ sym q)

of_one_lem : (front : List ℕ) (xs : List Rec) (a : Rec) (cs ys : List Rec) → Cut front (xs ++ (a ∷ (cs ++ ys))) → Builds (front ++ flat (xs ++ (a ∷ (cs ++ ys)))) → Each Sets (a ∷ cs)
    → (w : Width) × OfOne w xs × Each (SetsAs w) (a ∷ cs)
of_one_lem front xs a cs ys c e s =
    let (m, q) = builds-means (front ++ flat (xs ++ (a ∷ (cs ++ ys)))) e in
    let (h, f, g) = meaning-in front (xs ++ (a ∷ (cs ++ ys))) m c q in
    one-matrix h m xs a cs ys s g

pub any_order : AnyOrder
any_order =
    record {
      neighbours = λ a b s u g. exchange (a ∷ b ∷ []) (b ∷ a ∷ []) (s, (u, tt)) ((g, tt), (tt, tt)) (a ∷ [], [], refl, ([], [], refl, refl));
      rearranged = λ cs ds s g r. exchange cs ds s (pairs-map Sets Apart Agree (λ x y p q d e. absurd (d e)) cs s g) (rearranged-drawn cs ds r);
      agreed = λ cs ds s g r. exchange cs ds s g (rearranged-drawn cs ds r);
      often = often;
      cut = λ r e. (let (m, q) = builds-means r e in cut_up r m q);
      once = cut-sole;
      of_one = of_one_lem;
    }
