-- What one record does to the state: the nodes that the state stands for grow by it, or the newest of them changes.
use mathlib.Core.Path.{◌≡◌, refl, sym, ap, ◌∙◌}
use Prim.Native.Nat.{ℕ, zero, suc, ◌+◌, ◌-◌, ◌^◌, ◌≤◌, ◌<◌}
use mathlib.Core.List.{List, [], ◌∷◌, ◌++◌}
use mathlib.Core.Option.{some}
use mathlib.Core.Bool.{Bool, true, false, not}
use native.Mathlib.Omega.{arith}
use native.Mathlib.Nat.{add-zero, add_assoc}
use native.Mathlib.Numerals.{add-one}
use lib.ListN.{length, take, length-append}
use lib.Dec.{eqb, leb, ltb}
use borrow.Author.Tests.{ne_eqb, le-ltb, le-leb, leb-true}
use Rattle.std.specs.Prelude.{Option, Result, Ok, Err}
use Rattle.format.specs.Bytes.{pick, both, all, first_of, Answer, refused, given, unless, Bytes, at}
use Rattle.format.specs.Layout.{width, fields_with, fields, refs_good}
use Rattle.format.specs.Table.{Table, front, limit}
use Rattle.format.specs.Form.{Form, processor, cache, memory, acpi, pci, rintc, old_rintc, domain, matrix, side, bridge, window, xor, size, Width, byte, pair, octets, most, up_to, ranges}
use Rattle.format.specs.Node.{Node, node, sizes, starts, is_ordinal, at_ordinal}
use Rattle.format.specs.Kind.{Kind, Processor, Resource, Cache, Matrix, Handle, WindowTarget, Map, body, sets, apart, part_in, suits, width_behind}
use Rattle.format.specs.Recipe.{Step as Asked, Newest, a_list, a_matrix, other, newest, newest_as, joined, setting, unset, stray, makes, step, fault, fault_at}
use Rattle.format.specs.Field.{maker, first_bad, bad_in, bad_field}
use Rattle.laws.proofs.Found.{part-below}
use Rattle.laws.proofs.Lays.{both_true}
use Rattle.laws.proofs.Tests.{both_right}
use Rattle.laws.proofs.Shapes.{second}
use Rattle.laws.proofs.Grows.{View, sees_processor, sees_matrix, sees_side, sees_window, sees_xor, sees_other, view}
use Rattle.laws.proofs.Fields.{all-bad, good-fields, body-window, fields-now}
use Rattle.hmat.specs.declared.Width as code
use Rattle.hmat.specs.contracts.Width.{the_type}
use Rattle.hmat.specs.Widths.{meant_width, width_named}
use Rattle.hmat.proofs.Widths.{same-width}
use denote.Enum.Bare.{sameb}
use Rattle.recipe.specs.declared.Refusal.TheVariants.{Misplaced}
use Rattle.recipe.specs.declared.Fault.{Fault}
use Rattle.recipe.specs.declared.Fault.TheVariants.{Record}
use Rattle.recipe.specs.declared.Newest as kept
use Rattle.recipe.specs.declared.Newest.TheVariants as is
use Rattle.field.specs.Place.{place_or_none}
use Rattle.recipe.specs.Machine.{newest_kept, Counts, state_of, Begun, grown, made_by, counted, stepped, types_of, of_type, refers, Typed, turn}
use Rattle.recipe.proofs.Refers.{refers-new, refers-joined}

-- ---- the tests one by one

-- the answer by what a record of kind k asks for and does; vs: its fields, p: its place, u: how wide the newest matrix's counts are written
abbrev judged : Table → Width → Kind → List ℕ → ℕ → Asked → Answer Counts
judged t u k vs p x =
    pick (not (both x.placed (suits (part_in k) u))) (refused 4 p)
    (pick (not (all x.ranges)) (refused 5 (p + bad_in k x.ranges))
    (pick (not (refs_good (is_ordinal (length x.earlier)) (body k) vs)) (refused 6 p)
    (pick (not (refs_good (at_ordinal (starts t x.earlier)) (body k) vs)) (refused 10 p)
    (pick x.full (refused 7 p)
    (pick (ltb limit (front t + sizes x.nodes)) (refused 8 p) (given (state_of t (width_behind (part_in k) u) x.nodes)))))))

pub turn-judged : (t : Table) (u : Width) (ns : List Node) (k : Kind) (bs : List ℕ) (p : ℕ) → turn t u ns k bs p ≡ judged t u k (fields (body k) bs) p (step k (fields (body k) bs) ns)
unfolding fault fault_at
turn-judged t u ns k bs p =
    let vs : List ℕ = fields (body k) bs in
    let x : Asked = step k vs ns in
    go (not (both x.placed (suits (part_in k) u))) (not (all x.ranges)) (not (refs_good (is_ordinal (length x.earlier)) (body k) vs)) (not (refs_good (at_ordinal (starts t x.earlier)) (body k) vs))
    x.full (ltb limit (front t + sizes x.nodes)) (bad_in k x.ranges) (state_of t (width_behind (part_in k) u) x.nodes)
  where
    go : (a b w c d e : Bool) (bad : ℕ) (s : Counts)
        → (let n : ℕ = first_of ((a, 4) ∷ (b, 5) ∷ (w, 6) ∷ (c, 10) ∷ (d, 7) ∷ (e, 8) ∷ []) in unless n (p + pick (eqb n 5) bad 0) (given s))
        ≡ pick a (refused 4 p) (pick b (refused 5 (p + bad)) (pick w (refused 6 p) (pick c (refused 10 p) (pick d (refused 7 p) (pick e (refused 8 p) (given s))))))
    go true b w c d e bad s = rw (add-zero p)
    go false true w c d e bad s = refl
    go false false true c d e bad s = rw (add-zero p)
    go false false false true d e bad s = rw (add-zero p)
    go false false false false true e bad s = rw (add-zero p)
    go false false false false false true bad s = rw (add-zero p)
    go false false false false false false bad s = refl

-- bytes behind the body do not matter
pub turn-window : (t : Table) (u : Width) (ns : List Node) (k : Kind) (bs : List ℕ) (p : ℕ) → turn t u ns k (take (width (body k)) bs) p ≡ turn t u ns k bs p
turn-window t u ns k bs p = rw (body-window k bs (width (body k)) (omega arith))

-- ---- the nodes grow

-- the state with them, if the table is not too long
pub grown-turn : (t : Table) (u v : Width) (ns ms : List Node) (p : ℕ) (s : Counts) (n by : ℕ) (w : kept.Newest) → s ≡ state_of t u ns
    → n ≡ length ms → front t + sizes ns + by ≡ front t + sizes ms → w ≡ newest_kept v (newest ms)
    → grown p s n by w ≡ pick (ltb limit (front t + sizes ms)) (refused 8 p) (given (state_of t v ms))
grown-turn t u v ns ms p s n by w e a b c = rw (e, a, b, c)

-- by a new node
made-turn : (t : Table) (u v : Width) (ns : List Node) (f : Form) (vs : List ℕ) (p : ℕ) (s : Counts) → s ≡ state_of t u ns
    → grown p s (s.nodes + 1) (size f) (newest_kept v (newest_as f vs ns))
    ≡ pick (ltb limit (front t + sizes (node f vs ∷ ns))) (refused 8 p) (given (state_of t v (node f vs ∷ ns)))
unfolding sizes
made-turn t u v ns f vs p s e =
    grown-turn t u v ns (node f vs ∷ ns) p s (s.nodes + 1) (size f) _ e (rw e (add-one (length ns))) (add_assoc (front t) (sizes ns) (size f)) refl

-- by a new node without references, of which code asks for the first bad field; us: its fields
module _ (k : Kind) (f : Form) (bs us : List ℕ) (alone : part_in k ≡ apart) (own : maker f ≡ some k)
    (same : (ns : List Node) → step k (fields (body k) bs) ns ≡ makes (ranges f (fields (body k) bs)) (node f us) ns)
    (free : (ok : ℕ → ℕ → Bool) (vs : List ℕ) → refs_good ok (body k) vs ≡ true) where
  pub plain_turn : (t : Table) (u : Width) (ns : List Node) (p : ℕ) (s : Counts) (bad : Option ℕ) → bad ≡ place_or_none (bad_field (node f (fields (body k) bs))) → s ≡ state_of t u ns
      → made_by p s bad (size f) (newest_kept u (newest_as f us ns)) ≡ turn t u ns k bs p
  unfolding bad_field
  plain_turn t u ns p s bad h e =
      let vs : List ℕ = fields (body k) bs in
      let a : turn t u ns k bs p ≡ judged t u k vs p (makes (ranges f vs) (node f us) ns) = turn-judged t u ns k bs p ∙ ap (judged t u k vs p) (same ns) in
      let b : bad ≡ place_or_none (bad_in k (ranges f vs)) = h ∙ rw own in
      rw b (sym (a ∙ rw (alone, free (is_ordinal (length ns)) vs, free (at_ordinal (starts t ns)) vs, good-fields (node f vs), own) (go (bad_in k (ranges f vs)) _ (made-turn t u u ns f us p s e))))
    where
      go : (n : ℕ) (y : Answer Counts) → grown p s (s.nodes + 1) (size f) (newest_kept u (newest_as f us ns)) ≡ y
          → pick (not (eqb n 0)) (refused 5 (p + n)) y ≡ made_by p s (place_or_none n) (size f) (newest_kept u (newest_as f us ns))
      go zero y q = sym q
      go (suc n) y q = rw (ne_eqb (suc n) 0 (λ z. omega arith))

-- ---- matrices

-- a matrix that a recipe's record makes: the first bad field does not depend on the width of its counts, since only counts of two bytes can be bad
matrix-asked : (w : Width) (i j : ℕ) (vs : List ℕ) → i < 256 ^ octets w → j < 256 ^ octets w → bad_field (node (matrix i j) vs) ≡ bad_in (Matrix w) (ranges (matrix i j) vs)
unfolding bad_field ranges body first_bad
matrix-asked byte i j vs a b = rw (le-leb i 255 (omega arith), le-leb j 255 (omega arith))
matrix-asked pair i j vs a b = by (up_to 255 i j) refl
  where
    by : (x : Bool) → up_to 255 i j ≡ x → first_bad 1 (body (Matrix (pick x byte pair))) (ranges (matrix i j) vs) ≡ first_bad 1 (body (Matrix pair)) (ranges (matrix i j) vs)
    by true e =
        let (c, d) = both_true (leb i 255) (leb j 255) e in
        rw (le-leb i most (omega (arith, leb-true i 255 c)), le-leb j most (omega (arith, leb-true j 255 d)))
    by false e = refl

-- the counts in a body are below what its width holds
pub counts-below : (w : Width) (bs : List ℕ) → Bytes bs → (at (fields (body (Matrix w)) bs) 4 < 256 ^ octets w) × (at (fields (body (Matrix w)) bs) 5 < 256 ^ octets w)
unfolding body
counts-below w bs h = rw (fields-now (Matrix w) bs) (part-below bs 11 (octets w) h, part-below bs (11 + octets w) (octets w) h)

matrix-free : (w : Width) (ok : ℕ → ℕ → Bool) (vs : List ℕ) → refs_good ok (body (Matrix w)) vs ≡ true
unfolding body refs_good
matrix-free w ok vs = refl

-- the answer to it
pub matrix-turn : (w : Width) (t : Table) (u : Width) (ns : List Node) (p : ℕ) (s : Counts) (bs : List ℕ)
    → (let vs : List ℕ = fields (body (Matrix w)) bs in
    let f : Form = matrix (at vs 4) (at vs 5) in
    let bad : ℕ = bad_field (node f vs) in
    at vs 4 < 256 ^ octets w → at vs 5 < 256 ^ octets w → s ≡ state_of t u ns
    → turn t u ns (Matrix w) bs p ≡ pick (not (eqb bad 0)) (refused 5 (p + bad)) (grown p s (s.nodes + 1) (size f) (is.Matrix (width_named w) (at vs 4) (at vs 5))))
unfolding step
matrix-turn w t u ns p s bs a b e =
    let vs : List ℕ = fields (body (Matrix w)) bs in
    let f : Form = matrix (at vs 4) (at vs 5) in
    let q : bad_field (node f vs) ≡ bad_in (Matrix w) (ranges f vs) = matrix-asked w (at vs 4) (at vs 5) vs a b in
    turn-judged t u ns (Matrix w) bs p ∙ rw (matrix-free w (is_ordinal (length ns)) vs, matrix-free w (at_ordinal (starts t ns)) vs, all-bad 1 (body (Matrix w)) (ranges f vs) (omega arith), ← q)
    (ap (pick (not (eqb (bad_field (node f vs)) 0)) (refused 5 (p + bad_field (node f vs)))) (sym (made-turn t u w ns f (unset (at vs 4) (at vs 5) vs) p s e)))

-- ---- references

-- the one reference of a body
module _ (ok : ℕ → ℕ → Bool) (vs : List ℕ) where
  processor-refs : refs_good ok (body Processor) vs ≡ pick (eqb (at vs 1) 0) true (ok (at vs 1) 0)
  unfolding body refs_good
  processor-refs = rw (second vs) (both_right _)

  cache-refs : refs_good ok (body Cache) vs ≡ pick (eqb (at vs 1) 0) true (ok (at vs 1) 1)
  unfolding body refs_good
  cache-refs = rw (second vs) (both_right _)

  resource-refs : refs_good ok (body Resource) vs ≡ ok (at vs 0) 1
  unfolding body refs_good
  resource-refs = both_right _

-- new nodes that have one
module _ (t : Table) (u : Width) (ns : List Node) (s : Counts) (e : s ≡ state_of t u ns) (ws : List ℕ) (w : Typed ws (types_of ns)) (p : ℕ) (bs : List ℕ) where
  -- the answer to a record that refers to a node of the type ty, or none
  abbrev referring : ℕ → ℕ → Answer Counts → Answer Counts
  referring to ty a = pick (not (ltb to (s.nodes + 1))) (refused 6 p) (pick (not (pick (eqb to 0) true (of_type ws to ty))) (refused 10 p) a)

  pub processor-turn : turn t u ns Processor bs p ≡ referring (refers Processor bs) 0 (grown p s (s.nodes + 1) 20 (is.Processor 0))
  unfolding step
  processor-turn =
      turn-judged t u ns Processor bs p
      ∙ rw (
        processor-refs (is_ordinal (length ns)) (fields (body Processor) bs),
        processor-refs (at_ordinal (starts t ns)) (fields (body Processor) bs),
        made-turn t u u ns (processor 0) (fields (body Processor) bs) p s e,
      )
      (refers-new _ _ _ ws t u s (refers Processor bs) 0 ns e w)

  pub cache-turn : (let bad : ℕ = bad_field (node cache (fields (body Cache) bs)) in
      turn t u ns Cache bs p
      ≡ pick (not (eqb bad 0)) (refused 5 (p + bad)) (referring (refers Cache bs) 1 (grown p s (s.nodes + 1) 28 is.Other)))
  unfolding step bad_field
  cache-turn =
      turn-judged t u ns Cache bs p
      ∙ rw (
        good-fields (node cache (fields (body Cache) bs)),
        cache-refs (is_ordinal (length ns)) (fields (body Cache) bs),
        cache-refs (at_ordinal (starts t ns)) (fields (body Cache) bs),
        made-turn t u u ns cache (fields (body Cache) bs) p s e,
      )
      (ap (pick (not (eqb (bad_field (node cache (fields (body Cache) bs))) 0)) (refused 5 (p + bad_field (node cache (fields (body Cache) bs))))) (refers-new _ _ _ ws t u s (refers Cache bs) 1 ns e w))

-- ---- the newest node

-- the nodes, by what is kept of the newest
abbrev pub Parted : kept.Newest → List Node → Type 0
Parted (is.Processor n) ns = (us : List ℕ) × (ms : List Node) × (ns ≡ node (processor n) us ∷ ms)
Parted (is.Matrix w i t) ns = (us : List ℕ) × (ms : List Node) × (ns ≡ node (matrix i t) us ∷ ms)
Parted (is.Side n) ns = (us : List ℕ) × (ms : List Node) × (ns ≡ node (side n) us ∷ ms)
Parted (is.Window n k) ns = (us : List ℕ) × (ms : List Node) × (ns ≡ node (window n) us ∷ ms) × (length us - 7 ≡ k)
Parted (is.Xor n) ns = (us : List ℕ) × (ms : List Node) × (ns ≡ node (xor n) us ∷ ms)
Parted is.Other ns = newest ns ≡ other

parted-as : (u : Width) (f : Form) (us : List ℕ) (ms : List Node) → Parted (newest_kept u (newest_as f us ms)) (node f us ∷ ms)
parted-as u (processor n) us ms = (us, ms, refl)
parted-as u cache us ms = refl
parted-as u memory us ms = refl
parted-as u acpi us ms = refl
parted-as u pci us ms = refl
parted-as u rintc us ms = refl
parted-as u old_rintc us ms = refl
parted-as u domain us ms = refl
parted-as u (matrix i t) us ms = (us, ms, refl)
parted-as u (side n) us ms = (us, ms, refl)
parted-as u (bridge n) us ms = refl
parted-as u (window n) us ms = (us, ms, refl, refl)
parted-as u (xor n) us ms = (us, ms, refl)

pub parted-all : (u : Width) (ns : List Node) → Parted (newest_kept u (newest ns)) ns
parted-all u [] = refl
parted-all u (n ∷ ns) = parted-as u n.form n.values ns

pub parted : (t : Table) (u : Width) (ns : List Node) (s : Counts) (w : kept.Newest) → s ≡ state_of t u ns → s.newest ≡ w → Parted w ns
parted t u ns s w e h =
    let k : newest_kept u (newest ns) ≡ w = sym (ap (λ (s : Counts). s.newest) e) ∙ h in
    rw k at (parted-all u ns)

-- a record that has nothing to join: the tags are those of the other variants
module _ (t : Table) (u : Width) (ns : List Node) (s : Counts) (e : s ≡ state_of t u ns) where
  pub stray-resource : (vs : List ℕ) → ((k : ℕ) → s.newest ≡ is.Processor k → ⊥) → joined Resource vs (newest ns) ≡ stray
  unfolding joined
  stray-resource vs h = go (view ns) (rw e at h)
    where
      go : {ns : List Node} {x : Newest} → View ns x → ((k : ℕ) → newest_kept u x ≡ is.Processor k → ⊥) → joined Resource vs x ≡ stray
      go sees_processor h = absurd (h _ refl)
      go sees_matrix h = refl
      go sees_side h = refl
      go sees_window h = refl
      go sees_xor h = refl
      go sees_other h = refl

  pub stray-setting : (tests : ℕ → ℕ → List Bool) (field : ℕ → ℕ → ℕ) (v : ℕ) → ((w : code.Width) (i j : ℕ) → s.newest ≡ is.Matrix w i j → ⊥) → setting tests field v (newest ns) ≡ stray
  unfolding setting
  stray-setting tests field v h = go (newest ns) (rw e at h)
    where
      go : (x : Newest) → ((w : code.Width) (i j : ℕ) → newest_kept u x ≡ is.Matrix w i j → ⊥) → setting tests field v x ≡ stray
      go (a_list k needs most n f us ms) h = refl
      go (a_matrix i j us ms) h = absurd (h _ _ _ refl)
      go other h = refl

  pub stray-handle : (vs : List ℕ) → ((k : ℕ) → s.newest ≡ is.Side k → ⊥) → joined Handle vs (newest ns) ≡ stray
  unfolding joined
  stray-handle vs h = go (view ns) (rw e at h)
    where
      go : {ns : List Node} {x : Newest} → View ns x → ((k : ℕ) → newest_kept u x ≡ is.Side k → ⊥) → joined Handle vs x ≡ stray
      go sees_processor h = refl
      go sees_matrix h = refl
      go sees_side h = absurd (h _ refl)
      go sees_window h = refl
      go sees_xor h = refl
      go sees_other h = refl

  pub stray-target : (vs : List ℕ) → ((k m : ℕ) → s.newest ≡ is.Window k m → ⊥) → joined WindowTarget vs (newest ns) ≡ stray
  unfolding joined
  stray-target vs h = go (view ns) (rw e at h)
    where
      go : {ns : List Node} {x : Newest} → View ns x → ((k m : ℕ) → newest_kept u x ≡ is.Window k m → ⊥) → joined WindowTarget vs x ≡ stray
      go sees_processor h = refl
      go sees_matrix h = refl
      go sees_side h = refl
      go sees_window h = absurd (h _ _ refl)
      go sees_xor h = refl
      go sees_other h = refl

  pub stray-map : (vs : List ℕ) → ((k : ℕ) → s.newest ≡ is.Xor k → ⊥) → joined Map vs (newest ns) ≡ stray
  unfolding joined
  stray-map vs h = go (view ns) (rw e at h)
    where
      go : {ns : List Node} {x : Newest} → View ns x → ((k : ℕ) → newest_kept u x ≡ is.Xor k → ⊥) → joined Map vs x ≡ stray
      go sees_processor h = refl
      go sees_matrix h = refl
      go sees_side h = refl
      go sees_window h = refl
      go sees_xor h = absurd (h _ refl)
      go sees_other h = refl

width_back : (w : Width) → meant_width (width_named w) ≡ w
width_back byte = refl
width_back pair = refl

-- widths that code tells apart, and those that it does not
pub unlike : (v w : code.Width) → not (sameb the_type v w) ≡ true → eqb (octets (meant_width v)) (octets (meant_width w)) ≡ false
unlike v w e = rw same-width at (not_true (sameb the_type v w) e)
  where
    not_true : (b : Bool) → not b ≡ true → b ≡ false
    not_true true e = sym e
    not_true false e = refl

pub alike : (v w : code.Width) → not (sameb the_type v w) ≡ false → eqb (octets (meant_width v)) (octets (meant_width w)) ≡ true
alike v w e = rw same-width at (not_false (sameb the_type v w) e)
  where
    not_false : (b : Bool) → not b ≡ false → b ≡ true
    not_false true e = refl
    not_false false e = sym e

-- the counts that a state keeps are as wide as they were written
pub kept-width : (t : Table) (u : Width) (ns : List Node) (s : Counts) (x : code.Width) (i j : ℕ) → s ≡ state_of t u ns → s.newest ≡ is.Matrix x i j → meant_width x ≡ u
kept-width t u ns s x i j e h = by (view ns) (sym (ap (λ (s : Counts). s.newest) e) ∙ h)
  where
    by : {ns : List Node} {n : Newest} → View ns n → newest_kept u n ≡ is.Matrix x i j → meant_width x ≡ u
    by sees_processor q = let z : ◌≡◌ {A = ℕ} 0 1 = cc in absurd (omega arith)
    by sees_matrix q = let z : width_named u ≡ x = cc in rw (← z) (width_back u)
    by sees_side q = let z : ◌≡◌ {A = ℕ} 0 1 = cc in absurd (omega arith)
    by sees_window q = let z : ◌≡◌ {A = ℕ} 0 1 = cc in absurd (omega arith)
    by sees_xor q = let z : ◌≡◌ {A = ℕ} 0 1 = cc in absurd (omega arith)
    by sees_other q = let z : ◌≡◌ {A = ℕ} 0 1 = cc in absurd (omega arith)

-- ---- records that join it

module _ (t : Table) (u : Width) (s : Counts) (p : ℕ) (bs : List ℕ) where
  module _ (n : ℕ) (ws : List ℕ) where
    -- the answer to a resource behind a processor with n of them
    abbrev with_resource : Answer Counts
    with_resource =
        pick (eqb (refers Resource bs) 0) (refused 6 p)
        (pick (not (ltb (refers Resource bs) s.nodes)) (refused 6 p)
        (pick (not (of_type ws (refers Resource bs) 1)) (refused 10 p)
        (pick (leb 58 n) (refused 7 p) (grown p s s.nodes 4 (is.Processor (n + 1))))))

    resource-at : (us : List ℕ) (ms : List Node) → s ≡ state_of t u (node (processor n) us ∷ ms) → Typed ws (types_of (node (processor n) us ∷ ms))
        → turn t u (node (processor n) us ∷ ms) Resource bs p ≡ with_resource
    unfolding step joined sizes
    resource-at us ms e w =
        let ns : List Node = node (processor n) us ∷ ms in
        let more : List Node = node (processor (suc n)) (us ++ fields (body Resource) bs) ∷ ms in
        turn-judged t u ns Resource bs p
        ∙ rw (
          resource-refs (is_ordinal (length ms)) (fields (body Resource) bs),
          resource-refs (at_ordinal (starts t ms)) (fields (body Resource) bs),
          grown-turn t u u ns more p s s.nodes 4 (is.Processor (n + 1)) e (rw e refl) (omega arith) (ap is.Processor (add-one n)),
        )
        (refers-joined _ _ _ ws t u s (refers Resource bs) 1 (node (processor n) us) ms e w)

    pub resource-turn : (ns : List Node) → s ≡ state_of t u ns → s.newest ≡ is.Processor n → Typed ws (types_of ns) → turn t u ns Resource bs p ≡ with_resource
    resource-turn ns e h w = let (us, ms, q) = parted t u ns s (is.Processor n) e h in rw q (resource-at us ms (rw q at e) (rw q at w))

  module _ (n : ℕ) where
    -- the answer to a handle behind a side cache with n of them
    abbrev with_handle : Answer Counts
    with_handle = pick (leb 65535 n) (refused 7 p) (grown p s s.nodes 2 (is.Side (n + 1)))

    handle-at : (us : List ℕ) (ms : List Node) → s ≡ state_of t u (node (side n) us ∷ ms) → turn t u (node (side n) us ∷ ms) Handle bs p ≡ with_handle
    unfolding body step refs_good joined sizes
    handle-at us ms e =
        let ns : List Node = node (side n) us ∷ ms in
        let more : List Node = node (side (suc n)) (us ++ fields (body Handle) bs) ∷ ms in
        turn-judged t u ns Handle bs p ∙ rw (grown-turn t u u ns more p s s.nodes 2 (is.Side (n + 1)) e (rw e refl) (omega arith) (ap is.Side (add-one n)))

    pub handle-turn : (ns : List Node) → s ≡ state_of t u ns → s.newest ≡ is.Side n → turn t u ns Handle bs p ≡ with_handle
    handle-turn ns e h = let (us, ms, q) = parted t u ns s (is.Side n) e h in rw q (handle-at us ms (rw q at e))

  module _ (n k : ℕ) where
    -- the answer to a target behind a window of n ways with k of them
    abbrev with_target : Answer Counts
    with_target = pick (leb n k) (refused 7 p) (grown p s s.nodes 0 (is.Window n (k + 1)))

    target_at_lem : (us : List ℕ) (ms : List Node) → 7 ≤ length us → length us - 7 ≡ k → s ≡ state_of t u (node (window n) us ∷ ms) → turn t u (node (window n) us ∷ ms) WindowTarget bs p ≡ with_target
    unfolding body fields_with step refs_good joined sizes
    target_at_lem us ms l i e =
        let ns : List Node = node (window n) us ∷ ms in
        let more : List Node = node (window n) (us ++ fields (body WindowTarget) bs) ∷ ms in
        let j : k + 1 ≡ length (us ++ fields (body WindowTarget) bs) - 7 = rw length-append (omega arith) in
        turn-judged t u ns WindowTarget bs p ∙ rw (i, grown-turn t u u ns more p s s.nodes 0 (is.Window n (k + 1)) e (rw e refl) (omega arith) (ap (is.Window n) j))

    pub target-turn : (ns : List Node) → s ≡ state_of t u ns → s.newest ≡ is.Window n k → Begun (newest ns) → turn t u ns WindowTarget bs p ≡ with_target
    target-turn ns e h g = let (us, ms, q, i) = parted t u ns s (is.Window n k) e h in rw q (target_at_lem us ms ((rw q at g) refl) i (rw q at e))

  module _ (n : ℕ) where
    -- the answer to a map behind maths with n of them
    abbrev with_map : Answer Counts
    with_map = pick (leb 255 n) (refused 7 p) (grown p s s.nodes 8 (is.Xor (n + 1)))

    map_at : (us : List ℕ) (ms : List Node) → s ≡ state_of t u (node (xor n) us ∷ ms) → turn t u (node (xor n) us ∷ ms) Map bs p ≡ with_map
    unfolding body step refs_good joined sizes
    map_at us ms e =
        let ns : List Node = node (xor n) us ∷ ms in
        let more : List Node = node (xor (suc n)) (us ++ fields (body Map) bs) ∷ ms in
        turn-judged t u ns Map bs p ∙ rw (grown-turn t u u ns more p s s.nodes 8 (is.Xor (n + 1)) e (rw e refl) (omega arith) (ap is.Xor (add-one n)))

    pub map-turn : (ns : List Node) → s ≡ state_of t u ns → s.newest ≡ is.Xor n → turn t u ns Map bs p ≡ with_map
    map-turn ns e h = let (us, ms, q) = parted t u ns s (is.Xor n) e h in rw q (map_at us ms (rw q at e))

  -- a setting of a kind k, whose indices are of width w
  module _ (w : Width) (k : Kind) (part : part_in k ≡ sets w) (tests : ℕ → ℕ → List Bool) (field : ℕ → ℕ → ℕ) (v : ℕ) (small : s.length ≤ limit)
      (same : (ns : List Node) → step k (fields (body k) bs) ns ≡ setting tests field v (newest ns))
      (free : (ok : ℕ → ℕ → Bool) (vs : List ℕ) → refs_good ok (body k) vs ≡ true) where
    set_at : (i j : ℕ) (us : List ℕ) (ms : List Node) → s ≡ state_of t u (node (matrix i j) us ∷ ms)
        → turn t u (node (matrix i j) us ∷ ms) k bs p ≡ pick (not (suits (sets w) u)) (refused 4 p) (pick (not (all (tests i j))) (refused 5 (p + bad_in k (tests i j))) (given s))
    unfolding setting sizes
    set_at i j us ms e =
        let ns : List Node = node (matrix i j) us ∷ ms in
        let l : front t + (sizes ms + size (matrix i j)) ≤ limit = rw e at small in
        turn-judged t u ns k bs p ∙ ap (judged t u k (fields (body k) bs) p) (same ns)
        ∙ rw (part, free (is_ordinal (length ms)) (fields (body k) bs), free (at_ordinal (starts t ms)) (fields (body k) bs), le-ltb limit _ l, e)

    pub set-turn : (i j : ℕ) (ns : List Node) (x : code.Width) → s ≡ state_of t u ns → s.newest ≡ is.Matrix x i j
        → turn t u ns k bs p ≡ pick (not (suits (sets w) u)) (refused 4 p) (pick (not (all (tests i j))) (refused 5 (p + bad_in k (tests i j))) (given s))
    set-turn i j ns x e h = let (us, ms, q) = parted t u ns s (is.Matrix x i j) e h in rw q (set_at i j us ms (rw q at e))

    -- where code asks for the counts, and then for the first bad field
    abbrev pub by_counts : Result (ℕ × ℕ) Fault → Answer Counts
    by_counts (Err y) = stepped p (Err y)
    by_counts (Ok c) = pick (not (eqb (bad_in k (tests c.0 c.1)) 0)) (refused 5 (p + bad_in k (tests c.0 c.1))) (given s)

    pub set-counted : (x : code.Width) → meant_width x ≡ w → (ns : List Node) → s ≡ state_of t u ns → turn t u ns k bs p ≡ by_counts (counted s.newest x)
    set-counted x q ns e = by s.newest refl
      where
        stands : ((v : code.Width) (i j : ℕ) → s.newest ≡ is.Matrix v i j → ⊥) → turn t u ns k bs p ≡ refused 4 p
        stands h = turn-judged t u ns k bs p ∙ ap (judged t u k (fields (body k) bs) p) (same ns ∙ stray-setting t u ns s e tests field v h)

        wide : (b : Bool) (i j : ℕ) (y : Answer Counts) → by_counts (Ok (i, j)) ≡ y → pick (not b) (refused 4 p) y ≡ by_counts (pick b (Ok (i, j)) (Err (Record Misplaced)))
        wide true i j y z = sym z
        wide false i j y z = refl

        by : (n : kept.Newest) → s.newest ≡ n → turn t u ns k bs p ≡ by_counts (counted n x)
        by (is.Processor n) h = stands (λ v i j m. cc)
        by (is.Matrix v i j) h =
            set-turn i j ns v e h ∙ rw (all-bad 1 (body k) (tests i j) (omega arith), q, kept-width t u ns s v i j e h) (wide (eqb (octets w) (octets u)) i j _ refl)
        by (is.Side n) h = stands (λ v i j m. cc)
        by (is.Window m n) h = stands (λ v i j m. cc)
        by (is.Xor n) h = stands (λ v i j m. cc)
        by is.Other h = stands (λ v i j m. cc)
