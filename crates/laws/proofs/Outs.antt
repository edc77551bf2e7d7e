-- When reading out gives each answer: behind a table that is accepted, by the revision, then by the first record that no row matches, then by the first of a retired row, each found by an induction over the records.
use mathlib.Core.Path.{◌≡◌, refl, sym, ap, ◌∙◌}
use mathlib.Core.Logic.{◌↔◌, ◌⊎◌, inl, inr, ⊎_elim}
use Prim.Native.Nat.{ℕ, ◌≤◌, ◌<◌}
use mathlib.Core.List.{List, [], ◌∷◌}
use mathlib.Core.Bool.{Bool, true, false}
use mathlib.Core.Option.{Option, none, some}
use native.Mathlib.Omega.{arith}
use lib.ListN.{length}
use lib.Dec.{eqb, ltb}
use borrow.Author.Tests.{eqb-true, eqb-false, eq-eqb, ne_eqb, le-ltb, lt-ltb, ltb-true, ltb-false}
use Rattle.format.specs.Bytes.{pick, find, Answer, refused, given, and_then, or_refused, unless_found, at, part}
use Rattle.format.specs.Table.{Table, revision}
use Rattle.format.specs.Form.{byte, pair}
use Rattle.format.specs.Row.{Row, processors, caches, memories, initiators, old_rintcs, rintcs, domains, matrices, sides, bridges, windows, xors, row_number, form_in, is_retired}
use Rattle.format.specs.Node.{Node, node_at, Entry, ordinal_of}
use Rattle.format.specs.Recipe.{Meaning, means}
use Rattle.format.specs.Normal.{recipe_of}
use Rattle.format.specs.Build.{fitting}
use Rattle.format.specs.Read.{own, judge_head, Seen, entry_of, walked}
use Rattle.format.specs.Out.{every, nodes_from, old, head_in, out_of, meaning_of, read_out, recipe}
use Rattle.laws.specs.Demand3.{Fits}
use Rattle.laws.specs.Demand1Read.{Headed, Accepts, AtHeader, AtRecord, Unmatched, Outdated, AnyOf, FirstAt, OtherRevision, Unknown, Retired, Matched, NoRoom, EarnedOut, ExactlyOut, OneOut}
use Rattle.laws.proofs.Finds.{never, All}
use Rattle.laws.proofs.Good.{knows-every}
use Rattle.laws.proofs.Walks.{Part, accept-parts}
use Rattle.laws.proofs.Parts.{part-lent}
use Rattle.laws.proofs.Words.{Tests, among_none, among_cases}
use Rattle.laws.proofs.Judges.{HeaderOutcome, header-outcome, header_is, header-not, known-then, known-when}
use Rattle.laws.proofs.Readings.{Right, walked-right, onto, onto-tail, walked-outcome, walked-gives, walked-not, Outcome, accept-walked, header-number, record-number}

-- the row of number 4
row_number_lem : (r : Row) → row_number r ≡ 4 → r ≡ old_rintcs
row_number_lem processors e = absurd (omega arith)
row_number_lem caches e = absurd (omega arith)
row_number_lem memories e = absurd (omega arith)
row_number_lem initiators e = absurd (omega arith)
row_number_lem old_rintcs e = refl
row_number_lem domains e = absurd (omega arith)
row_number_lem (matrices byte) e = absurd (omega arith)
row_number_lem (matrices pair) e = absurd (omega arith)
row_number_lem sides e = absurd (omega arith)
row_number_lem bridges e = absurd (omega arith)
row_number_lem windows e = absurd (omega arith)
row_number_lem xors e = absurd (omega arith)
row_number_lem rintcs e = absurd (omega arith)

-- ---- the first record that is so

module _ (P : Entry → Type 0) where
  abbrev So : Entry → List Entry → Type 0
  So e before = P e

  abbrev First : ℕ → Entry → List Entry → Type 0
  First p e before = (e.offset ≡ p) × P e × (AnyOf P before → ⊥)

  -- there is one at most
  first_any : (p : ℕ) (es : List Entry) → FirstAt P p es → AnyOf P es
  first_any p es (later, e, before, s, (o, u, n)) = (later, e, before, s, u)

  first_one : (p q : ℕ) (es : List Entry) → FirstAt P p es → FirstAt P q es → p ≡ q
  first_one p q [] x y = absurd (among_none (First p) x)
  first_one p q (e ∷ es) x y = by (among_cases (First p) e es x) (among_cases (First q) e es y) (first_one p q es)
    where
      by : First p e es ⊎ FirstAt P p es → First q e es ⊎ FirstAt P q es → (FirstAt P p es → FirstAt P q es → p ≡ q) → p ≡ q
      by (inl x) (inl y) ih = sym x.0 ∙ y.0
      by (inl x) (inr y) ih = absurd (x.2 (first_any q es y))
      by (inr x) (inl y) ih = absurd (y.2 (first_any p es x))
      by (inr x) (inr y) ih = ih x y

  -- the record s comes first behind es
  first-here : (es : List Entry) (s : Seen) (ss : List Seen) → P (entry_of s) → (AnyOf P es → ⊥) → FirstAt P s.place (onto (entry_of s ∷ es) ss)
  first-here es s ss u n = let (later, i) = onto-tail (entry_of s ∷ es) ss in (later, entry_of s, es, i, (refl, u, n))

  -- one more that is not so
  none_more : (es : List Entry) (e : Entry) → (P e → ⊥) → (AnyOf P es → ⊥) → AnyOf P (e ∷ es) → ⊥
  none_more es e u n a = ⊎_elim u n (among_cases So e es a)

module _ (t : Table) (b : List ℕ) where
  -- ---- what comes of the records

  -- a record has no row exactly where none matches, and a retired one exactly where that matches
  pub record Fair (s : Seen) : Type 0 where
    pub unmatched : s.row ≡ none → Unmatched t b (entry_of s)
    pub matched : (r : Row) → s.row ≡ some r → Unmatched t b (entry_of s) → ⊥
    pub outdated : Tests (is_retired s.row) (Outdated t b (entry_of s))

  abbrev NodesOutcome : List Entry → Answer (List Node) → Type 0
  NodesOutcome es (refused n p) = (n ≡ 29) × FirstAt (Unmatched t b) p es
  NodesOutcome es (given ns) = AnyOf (Unmatched t b) es → ⊥

  nodes-outcome : (ss : List Seen) (es : List Entry) (ns : List Node) → All Fair ss → (AnyOf (Unmatched t b) es → ⊥) → NodesOutcome (onto es ss) (nodes_from es ns ss)
  unfolding nodes_from
  nodes-outcome [] es ns f n = n
  nodes-outcome (s ∷ ss) es ns f n =
      by s.row refl (λ r e. nodes-outcome ss (entry_of s ∷ es) (node_at (ordinal_of es) (form_in r s.body) s.body ∷ ns) f.1 (none_more (Unmatched t b) es (entry_of s) (f.0.matched r e) n))
    where
      by : (o : Option Row) → s.row ≡ o
          → ((r : Row) → s.row ≡ some r → NodesOutcome (onto (entry_of s ∷ es) ss) (nodes_from (entry_of s ∷ es) (node_at (ordinal_of es) (form_in r s.body) s.body ∷ ns) ss))
          → NodesOutcome (onto (entry_of s ∷ es) ss)
          (and_then (or_refused 29 s.place o) (λ r. nodes_from (entry_of s ∷ es) (node_at (ordinal_of es) (form_in r s.body) s.body ∷ ns) ss))
      by none e ih = (refl, first-here (Unmatched t b) es s ss (f.0.unmatched e) n)
      by (some r) e ih = ih r e

  abbrev OldOutcome : List Entry → Option Seen → Type 0
  OldOutcome es none = AnyOf (Outdated t b) es → ⊥
  OldOutcome es (some s) = FirstAt (Outdated t b) s.place es

  old-outcome : (ss : List Seen) (es : List Entry) → All Fair ss → (AnyOf (Outdated t b) es → ⊥) → OldOutcome (onto es ss) (find (λ s. is_retired s.row) ss)
  old-outcome [] es f n = n
  old-outcome (s ∷ ss) es f n = by (is_retired s.row) refl (λ u. old-outcome ss (entry_of s ∷ es) f.1 (none_more (Outdated t b) es (entry_of s) u n))
    where
      by : (x : Bool) → is_retired s.row ≡ x → ((Outdated t b (entry_of s) → ⊥) → OldOutcome (onto (entry_of s ∷ es) ss) (find (λ s. is_retired s.row) ss))
          → OldOutcome (onto (entry_of s ∷ es) ss) (pick x (some s) (find (λ s. is_retired s.row) ss))
      by true e ih = first-here (Outdated t b) es s ss (f.0.outdated.right e) n
      by false e ih = ih (f.0.outdated.wrong e)

  -- a row is known where it fits
  fits-known : (s : Seen) → Right t (at b 8) every s → Part (own b) s → (r : Row) → (s.row ≡ some r) ↔ Fits t (at b 8) s.type (part b s.place (length s.body)) r
  fits-known s (y, w) p r = (
    λ e. rw (y, ← part-lent b s p) (known-then t (at b 8) every s.body r (sym w ∙ e)).0,
    λ f. w ∙ known-when t (at b 8) every s.body r (rw (y, ← part-lent b s p) at f, knows-every r),
  )

  fair : (s : Seen) → Right t (at b 8) every s → Part (own b) s → Fair s
  fair s y p =
      record {
        unmatched = λ e r f. (let k = (fits-known s y p r).1 f in let z : ◌≡◌ {A = ℕ} 0 1 = cc in omega arith);
        matched = λ r e u. u r ((fits-known s y p r).0 e);
        outdated = by s.row refl;
      }
    where
      by : (o : Option Row) → s.row ≡ o → Tests (is_retired o) (Outdated t b (entry_of s))
      by none e = record { right = never; wrong = λ q f. (let k = (fits-known s y p old_rintcs).1 f in let z : ◌≡◌ {A = ℕ} 0 1 = cc in omega arith) }
      by (some r) e =
          record {
            right = λ q. (fits-known s y p old_rintcs).0 (e ∙ ap some (row_number_lem r (eqb-true (row_number r) 4 q)));
            wrong = λ q f. (let k : some r ≡ some old_rintcs = sym e ∙ (fits-known s y p old_rintcs).1 f in let i : r ≡ old_rintcs = cc in eqb-false (row_number r) 4 q (rw i));
          }

  fair-all : (ss : List Seen) → All (Right t (at b 8) every) ss → All (Part (own b)) ss → All Fair ss
  fair-all [] r p = tt
  fair-all (s ∷ ss) r p = (fair s r.0 p.0, fair-all ss r.1 p.1)

-- ---- what a table means

module _ (b : List ℕ) where
  -- refused before the room is looked at
  abbrev Refused : ℕ → ℕ → Type 0
  Refused n p = AtHeader n b p ⊎ (AtRecord n b every p ⊎ (((n ≡ 30) × OtherRevision b p) ⊎ (((n ≡ 29) × Unknown b p) ⊎ ((n ≡ 32) × Retired b p))))

  abbrev Judged : Answer Meaning → Type 0
  Judged (refused n p) = Refused n p
  Judged (given m) = Matched b

  module _ (t : Table) (ss : List Seen) (a : Accepts t b every (onto [] ss)) (e : walked t b every ≡ given ss) where
    all_fair : All (Fair t b) ss
    all_fair = fair-all t b ss (walked-right b every t ss e) (accept-parts b every (accept-walked b every t a.head ∙ e))

    nodes-of : NodesOutcome t b (onto [] ss) (nodes_from [] [] ss)
    nodes-of = nodes-outcome t b ss [] [] all_fair (among_none (So (Unmatched t b)))

    old_of : OldOutcome t b (onto [] ss) (old ss)
    unfolding old
    old_of = old-outcome t b ss [] all_fair (among_none (So (Outdated t b)))

    out-judged : Judged (out_of t b ss)
    unfolding out_of
    out-judged = by (eqb (at b 8) (revision t)) refl
      where
        olds : at b 8 ≡ revision t → (AnyOf (Unmatched t b) (onto [] ss) → ⊥) → (m : Meaning) (o : Option Seen) → OldOutcome t b (onto [] ss) o → Judged (unless_found 32 (λ s. s.place) o (given m))
        olds v u m none n = (t, onto [] ss, a, v, u, n)
        olds v u m (some s) f = inr (inr (inr (inr (refl, (t, onto [] ss, a, v, u, f)))))

        nodes : at b 8 ≡ revision t → (w : Answer (List Node)) → NodesOutcome t b (onto [] ss) w
            → Judged (and_then w (λ ns. unless_found 32 (λ s. s.place) (old ss) (given (means (head_in t b) ns))))
        nodes v (refused n p) (i, f) = inr (inr (inr (inl (i, (t, onto [] ss, a, v, f)))))
        nodes v (given ns) u = olds v u (means (head_in t b) ns) (old ss) old_of

        by : (x : Bool) → eqb (at b 8) (revision t) ≡ x → Judged (pick x (and_then (nodes_from [] [] ss) (λ ns. unless_found 32 (λ s. s.place) (old ss) (given (means (head_in t b) ns)))) (refused 30 8))
        by true v = nodes (eqb-true (at b 8) (revision t) v) (nodes_from [] [] ss) nodes-of
        by false v = inr (inr (inl (refl, (t, onto [] ss, a, eqb-false (at b 8) (revision t) v, refl))))

  judged : Judged (meaning_of b)
  unfolding meaning_of
  judged = by (judge_head b) (header-outcome b)
    where
      records : (t : Table) (hd : Headed t b) (w : Answer (List Seen)) → walked t b every ≡ w → Outcome t b hd every [] w → Judged (and_then w (out_of t b))
      records t hd (refused n p) e o = inr (inl o)
      records t hd (given ss) e o = out-judged t ss (record { head = hd; passed = o }) e

      by : (a : Answer Table) → HeaderOutcome b a → Judged (and_then a (λ t. and_then (walked t b every) (out_of t b)))
      by (refused n p) o = inl o
      by (given t) hd = records t hd (walked t b every) refl (walked-outcome b every t hd)

  -- a table that is accepted means what its records do
  meaning-out : (t : Table) (es : List Entry) → Accepts t b every es
      → (ss : List Seen) × (onto [] ss ≡ es) × (walked t b every ≡ given ss) × (meaning_of b ≡ out_of t b ss)
  unfolding meaning_of
  meaning-out t es a = let (ss, o, e) = walked-gives b every t es a in (ss, o, e, rw (header_is b t a.head, e))

  -- the records of a table of the right revision, every one matched
  module _ (t : Table) (es : List Entry) (a : Accepts t b every es) (v : at b 8 ≡ revision t) (u : AnyOf (Unmatched t b) es → ⊥) where
    out-nodes : (ns : List Node) × (ss : List Seen) × OldOutcome t b es (old ss) × (meaning_of b ≡ unless_found 32 (λ s. s.place) (old ss) (given (means (head_in t b) ns)))
    unfolding out_of
    out-nodes =
        let (ss, o, e, m) = meaning-out t es a in
        let x : Accepts t b every (onto [] ss) = rw o a in
        nodes ss (nodes_from [] [] ss) (nodes_from [] [] ss) refl (rw o at (nodes-of t ss x e)) (rw o at (old_of t ss x e)) (λ ns q. m ∙ rw (eq-eqb (at b 8) (revision t) v, q))
      where
        nodes : (ss : List Seen) (w x : Answer (List Node)) → w ≡ x → NodesOutcome t b es x → OldOutcome t b es (old ss)
            → ((ns : List Node) → w ≡ given ns → meaning_of b ≡ unless_found 32 (λ s. s.place) (old ss) (given (means (head_in t b) ns)))
            → (ns : List Node) × (ss : List Seen) × OldOutcome t b es (old ss) × (meaning_of b ≡ unless_found 32 (λ s. s.place) (old ss) (given (means (head_in t b) ns)))
        nodes ss w (refused n p) q (i, f) o k = absurd (u (first_any (Unmatched t b) p es f))
        nodes ss w (given ns) q z o k = (ns, ss, o, k ns q)

  refuses : (n p : ℕ) → Refused n p → meaning_of b ≡ refused n p
  unfolding meaning_of out_of
  refuses n p (inl a) = rw (header-not b n p a)
  refuses n p (inr (inl c)) = let (t, hd, e) = walked-not b every n p c in rw (header_is b t hd, e)
  refuses n p (inr (inr (inl (i, (t, es, a, v, z))))) =
      let (ss, o, e, m) = meaning-out t es a in
      m ∙ rw (ne_eqb (at b 8) (revision t) v, i, z)
  refuses n p (inr (inr (inr (inl (i, (t, es, a, v, f)))))) =
      let (ss, o, e, m) = meaning-out t es a in
      m ∙ rw (eq-eqb (at b 8) (revision t) v, i) (nodes ss (nodes_from [] [] ss) (rw o at (nodes-of t ss (rw o a) e)))
    where
      nodes : (ss : List Seen) (w : Answer (List Node)) → NodesOutcome t b es w → and_then w (λ ns. unless_found 32 (λ s. s.place) (old ss) (given (means (head_in t b) ns))) ≡ refused 29 p
      nodes ss (refused k q) (j, g) = rw (j, first_one (Unmatched t b) p q es f g)
      nodes ss (given ns) u = absurd (u (first_any (Unmatched t b) p es f))
  refuses n p (inr (inr (inr (inr (i, (t, es, a, v, u, f)))))) =
      let (ns, ss, o, m) = out-nodes t es a v u in
      m ∙ rw i (olds (means (head_in t b) ns) (old ss) o)
    where
      olds : (m : Meaning) (o : Option Seen) → OldOutcome t b es o → unless_found 32 (λ s. s.place) o (given m) ≡ refused 32 p
      olds m none k = absurd (k (first_any (Outdated t b) p es f))
      olds m (some s) g = rw (first_one (Outdated t b) p s.place es f g)

  gives : Matched b → (m : Meaning) × (meaning_of b ≡ given m)
  gives (t, es, a, v, u, k) =
      let (ns, ss, o, m) = out-nodes t es a v u in
      (means (head_in t b) ns, m ∙ olds (means (head_in t b) ns) (old ss) o)
    where
      olds : (m : Meaning) (o : Option Seen) → OldOutcome t b es o → unless_found 32 (λ s. s.place) o (given m) ≡ given m
      olds m none n = refl
      olds m (some s) g = absurd (k (first_any (Outdated t b) s.place es g))

  -- ---- reading out

  module _ (room : ℕ) where
    -- the recipe of a table that is read out
    recipe-is : (m : Meaning) → meaning_of b ≡ given m → recipe b ≡ recipe_of m
    unfolding recipe
    recipe-is m e = rw e

    earned : EarnedOut b room (read_out b room)
    unfolding read_out
    earned = by (meaning_of b) refl judged
      where
        fits : (m : Meaning) → recipe b ≡ recipe_of m → Matched b → (x : Bool) → ltb room (length (recipe_of m)) ≡ x
            → EarnedOut b room (pick x (refused 31 (length (recipe_of m))) (given (length (recipe_of m))))
        fits m i h true e = inr (inr (inr (inr (inr (refl, (h, rw i (ltb-true room (length (recipe_of m)) e), rw i))))))
        fits m i h false e = (h, rw i (ltb-false room (length (recipe_of m)) e), rw i)

        by : (a : Answer Meaning) → meaning_of b ≡ a → Judged a → EarnedOut b room (and_then a (λ m. fitting 31 room (length (recipe_of m))))
        by (refused n p) e (inl a) = inl a
        by (refused n p) e (inr (inl c)) = inr (inl c)
        by (refused n p) e (inr (inr (inl d))) = inr (inr (inl d))
        by (refused n p) e (inr (inr (inr (inl d)))) = inr (inr (inr (inl d)))
        by (refused n p) e (inr (inr (inr (inr d)))) = inr (inr (inr (inr (inl d))))
        by (given m) e h = fits m (recipe-is m e) h (ltb room (length (recipe_of m))) refl

    only : (a : Answer ℕ) → EarnedOut b room a → read_out b room ≡ a
    unfolding read_out
    only (refused n p) (inl a) = rw (refuses n p (inl a))
    only (refused n p) (inr (inl c)) = rw (refuses n p (inr (inl c)))
    only (refused n p) (inr (inr (inl d))) = rw (refuses n p (inr (inr (inl d))))
    only (refused n p) (inr (inr (inr (inl d)))) = rw (refuses n p (inr (inr (inr (inl d)))))
    only (refused n p) (inr (inr (inr (inr (inl d))))) = rw (refuses n p (inr (inr (inr (inr d)))))
    only (refused n p) (inr (inr (inr (inr (inr (i, (h, l, z))))))) =
        let (m, e) = gives h in
        let r : length (recipe b) ≡ length (recipe_of m) = ap length (recipe-is m e) in
        rw (e, lt-ltb room (length (recipe_of m)) (omega arith), i, z, r)
    only (given n) (h, l, z) =
        let (m, e) = gives h in
        let r : length (recipe b) ≡ length (recipe_of m) = ap length (recipe-is m e) in
        rw (e, le-ltb room (length (recipe_of m)) (omega arith), z, r)

    pub one_out : OneOut b room
    one_out = record { earned = earned; only = only }

    -- ---- number by number

    when : (a : Answer ℕ) → (read_out b room ≡ a) ↔ EarnedOut b room a
    when a = (λ e. rw e at earned, only a)

    of-header : (n p : ℕ) → n ≤ 24 → (read_out b room ≡ refused n p) ↔ AtHeader n b p
    of-header n p l = (λ e. by ((when (refused n p)).0 e), λ a. only (refused n p) (inl a))
      where
        by : EarnedOut b room (refused n p) → AtHeader n b p
        by (inl a) = a
        by (inr (inl c)) = absurd (omega (arith, record-number b every n p c))
        by (inr (inr (inl d))) = absurd (omega (arith, d.0))
        by (inr (inr (inr (inl d)))) = absurd (omega (arith, d.0))
        by (inr (inr (inr (inr (inl d))))) = absurd (omega (arith, d.0))
        by (inr (inr (inr (inr (inr d))))) = absurd (omega (arith, d.0))

    of-record : (n p : ℕ) → (25 ≤ n) × (n ≤ 27) → (read_out b room ≡ refused n p) ↔ AtRecord n b every p
    of-record n p l = (λ e. by ((when (refused n p)).0 e), λ c. only (refused n p) (inr (inl c)))
      where
        by : EarnedOut b room (refused n p) → AtRecord n b every p
        by (inl a) = absurd (omega (arith, header-number b n p a))
        by (inr (inl c)) = c
        by (inr (inr (inl d))) = absurd (omega (arith, d.0))
        by (inr (inr (inr (inl d)))) = absurd (omega (arith, d.0))
        by (inr (inr (inr (inr (inl d))))) = absurd (omega (arith, d.0))
        by (inr (inr (inr (inr (inr d))))) = absurd (omega (arith, d.0))

    -- what is left of a number behind the records
    abbrev Behind : ℕ → ℕ → Type 0
    Behind n p = ((n ≡ 30) × OtherRevision b p) ⊎ (((n ≡ 29) × Unknown b p) ⊎ (((n ≡ 32) × Retired b p) ⊎ ((n ≡ 31) × NoRoom b room p)))

    behind : (n p : ℕ) → 27 < n → EarnedOut b room (refused n p) → Behind n p
    behind n p l (inl a) = absurd (omega (arith, header-number b n p a))
    behind n p l (inr (inl c)) = absurd (omega (arith, record-number b every n p c))
    behind n p l (inr (inr d)) = d

    other-revision : (p : ℕ) → Behind 30 p → OtherRevision b p
    other-revision p (inl d) = d.1
    other-revision p (inr (inl d)) = absurd (omega (arith, d.0))
    other-revision p (inr (inr (inl d))) = absurd (omega (arith, d.0))
    other-revision p (inr (inr (inr d))) = absurd (omega (arith, d.0))

    unknown : (p : ℕ) → Behind 29 p → Unknown b p
    unknown p (inl d) = absurd (omega (arith, d.0))
    unknown p (inr (inl d)) = d.1
    unknown p (inr (inr (inl d))) = absurd (omega (arith, d.0))
    unknown p (inr (inr (inr d))) = absurd (omega (arith, d.0))

    retired : (p : ℕ) → Behind 32 p → Retired b p
    retired p (inl d) = absurd (omega (arith, d.0))
    retired p (inr (inl d)) = absurd (omega (arith, d.0))
    retired p (inr (inr (inl d))) = d.1
    retired p (inr (inr (inr d))) = absurd (omega (arith, d.0))

    no_room_lem : (p : ℕ) → Behind 31 p → NoRoom b room p
    no_room_lem p (inl d) = absurd (omega (arith, d.0))
    no_room_lem p (inr (inl d)) = absurd (omega (arith, d.0))
    no_room_lem p (inr (inr (inl d))) = absurd (omega (arith, d.0))
    no_room_lem p (inr (inr (inr d))) = d.1

    pub exactly-out : ExactlyOut b room
    exactly-out =
        record {
          short = λ p. of-header 20 p (omega arith);
          bad_sign = λ p. of-header 21 p (omega arith);
          bad_length = λ p. of-header 22 p (omega arith);
          bad_sum = λ p. of-header 23 p (omega arith);
          bad_front = λ p. of-header 24 p (omega arith);
          bad_frame = λ p. of-record 25 p (omega arith);
          bad_record = λ p. of-record 26 p (omega arith);
          bad_ref = λ p. of-record 27 p (omega arith);
          other_revision = λ p. (λ e. other-revision p (behind 30 p (omega arith) ((when (refused 30 p)).0 e)), λ d. only (refused 30 p) (inr (inr (inl (refl, d)))));
          unknown = λ p. (λ e. unknown p (behind 29 p (omega arith) ((when (refused 29 p)).0 e)), λ d. only (refused 29 p) (inr (inr (inr (inl (refl, d))))));
          retired = λ p. (λ e. retired p (behind 32 p (omega arith) ((when (refused 32 p)).0 e)), λ d. only (refused 32 p) (inr (inr (inr (inr (inl (refl, d)))))));
          no_room = λ p. (λ e. no_room_lem p (behind 31 p (omega arith) ((when (refused 31 p)).0 e)), λ d. only (refused 31 p) (inr (inr (inr (inr (inr (refl, d)))))));
          out = λ n. when (given n);
        }
