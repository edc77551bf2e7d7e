-- A recipe that builds as its head and its records: cut in one way, and run record by record, whatever the places.
use mathlib.Core.Path.{◌≡◌, refl, sym, ap, ◌∙◌}
use Prim.Native.Nat.{ℕ, zero, suc, ◌+◌, ◌≤◌}
use mathlib.Core.List.{List, [], ◌∷◌, ◌++◌}
use mathlib.Core.Bool.{Bool, true, false, not}
use mathlib.Core.Option.{Option, none, some}
use native.Mathlib.Omega.{arith}
use lib.ListN.{length, take, drop, length-append, length-drop, take-append-drop, get_or-append}
use lib.Seq.{drop_at, take-append-le, drop-append-le, length-take-le}
use lib.Dec.{eqb, ltb}
use borrow.Author.Tests.{ltb-false, le-ltb}
use Rattle.format.specs.Bytes.{pick, first_of, at, part, Answer, refused, given, and_then, or_refused, unless}
use Rattle.format.specs.Layout.{Item, wide, width, fields_with, fields}
use Rattle.format.specs.Table.{Table, Head, head_of}
use Rattle.format.specs.Form.{Width, byte}
use Rattle.format.specs.Node.{Node}
use Rattle.format.specs.Kind.{Kind, kind_number, kind_of, no_kind, body, part_in, width_behind}
use Rattle.format.specs.Recipe.{Calls, cut_off, called, cut_as, skip, cut, newest, step, added, fault, fault_at, lacking, Meaning, means, since, run, table_of, headed, meaning}
use Rattle.laws.specs.AnyOrder.{Each, Rec, Whole, bytes_of, flat, Cut, fields_of}
use Rattle.laws.proofs.Finds.{none_first, then-given, unless-given}
use Rattle.laws.proofs.Grows.{kind-number}
use Rattle.laws.proofs.Faults.{kind-then}
use Rattle.laws.proofs.Calls.{cut-skip}
use Rattle.laws.proofs.Shuffles.{alike}

-- ---- one record in front

fields-front : (is : List Item) (xs ys : List ℕ) → width is ≤ length xs → fields is (xs ++ ys) ≡ fields is xs
unfolding fields_with width
fields-front [] xs ys l = refl
fields-front (i ∷ is) xs ys l =
    let n : wide i ≤ length xs = omega arith in
    let m : width is ≤ length (drop (wide i) xs) = simp length-drop (omega arith) in
    rw (take-append-le (wide i) xs ys n, drop-append-le (wide i) xs ys n, fields-front is (drop (wide i) xs) ys m)

-- table t has the kind of the record
abbrev Known : Table → Rec → Type 0
Known t a = kind_of t (kind_number a.kind) ≡ some a.kind

cut_record : (t : Table) (a : Rec) (rest : List ℕ) (p : ℕ) → Whole a → Known t a
    → cut t 0 p (bytes_of a ++ rest) ≡ called p a.kind (fields_of a) (cut t 0 (suc p + width (body a.kind)) rest)
unfolding cut cut_as
cut_record t a rest p l e =
    let w = width (body a.kind) in
    let xs = a.bytes in
    let m : w ≤ length (xs ++ rest) = simp length-append (omega arith) in
    rw (e, le-ltb (length (xs ++ rest)) w m, fields-front (body a.kind) xs rest (omega arith), cut-skip t w (suc p) (xs ++ rest), drop_at xs rest w l)

-- ---- records that are run

-- behind nodes ns, the newest matrix's counts w wide, the record may come and is without fault
pub record Passes (t : Table) (w : Width) (ns : List Node) (a : Rec) : Type 0 where
  pub known : Known t a
  pub free : lacking (newest ns) (some a.kind) ≡ 0
  pub fine : fault t w ns a.kind (fields_of a) ≡ 0

module _ (h : Head) (m : Meaning) where
  -- so do all of these, and together they mean m
  abbrev pub Goes : List Rec → Width → List Node → Type 0
  Goes [] w ns = (lacking (newest ns) none ≡ 0) × (means h ns ≡ m)
  Goes (a ∷ cs) w ns = Passes h.table w ns a × Goes cs (width_behind (part_in a.kind) w) (added a.kind (fields_of a) ns)

  -- what stands behind a record that is without fault, at its place
  abbrev Behind : ℕ → ℕ → Width → List Node → Rec → List ℕ → Type 0
  Behind p q w ns a rest =
      let ns' : List Node = added a.kind (fields_of a) ns in
      run h (since ns ns' p q) (width_behind (part_in a.kind) w) ns' (cut h.table 0 (suc p + width (body a.kind)) rest) ≡ given m

  known_of : (a : Rec) (o : Option Kind) (n : ℕ) (xs : List ℕ) (p q : ℕ) (w : Width) (ns : List Node) (rest : Calls) → kind_of h.table (kind_number a.kind) ≡ o
      → run h q w ns (cut_as o n xs p rest) ≡ given m → Known h.table a
  unfolding run cut_as
  known_of a none n xs p q w ns rest e f =
      let (z, r) = unless-given (lacking (newest ns) none) q (refused n p) f in
      absurd (let z : ◌≡◌ {A = ℕ} 0 1 = cc in omega arith)
  known_of a (some k) n xs p q w ns rest e f =
      let s : k ≡ a.kind = kind-number k a.kind (sym (kind-then h.table (kind_number a.kind) k e).1) in
      e ∙ ap some s

  -- a whole record in front is without fault, and the rest goes on with it
  off : (a : Rec) (rest : List ℕ) (p q : ℕ) (w : Width) (ns : List Node) → Whole a → run h q w ns (cut h.table 0 p (bytes_of a ++ rest)) ≡ given m
      → Passes h.table w ns a × Behind p q w ns a rest
  unfolding cut run
  off a rest p q w ns l e =
      let t = h.table in
      let k = a.kind in
      let vs = fields_of a in
      let ns' = added k vs ns in
      let n = fault t w ns k vs in
      let next = cut t 0 (suc p + width (body k)) rest in
      let o : Known t a = known_of a (kind_of t (kind_number k)) (no_kind t (kind_number k)) (a.bytes ++ rest) p q w ns (cut t (skip (kind_of t (kind_number k))) (suc p) (a.bytes ++ rest)) refl e in
      let f : run h q w ns (called p k vs next) ≡ given m = sym (ap (run h q w ns) (cut_record t a rest p l o)) ∙ e in
      let go = run h (since ns ns' p q) (width_behind (part_in k) w) ns' next in
      let (x, r) = unless-given (lacking (newest ns) (some k)) q (unless n (p + fault_at n k (step k vs ns).ranges) go) f in
      let (z, s) = unless-given n (p + fault_at n k (step k vs ns).ranges) go r in
      (record { known = o; free = x; fine = z }, s)

  on : (a : Rec) (rest : List ℕ) (p q : ℕ) (w : Width) (ns : List Node) → Whole a → Passes h.table w ns a → Behind p q w ns a rest
      → run h q w ns (cut h.table 0 p (bytes_of a ++ rest)) ≡ given m
  unfolding run
  on a rest p q w ns l s e = ap (run h q w ns) (cut_record h.table a rest p l s.known) ∙ rw (s.free, s.fine) e

  means-one : (ns : List Node) → ◌≡◌ {A = Answer Meaning} (given (means h ns)) (given m) → means h ns ≡ m
  means-one ns e = cc

  goes_in : (cs : List Rec) → Each Whole cs → (p q : ℕ) (w : Width) (ns : List Node) → run h q w ns (cut h.table 0 p (flat cs)) ≡ given m → Goes cs w ns
  unfolding flat cut run
  goes_in [] ws p q w ns e = let (z, r) = unless-given (lacking (newest ns) none) q (given (means h ns)) e in (z, means-one ns r)
  goes_in (a ∷ cs) (l, ws) p q w ns e =
      let ns' = added a.kind (fields_of a) ns in
      let (s, r) = off a (flat cs) p q w ns l e in
      (s, goes_in cs ws (suc p + width (body a.kind)) (since ns ns' p q) (width_behind (part_in a.kind) w) ns' r)

  goes-out : (cs : List Rec) → Each Whole cs → (p q : ℕ) (w : Width) (ns : List Node) → Goes cs w ns → run h q w ns (cut h.table 0 p (flat cs)) ≡ given m
  unfolding flat cut run
  goes-out [] ws p q w ns (z, e) = rw z (ap given e)
  goes-out (a ∷ cs) (l, ws) p q w ns (s, g) =
      let ns' = added a.kind (fields_of a) ns in
      on a (flat cs) p q w ns l s (goes-out cs ws (suc p + width (body a.kind)) (since ns ns' p q) (width_behind (part_in a.kind) w) ns' g)

  -- the first byte is a kind's, and its body is there
  first : (b : ℕ) (xs : List ℕ) (p q : ℕ) (w : Width) (ns : List Node) → run h q w ns (cut h.table 0 p (b ∷ xs)) ≡ given m → (k : Kind) × (b ≡ kind_number k) × (width (body k) ≤ length xs)
  unfolding cut cut_as run
  first b xs p q w ns e = by (kind_of h.table b) refl (cut h.table (skip (kind_of h.table b)) (suc p) xs) e
    where
      long : (k : Kind) (x : Bool) (rest : Calls) → ltb (length xs) (width (body k)) ≡ x → run h q w ns (pick x (cut_off p k) (called p k (fields (body k) xs) rest)) ≡ given m → width (body k) ≤ length xs
      long k true rest o e =
          let (z, r) = unless-given (lacking (newest ns) (some k)) q (refused 3 p) e in
          absurd (let z : ◌≡◌ {A = ℕ} 0 1 = cc in omega arith)
      long k false rest o e = ltb-false (length xs) (width (body k)) o

      by : (o : Option Kind) → kind_of h.table b ≡ o → (rest : Calls) → run h q w ns (cut_as o (no_kind h.table b) xs p rest) ≡ given m → (k : Kind) × (b ≡ kind_number k) × (width (body k) ≤ length xs)
      by none o rest e =
          let (z, r) = unless-given (lacking (newest ns) none) q (refused (no_kind h.table b) p) e in
          absurd (let z : ◌≡◌ {A = ℕ} 0 1 = cc in omega arith)
      by (some k) o rest e = (k, (kind-then h.table b k o).1, long k (ltb (length xs) (width (body k))) rest refl e)

  -- bytes of length n at most that are run are whole records
  abbrev Parted : ℕ → Type 0
  Parted n = (xs : List ℕ) (p q : ℕ) (w : Width) (ns : List Node) → length xs ≤ n → run h q w ns (cut h.table 0 p xs) ≡ given m → (cs : List Rec) × Each Whole cs × (xs ≡ flat cs)

  parted-none : Parted 0
  unfolding flat
  parted-none [] p q w ns l e = ([], tt, refl)
  parted-none (b ∷ xs) p q w ns l e = absurd (omega arith)

  parted-more : (n : ℕ) → Parted n → Parted (suc n)
  unfolding flat
  parted-more n ih [] p q w ns l e = ([], tt, refl)
  parted-more n ih (b ∷ xs) p q w ns l e =
      let (k, o, i) = first b xs p q w ns e in
      let long = width (body k) in
      let a : Rec = record { kind = k; bytes = take long xs } in
      let j : Whole a = length-take-le long xs i in
      let z : bytes_of a ++ drop long xs ≡ b ∷ xs = rw (take-append-drop long xs, ← o) in
      let (s, r) = off a (drop long xs) p q w ns j (rw (← z) at e) in
      let ns' = added k (fields_of a) ns in
      let (cs, ws, is) = ih (drop long xs) (suc p + long) (since ns ns' p q) (width_behind (part_in k) w) ns' (simp length-drop (omega arith)) r in
      (a ∷ cs, (j, ws), sym z ∙ ap (λ (l : List ℕ). bytes_of a ++ l) is)

  parted : (n : ℕ) → Parted n
  parted zero = parted-none
  parted (suc n) = parted-more n (parted n)

  -- where ds goes for cs in front of others, it does behind any
  pub behind-any : (cs ds : List Rec) → ((w : Width) (ns : List Node) → Goes cs w ns → Goes ds w ns) → (xs : List Rec) (w : Width) (ns : List Node) → Goes (xs ++ cs) w ns → Goes (xs ++ ds) w ns
  behind-any cs ds f [] w ns g = f w ns g
  behind-any cs ds f (a ∷ xs) w ns (s, g) = (s, behind-any cs ds f xs (width_behind (part_in a.kind) w) (added a.kind (fields_of a) ns) g)

-- ---- the head in front

headed-front : (front xs : List ℕ) → length front ≡ 28 → headed (front ++ xs) ≡ headed front
unfolding headed part
headed-front front xs l =
    let n : 28 ≤ length (front ++ xs) = simp length-append (omega arith) in
    rw (
      get_or-append front xs 0 0 (omega arith),
      get_or-append front xs 0 1 (omega arith),
      le-ltb (length (front ++ xs)) 28 n,
      le-ltb (length front) 28 (omega arith),
      drop-append-le 2 front xs (omega arith),
      take-append-le 26 (drop 2 front) xs (simp length-drop (omega arith)),
    )

-- what is run behind the head
abbrev ran : List ℕ → Head → Answer Meaning
ran xs h = run h 0 byte [] (cut h.table 0 28 xs)

meaning-front : (front xs : List ℕ) → length front ≡ 28 → meaning (front ++ xs) ≡ and_then (headed front) (ran xs)
unfolding meaning
meaning-front front xs l = rw (headed-front front xs l, drop_at front xs 28 l)

pub meaning-in : (front : List ℕ) (cs : List Rec) (m : Meaning) → Cut front cs → meaning (front ++ flat cs) ≡ given m → (h : Head) × (headed front ≡ given h) × Goes h m cs byte []
meaning-in front cs m (l, ws) e =
    let (h, d, f) = then-given (headed front) (ran (flat cs)) (sym (meaning-front front (flat cs) l) ∙ e) in
    (h, d, goes_in h m cs ws 28 0 byte [] f)

pub meaning-out : (front : List ℕ) (cs : List Rec) (m : Meaning) (h : Head) → Cut front cs → headed front ≡ given h → Goes h m cs byte [] → meaning (front ++ flat cs) ≡ given m
meaning-out front cs m h (l, ws) d g = meaning-front front (flat cs) l ∙ rw d (goes-out h m cs ws 28 0 byte [] g)

-- ---- every recipe that means something

headed-long : (r : List ℕ) (h : Head) → headed r ≡ given h → 28 ≤ length r
unfolding headed
headed-long r h e =
    let tests : List (Bool × ℕ) = (not (eqb (at r 0) 1), 1) ∷ (ltb (length r) 28, 3) ∷ [] in
    let (z, d) = unless-given (first_of tests) 0 (and_then (or_refused 5 1 (table_of (at r 1))) (λ t. given (head_of t (part r 2 26)))) e in
    ltb-false (length r) 28 (none_first tests (search arith) z).1.0

pub cut_up : (r : List ℕ) (m : Meaning) → meaning r ≡ given m → (front : List ℕ) × (cs : List Rec) × Cut front cs × (r ≡ front ++ flat cs)
unfolding meaning
cut_up r m e =
    let (h, d, f) = then-given (headed r) (ran (drop 28 r)) e in
    let (cs, ws, is) = parted h m (length (drop 28 r)) (drop 28 r) 28 0 byte [] (omega arith) f in
    (take 28 r, cs, (length-take-le 28 r (headed-long r h d), ws), sym (take-append-drop 28 r) ∙ ap (λ (l : List ℕ). take 28 r ++ l) is)

-- ---- in one way

append-sole : {A : Type 0} (xs ys us vs : List A) → length xs ≡ length us → xs ++ ys ≡ us ++ vs → (xs ≡ us) × (ys ≡ vs)
append-sole [] ys [] vs l e = (refl, e)
append-sole [] ys (u ∷ us) vs l e = absurd (omega arith)
append-sole (x ∷ xs) ys [] vs l e = absurd (omega arith)
append-sole (x ∷ xs) ys (u ∷ us) vs l e =
    let (f, g) = append-sole xs ys us vs (omega arith) cc in
    (cc, g)

flat-sole : (cs ds : List Rec) → Each Whole cs → Each Whole ds → flat cs ≡ flat ds → cs ≡ ds
unfolding flat
flat-sole [] [] v w e = refl
flat-sole [] (b ∷ ds) v w e = cc
flat-sole (a ∷ cs) [] v w e = cc
flat-sole (a ∷ cs) (b ∷ ds) (v, vs) (w, ws) e =
    let k : a.kind ≡ b.kind = kind-number a.kind b.kind cc in
    let l : length a.bytes ≡ length b.bytes = v ∙ (ap (λ k. width (body k)) k ∙ sym w) in
    let (f, g) = append-sole a.bytes (flat cs) b.bytes (flat ds) l cc in
    let s : a ≡ b = alike a.kind b.kind a.bytes b.bytes k f in
    rw (s, flat-sole cs ds vs ws g)

pub cut-sole : (front other : List ℕ) (cs ds : List Rec) → Cut front cs → Cut other ds → front ++ flat cs ≡ other ++ flat ds → (front ≡ other) × (cs ≡ ds)
cut-sole front other cs ds (l, v) (n, w) e =
    let (f, g) = append-sole front (flat cs) other (flat ds) (l ∙ sym n) e in
    (f, flat-sole cs ds v w g)
