-- A recipe that is not refused means good nodes, by induction over its records; so its table is read out as what it means.
use mathlib.Core.Path.{◌≡◌, refl, ap}
use Prim.Native.Nat.{ℕ, zero, suc, ◌+◌, ◌≤◌}
use mathlib.Core.List.{List, [], ◌∷◌}
use mathlib.Core.Bool.{Bool, true, false, not}
use mathlib.Core.Option.{Option, none, some}
use native.Mathlib.Omega.{arith}
use lib.ListN.{length, drop}
use lib.Dec.{eqb, ltb}
use borrow.Author.Tests.{eqb-false, ltb-false}
use Rattle.format.specs.Bytes.{pick, first_of, Bytes, at, part, refused, given, and_then, or_refused}
use Rattle.format.specs.Layout.{width, fields, fixed_ok}
use Rattle.format.specs.Table.{Table, pptt, srat, hmat, cedt, code, front, limit, Head, head_of}
use Rattle.format.specs.Node.{Node, sizes}
use Rattle.format.specs.Form.{Width, byte}
use Rattle.format.specs.Kind.{Kind, Processor, Resource, Cache, Memory, Acpi, Pci, Rintc, Domain, Matrix, Initiator, Target, Cell, Side, Handle, Bridge, Window, WindowTarget, Xor, Map, kind_number, kinds, kind_of, no_kind, body, part_in, width_behind}
use Rattle.format.specs.Recipe.{Calls, done, bad_kind, cut_off, called, cut_as, skip, cut, newest, step, added, fault, lacking, fault_at, Meaning, means, since, run, table_of, headed, meaning}
use Rattle.format.specs.Build.{table_from}
use Rattle.format.specs.Out.{meaning_of}
use Rattle.laws.proofs.Bytes.{bytes_drop, length_part}
use Rattle.laws.proofs.Finds.{All, found_in, none_first, then-given, unless-given}
use Rattle.laws.proofs.Lays.{Fit, Sane, fields_fit}
use Rattle.laws.proofs.Good.{Good}
use Rattle.laws.proofs.Heads.{read-built}
use Rattle.laws.proofs.Grows.{passed, kind_home, Grown, whole-good, grows}
use mathlib.Core.Logic.{inl}

-- ---- a body holds nothing fixed, and no two fields in one

fixed-body : (k : Kind) (bs : List ℕ) → fixed_ok (body k) bs ≡ true
unfolding fixed_ok body
fixed-body Processor bs = refl
fixed-body Resource bs = refl
fixed-body Cache bs = refl
fixed-body Memory bs = refl
fixed-body Acpi bs = refl
fixed-body Pci bs = refl
fixed-body Rintc bs = refl
fixed-body Domain bs = refl
fixed-body (Matrix w) bs = refl
fixed-body (Initiator w) bs = refl
fixed-body (Target w) bs = refl
fixed-body (Cell w) bs = refl
fixed-body Side bs = refl
fixed-body Handle bs = refl
fixed-body Bridge bs = refl
fixed-body Window bs = refl
fixed-body WindowTarget bs = refl
fixed-body Xor bs = refl
fixed-body Map bs = refl

sane-body : (k : Kind) → Sane (body k)
unfolding body
sane-body Processor = (tt, (tt, (tt, tt)))
sane-body Resource = (tt, tt)
sane-body Cache = (tt, (tt, (tt, (tt, (tt, (tt, (tt, (tt, tt))))))))
sane-body Memory = (tt, (tt, (tt, (tt, tt))))
sane-body Acpi = (tt, (tt, (tt, (tt, tt))))
sane-body Pci = (tt, (tt, (tt, (tt, (tt, (tt, tt))))))
sane-body Rintc = (tt, (tt, (tt, (tt, tt))))
sane-body Domain = (tt, (tt, tt))
sane-body (Matrix w) = (tt, (tt, (tt, (tt, (tt, (tt, tt))))))
sane-body (Initiator w) = (tt, (tt, tt))
sane-body (Target w) = (tt, (tt, tt))
sane-body (Cell w) = (tt, (tt, (tt, tt)))
sane-body Side = (tt, (tt, (tt, tt)))
sane-body Handle = (tt, tt)
sane-body Bridge = (tt, (tt, (tt, tt)))
sane-body Window = (tt, (tt, (tt, (tt, (tt, (tt, (tt, tt)))))))
sane-body WindowTarget = (tt, tt)
sane-body Xor = (tt, tt)
sane-body Map = (tt, tt)

pub body-fits : (k : Kind) (bs : List ℕ) → Bytes bs → width (body k) ≤ length bs → Fit (body k) (fields (body k) bs)
body-fits k bs h l = fields_fit (body k) bs (sane-body k) h l (fixed-body k bs)

all-home : (t : Table) → All (λ k. kind_home k ≡ t) (kinds t)
all-home pptt = (refl, (refl, (refl, tt)))
all-home srat = (refl, (refl, (refl, (refl, tt))))
all-home hmat = (refl, (refl, (refl, (refl, (refl, (refl, (refl, (refl, (refl, (refl, (refl, tt)))))))))))
all-home cedt = (refl, (refl, (refl, (refl, (refl, tt)))))

pub kind-home : (t : Table) (b : ℕ) (k : Kind) → kind_of t b ≡ some k → kind_home k ≡ t
unfolding kind_of
kind-home t b k e = found_in (λ k. kind_home k ≡ t) (λ k. eqb b (kind_number k)) (kinds t) k (all-home t) e

-- two tables whose codes differ
pub other-table : {t u : Table} → eqb (code t) (code u) ≡ false → t ≡ u → ⊥
other-table {t} {u} e f = eqb-false (code t) (code u) e (ap code f)

-- ---- what holds of all that is cut

-- of the kind and the fields of each record, and of the number for a byte that names no kind
abbrev pub Each : (Kind → List ℕ → Type 0) → (ℕ → Type 0) → (Kind → Type 0) → Calls → Type 0
Each P Q R done = Unit
Each P Q R (bad_kind n p) = Q n
Each P Q R (cut_off p k) = R k
Each P Q R (called p k vs rest) = P k vs × Each P Q R rest

-- where S, which holds of a list, holds of what is left behind its first byte
module _ (t : Table) (S : List ℕ → Type 0) (P : Kind → List ℕ → Type 0) (Q : ℕ → Type 0) (R : Kind → Type 0) (behind : (b : ℕ) (bs : List ℕ) → S (b ∷ bs) → S bs)
    (unnamed : (b : ℕ) → Q (no_kind t b)) (short : (b : ℕ) (k : Kind) → kind_of t b ≡ some k → R k)
    (named : (b : ℕ) (k : Kind) (bs : List ℕ) → kind_of t b ≡ some k → S bs → width (body k) ≤ length bs → P k (fields (body k) bs)) where
  each-as : (b : ℕ) (o : Option Kind) (bs : List ℕ) (p : ℕ) (rest : Calls) → kind_of t b ≡ o → S bs → Each P Q R rest → Each P Q R (cut_as o (no_kind t b) bs p rest)
  unfolding cut_as
  each-as b none bs p rest e s w = unnamed b
  each-as b (some k) bs p rest e s w = long (ltb (length bs) (width (body k))) refl
    where
      long : (x : Bool) → ltb (length bs) (width (body k)) ≡ x → Each P Q R (pick x (cut_off p k) (called p k (fields (body k) bs) rest))
      long true f = short b k e
      long false f = (named b k bs e s (ltb-false (length bs) (width (body k)) f), w)

  pub cut-each : (n p : ℕ) (bs : List ℕ) → S bs → Each P Q R (cut t n p bs)
  unfolding cut
  cut-each n p [] s = tt
  cut-each (suc n) p (b ∷ bs) s = cut-each n (suc p) bs (behind b bs s)
  cut-each zero p (b ∷ bs) s =
      let r = behind b bs s in
      each-as b (kind_of t b) bs p (cut t (skip (kind_of t b)) (suc p) bs) refl r (cut-each (skip (kind_of t b)) (suc p) bs r)

-- every record is the table's, and its fields fit
abbrev Whole : Table → Calls → Type 0
Whole t = Each (λ k vs. (kind_home k ≡ t) × Fit (body k) vs) (λ n. Unit) (λ k. Unit)

cut-whole : (t : Table) (n p : ℕ) (bs : List ℕ) → Bytes bs → Whole t (cut t n p bs)
cut-whole t =
    cut-each t Bytes (λ k vs. (kind_home k ≡ t) × Fit (body k) vs) (λ n. Unit) (λ k. Unit) (λ b bs h. h.1) (λ b. tt) (λ b k e. tt) (λ b k bs e h l. (kind-home t b k e, body-fits k bs h l))

-- ---- the pass

run-good : (h : Head) (q : ℕ) (u : Width) (ns : List Node) (cs : Calls) (m : Meaning)
    → Whole h.table cs → Grown h.table ns → front h.table + sizes ns ≤ limit → run h q u ns cs ≡ given m
    → (h ≡ m.head) × Good h.table m.nodes × (front h.table + sizes m.nodes ≤ limit)
unfolding run
run-good h q u ns done m w g l e =
    let (z, r) = unless-given (lacking (newest ns) none) q (given (means h ns)) e in
    let i : means h ns ≡ m = cc in
    rw (← i) (refl, whole-good h.table ns none refl z g, l)
run-good h q u ns (bad_kind n p) m w g l e = absurd (let (z, r) = unless-given (lacking (newest ns) none) q (refused n p) e in let z : ◌≡◌ {A = ℕ} 0 1 = cc in omega arith)
run-good h q u ns (cut_off p k) m w g l e = absurd (let (z, r) = unless-given (lacking (newest ns) (some k)) q (refused 3 p) e in let z : ◌≡◌ {A = ℕ} 0 1 = cc in omega arith)
run-good h q u ns (called p k vs rest) m ((own, f), w) g l e =
    let n = fault h.table u ns k vs in
    let (i, d) = unless-given (lacking (newest ns) (some k)) q _ e in
    let (z, r) = unless-given n (p + fault_at n k (step k vs ns).ranges) (run h (since ns (added k vs ns) p q) (width_behind (part_in k) u) (added k vs ns) rest) d in
    let s = passed h.table u ns k vs z in
    let more : Grown (kind_home k) (added k vs ns) = grows k vs ns f (rw own s) i (rw own g) in
    run-good h (since ns (added k vs ns) p q) (width_behind (part_in k) u) (added k vs ns) rest m w (rw own at more) s.short r

pub front-short : (t : Table) → front t + 0 ≤ limit
front-short pptt = omega arith
front-short srat = omega arith
front-short hmat = omega arith
front-short cedt = omega arith

-- what a recipe means: a head of the table's own revision, and good nodes within the limit
pub record Means (m : Meaning) : Type 0 where
  pub head : m.head ≡ head_of m.head.table m.head.identity
  pub identity : length m.head.identity ≡ 26
  pub good : Good m.head.table m.nodes
  pub short : front m.head.table + sizes m.nodes ≤ limit

-- the head of a recipe that has one
pub headed-given : (r : List ℕ) (h : Head) → headed r ≡ given h → (h ≡ head_of h.table (part r 2 26)) × (28 ≤ length r)
unfolding headed
headed-given r h e =
    let tests : List (Bool × ℕ) = (not (eqb (at r 0) 1), 1) ∷ (ltb (length r) 28, 3) ∷ [] in
    let (z, d) = unless-given (first_of tests) 0 (and_then (or_refused 5 1 (table_of (at r 1))) (λ t. given (head_of t (part r 2 26)))) e in
    let n : 28 ≤ length r = ltb-false (length r) 28 (none_first tests (search arith) z).1.0 in
    let (t, o, f) = then-given (or_refused 5 1 (table_of (at r 1))) (λ t. given (head_of t (part r 2 26))) d in
    let y : head_of t (part r 2 26) ≡ h = cc in
    rw (← y) (refl, n)

pub meaning-good : (r : List ℕ) (m : Meaning) → Bytes r → meaning r ≡ given m → Means m
unfolding meaning sizes
meaning-good r m b e =
    let (h, d, f) = then-given (headed r) (λ h. run h 0 byte [] (cut h.table 0 28 (drop 28 r))) e in
    let t = h.table in
    let (same, g, l) = run-good h 0 byte [] (cut t 0 28 (drop 28 r)) m (cut-whole t 0 28 (drop 28 r) (bytes_drop 28 r b)) (inl tt) (front-short t) f in
    let (own, n) = headed-given r h d in
    let i : h.identity ≡ part r 2 26 = ap (λ (h : Head). h.identity) own in
    let whole : h ≡ head_of t h.identity = rw i own in
    let long : length h.identity ≡ 26 = rw i (length_part r 2 26 (omega arith)) in
    record { head = rw same at whole; identity = rw same at long; good = rw same at g; short = rw same at l }

-- ---- the table of what a recipe means, means that

pub table-means : (r : List ℕ) (m : Meaning) → Bytes r → meaning r ≡ given m → meaning_of (table_from m) ≡ given m
table-means r m b e =
    let x = meaning-good r m b e in
    let h = x.head in
    let y = read-built m.head.table m.head.identity m.nodes x.identity x.good x.short in
    rw (← h) at y
