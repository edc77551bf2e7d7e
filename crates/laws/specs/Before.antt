-- What the orders of document 02 left as it was: the meaning of a recipe as document 01 alone has it, and how an answer may differ from it.
use Rattle.std.specs.Prelude.{◌≡◌, ℕ, ◌+◌, ◌<◌, List, [], ◌∷◌, Bool, false, not, length, drop, eqb, ltb}
use Rattle.std.proofs.Math.Option.{Option}
use Rattle.format.specs.Bytes.{pick, all, first_of, find, Answer, refused, given, and_then, or_refused, unless, at, part}
use Rattle.format.specs.Layout.{refs_good}
use Rattle.format.specs.Table.{Table, pptt, srat, hmat, cedt, code, front, Head, head_of}
use Rattle.format.specs.Form.{octets}
use Rattle.format.specs.Node.{Node, sizes, starts, at_ordinal}
use Rattle.format.specs.Kind.{Kind, Rintc, body, Part, opens, sets, apart, part_in}
use Rattle.format.specs.Recipe.{Calls, done, bad_kind, cut_off, called, cut, Step, step, added, Meaning, means, meaning}

-- a table was never longer than this
abbrev pub limit_before : ℕ
limit_before = 1048576

-- a reference that is not good is 6, for whatever reason
unfoldable pub fault_before : Table → List Node → Kind → List ℕ → ℕ
fault_before t ns k vs =
    let s : Step = step k vs ns in
    first_of ((not s.placed, 4)
    ∷ (not (all s.ranges), 5)
    ∷ (not (refs_good (at_ordinal (starts t s.earlier)) (body k) vs), 6)
    ∷ (s.full, 7)
    ∷ (ltb limit_before (front t + sizes s.nodes), 8) ∷ [])

-- it has counts or indices of two bytes: no kind of document 01
abbrev pub is_wide : Part → Bool
is_wide (opens w) = eqb (octets w) 2
is_wide (sets w) = eqb (octets w) 2
is_wide apart = false

-- every place is that of a kind byte
unfoldable pub run_before : Head → List Node → Calls → Answer Meaning
run_before h ns done = given (means h ns)
run_before h ns (bad_kind n p) = refused 2 p
run_before h ns (cut_off p k) = refused (pick (is_wide (part_in k)) 2 3) p
run_before h ns (called p k vs rest) =
    unless (pick (is_wide (part_in k)) 2 (fault_before h.table ns k vs)) p (run_before h (added k vs ns) rest)

-- the three tables of document 01
abbrev pub table_before : ℕ → Option Table
table_before c = find (λ t. eqb c (code t)) (pptt ∷ srat ∷ hmat ∷ [])

-- the head's place too
unfoldable pub headed_before : List ℕ → Answer Head
headed_before r =
    unless (first_of ((not (eqb (at r 0) 1), 1) ∷ (ltb (length r) 28, 3) ∷ [])) 0
    (and_then (or_refused 5 0 (table_before (at r 1))) (λ t. given (head_of t (part r 2 26))))

unfoldable pub meaning_before : List ℕ → Answer Meaning
meaning_before r = and_then (headed_before r) (λ h. run_before h [] (cut h.table 0 28 (drop 28 r)))

-- how the answer before and the answer now belong together: what is given is the same, and so is a refusal but for three;
-- 5 is at a place behind the kind byte, what was 6 may be 10, and what was 8 may be anything
pub data Moves {A : Type 0} : Answer A → Answer A → Type 0 where
  good : (a : A) → Moves (given a) (given a)
  same : (n p : ℕ) → (n ≡ 5 → ⊥) → Moves (refused n p) (refused n p)
  field : (p d : ℕ) → 0 < d → Moves (refused 5 p) (refused 5 (p + d))
  kind : (p : ℕ) → Moves (refused 6 p) (refused 10 p)
  long : (p : ℕ) (a : Answer A) → Moves (refused 8 p) a

-- none of the records is a RINTC's, of the kind that is retired or of the one that came for it
abbrev pub NoRintc : Calls → Type 0
NoRintc done = Unit
NoRintc (bad_kind n p) = n ≡ 2
NoRintc (cut_off p k) = k ≡ Rintc → ⊥
NoRintc (called p k vs rest) = (k ≡ Rintc → ⊥) × NoRintc rest

-- none of the records has counts or indices of two bytes
abbrev pub Narrow : Calls → Type 0
Narrow done = Unit
Narrow (bad_kind n p) = Unit
Narrow (cut_off p k) = is_wide (part_in k) ≡ false
Narrow (called p k vs rest) = (is_wide (part_in k) ≡ false) × Narrow rest

-- the head names no table that came later, in an SRAT's recipe there is no RINTC, and in an HMAT's no wide matrix
abbrev pub Older : List ℕ → Type 0
Older r = (at r 1 ≡ code cedt → ⊥) × (at r 1 ≡ code srat → NoRintc (cut srat 0 28 (drop 28 r))) × (at r 1 ≡ code hmat → Narrow (cut hmat 0 28 (drop 28 r)))

-- of every such recipe; what is built follows from what it means
abbrev pub Stays : List ℕ → Type 0
Stays r = Older r → Moves (meaning_before r) (meaning r)

-- every HMAT recipe that built builds the same: a wide matrix was no kind, so that none of these has one
abbrev pub BuildsSame : List ℕ → Type 0
BuildsSame r = at r 1 ≡ code hmat → (m : Meaning) → meaning_before r ≡ given m → meaning r ≡ given m
