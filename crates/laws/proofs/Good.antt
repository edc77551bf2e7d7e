-- Good nodes, those that a recipe can mean: a reader goes over their records one by one and finds these nodes again.
use mathlib.Core.Path.{◌≡◌, refl, ◌∙◌}
use Prim.Native.Nat.{ℕ, zero, suc, ◌+◌, ◌-◌, ◌≤◌, ◌<◌}
use mathlib.Core.List.{List, [], ◌∷◌, ◌++◌, append_assoc, append-nil}
use mathlib.Core.Bool.{true, false}
use mathlib.Core.Option.{none, some}
use native.Mathlib.Omega.{arith}
use native.Mathlib.Nat.{add-zero}
use lib.ListN.{length, take, drop, length-append}
use lib.Seq.{take_at, drop_at, drop-drop}
use borrow.Author.Tests.{le-leb}
use Rattle.format.specs.Bytes.{pick, all, find, Answer, given}
use Rattle.format.specs.Layout.{arities, lay, fields, fixed_ok, refs_good}
use Rattle.format.specs.Table.{Table, revision, front, limit, least}
use Rattle.format.specs.Form.{Form, processor, cache, memory, acpi, pci, rintc, old_rintc, domain, matrix, side, bridge, window, xor, size, type_of, Width, byte, pair, narrowest, layout, ranges}
use Rattle.format.specs.Row.{Row, processors, caches, memories, initiators, old_rintcs, rintcs, domains, matrices, sides, bridges, windows, xors, form_in, is_retired, knows, known, row_of}
use Rattle.format.specs.Node.{Node, bytes, node_at, Entry, entry, sizes, starts, at_place, at_ordinal, place_of, ordinal_of}
use Rattle.format.specs.Build.{records}
use Rattle.format.specs.Read.{size_in, type_in, framed, Frames, bad_frame, framed_at, frames, sound, record_fault, Seen, entry_of, push, walk, shown, fields_of}
use Rattle.format.specs.Out.{every, nodes_from, old}
use Rattle.laws.specs.Rename.{rename}
use Rattle.laws.specs.Demand3.{row_for}
use Rattle.laws.proofs.Lays.{Fit, fit_length, fields-lay, fixed-lay, lay-rename, fields-rename, fit-rename}
use Rattle.laws.proofs.Nodes.{length-record}
use Rattle.laws.proofs.Links.{Rising, place-below, there, place-zero, ordinal-zero, starts-rise, refs-kept, size-pos}
use Rattle.laws.proofs.Masks.{row-when}
use Rattle.laws.proofs.Shapes.{Within, table_for, least_size, type-in, size_in_lem, row_in, form_in_lem, ranges-rename}

-- ---- what holds of a node, behind records with the entries es

pub record GoodNode (t : Table) (es : List Entry) (n : Node) : Type 0 where
  pub own : table_for n.form ≡ t
  pub within : Within n.form n.values
  pub fit : Fit (layout n.form) n.values
  pub ruled : all (ranges n.form n.values) ≡ true
  pub refs : refs_good (at_ordinal es) (layout n.form) n.values ≡ true

abbrev pub Good : Table → List Node → Type 0
Good t [] = Unit
Good t (n ∷ ns) = GoodNode t (starts t ns) n × Good t ns

-- ---- frames, one after the other

pub frames-skip : (t : Table) (k p : ℕ) (bs : List ℕ) → frames t k p bs ≡ frames t 0 (p + k) (drop k bs)
unfolding frames
frames-skip t zero p bs = rw add-zero
frames-skip t (suc k) p [] = refl
frames-skip t (suc k) p (b ∷ bs) =
    let e : suc p + k ≡ p + suc k = omega arith in
    frames-skip t k (suc p) bs ∙ rw e

-- the first record, and what follows it
pub frames-first : (t : Table) (p : ℕ) (bs : List ℕ) → 0 < length bs → 0 < size_in t bs
    → frames t 0 p bs ≡ pick (framed t bs) (framed_at p (take (size_in t bs) bs) (frames t 0 (p + size_in t bs) (drop (size_in t bs) bs))) (bad_frame p)
unfolding frames
frames-first t p [] l s = absurd (omega arith)
frames-first t p (b ∷ bs) l s =
    let n = size_in t (b ∷ bs) in
    let e : suc p + (n - 1) ≡ p + n = omega arith in
    let m : 1 + (n - 1) ≡ n = omega arith in
    let d : drop (n - 1) bs ≡ drop n (b ∷ bs) = drop-drop (n - 1) 1 (b ∷ bs) ∙ rw m in
    rw (frames-skip t (n - 1) (suc p) bs, e, d)

framed-when : (t : Table) (bs : List ℕ) → least t ≤ length bs → least t ≤ size_in t bs → size_in t bs ≤ length bs → framed t bs ≡ true
unfolding framed
framed-when t bs a b c = rw (le-leb _ _ a, le-leb _ _ b, le-leb _ _ c)

-- a record of n bytes, and what follows it
frames-step : (t : Table) (p n : ℕ) (rec rest : List ℕ) → length rec ≡ n → size_in t (rec ++ rest) ≡ n → least t ≤ n → 0 < n
    → frames t 0 p (rec ++ rest) ≡ framed_at p rec (frames t 0 (p + n) rest)
frames-step t p n rec rest l s m z =
    let k : length (rec ++ rest) ≡ n + length rest = rw (length-append, l) in
    let f : framed t (rec ++ rest) ≡ true = framed-when t (rec ++ rest) (omega arith) (rw s m) (rw s (omega arith)) in
    frames-first t p (rec ++ rest) (omega arith) (rw s z) ∙ rw (f, s, take_at rec rest n l, drop_at rec rest n l)

pub knows-every : (r : Row) → knows every r ≡ true
knows-every processors = refl
knows-every caches = refl
knows-every memories = refl
knows-every initiators = refl
knows-every old_rintcs = refl
knows-every rintcs = refl
knows-every domains = refl
knows-every (matrices byte) = refl
knows-every (matrices pair) = refl
knows-every sides = refl
knows-every bridges = refl
knows-every windows = refl
knows-every xors = refl

-- a form that is built is of no retired row
pub row_fresh : (f : Form) (vs : List ℕ) → Within f vs → is_retired (some (row_for f)) ≡ false
row_fresh (processor n) vs w = refl
row_fresh cache vs w = refl
row_fresh memory vs w = refl
row_fresh acpi vs w = refl
row_fresh pci vs w = refl
row_fresh old_rintc vs w = absurd w
row_fresh rintc vs w = refl
row_fresh domain vs w = refl
row_fresh (matrix i t) vs w = by (narrowest i t)
  where
    by : (w : Width) → is_retired (some (matrices w)) ≡ false
    by byte = refl
    by pair = refl
row_fresh (side n) vs w = refl
row_fresh (bridge n) vs w = refl
row_fresh (window n) vs w = refl
row_fresh (xor n) vs w = refl

-- ---- one record of a good node

-- the fields, with references as places
abbrev pub placed : List Entry → Node → List ℕ
placed es n = rename (place_of es) (layout n.form) n.values

-- what a reader of every row sees of a node's record at p
abbrev pub seen_of : ℕ → List Entry → Node → Seen
seen_of p es n = record { place = p; type = type_of n.form; row = some (row_for n.form); body = bytes (place_of es) n }

module _ (b : ℕ) (es : List Entry) (rising : Rising b es) (small : b ≤ limit) (t : Table) (n : Node) (good : GoodNode t es n) where
  placed-fit : Fit (layout n.form) (placed es n)
  placed-fit = fit-rename (place_of es) (λ v. omega (arith, place-below b es v rising)) (layout n.form) n.values good.fit

  many : length n.values ≡ arities (layout n.form)
  many = fit_length (layout n.form) n.values good.fit

  kept : (refs_good (at_place es) (layout n.form) (placed es n) ≡ true) × (rename (ordinal_of es) (layout n.form) (placed es n) ≡ n.values)
  kept = refs-kept (place_of es) (ordinal_of es) (at_ordinal es) (at_place es) (place-zero es) (ordinal-zero b es rising) (there b es rising) (layout n.form) n.values many good.refs

  bytes-placed : bytes (place_of es) n ≡ lay (layout n.form) (placed es n)
  unfolding bytes
  bytes-placed = lay-rename (place_of es) (layout n.form) n.values many

  pub fields-rec : fields (layout n.form) (bytes (place_of es) n) ≡ placed es n
  fields-rec = rw bytes-placed (rw append-nil at (fields-lay (layout n.form) (placed es n) [] placed-fit))

  fixed-rec : fixed_ok (layout n.form) (bytes (place_of es) n) ≡ true
  fixed-rec = rw bytes-placed (rw append-nil at (fixed-lay (layout n.form) (placed es n) [] placed-fit))

  sound-rec : sound n.form (bytes (place_of es) n) ≡ true
  unfolding sound
  sound-rec = rw (fixed-rec, fields-rec, ranges-rename (place_of es) n.form n.values many, good.ruled)

  pub form-rec : form_in (row_for n.form) (bytes (place_of es) n) ≡ n.form
  unfolding bytes
  form-rec = form_in_lem (place_of es) n.form n.values good.within

  fault-rec : record_fault (at_place es) (some (row_for n.form)) (bytes (place_of es) n) ≡ 0
  unfolding record_fault
  fault-rec = rw (form-rec, sound-rec, fields-rec, kept.0)

  type-rec : type_in t (bytes (place_of es) n) ≡ type_of n.form
  unfolding bytes
  type-rec = rw (← good.own) (rw append-nil at (type-in (place_of es) n.form n.values []))

  row-rec : known every (row_of t (revision t) (type_of n.form) (bytes (place_of es) n)) ≡ some (row_for n.form)
  unfolding bytes
  row-rec = rw (← good.own, row-when (revision (table_for n.form)) (type_of n.form) (bytes (place_of es) n) (row_for n.form) (row_in (place_of es) n.form n.values good.within), knows-every (row_for n.form))

  frames-rec : (p : ℕ) (rest : List ℕ) → frames t 0 p (bytes (place_of es) n ++ rest) ≡ framed_at p (bytes (place_of es) n) (frames t 0 (p + size n.form) rest)
  unfolding bytes
  frames-rec p rest =
      let s : size_in t (bytes (place_of es) n ++ rest) ≡ size n.form = rw (← good.own) (size_in_lem (place_of es) n.form n.values rest good.within) in
      frames-step t p (size n.form) (bytes (place_of es) n) rest (length-record (place_of es) n.form n.values) s (rw (← good.own) (least_size n.form)) (size-pos n.form)

  walk-rec : (p : ℕ) (rest : Frames) → walk t (revision t) every es (framed_at p (bytes (place_of es) n) rest) ≡ push (seen_of p es n) (walk t (revision t) every (entry_of (seen_of p es n) ∷ es) rest)
  unfolding walk
  walk-rec p rest = rw (type-rec, row-rec, fault-rec)

  node-rec : node_at (ordinal_of es) n.form (bytes (place_of es) n) ≡ n
  unfolding node_at
  node-rec = rw (fields-rename (ordinal_of es) (layout n.form) (bytes (place_of es) n), fields-rec, kept.1)

  -- a reader answers the node's fields, references as places
  pub fields-seen : fields_of (some (row_for n.form)) (bytes (place_of es) n) ≡ shown n.form (placed es n)
  unfolding fields_of
  fields-seen = rw (form-rec, fields-rec)

-- ---- all of them

-- what is seen of the nodes, the oldest first, in front of what is seen behind them
abbrev pub seen_all : Table → List Node → List Seen → List Seen
seen_all t [] ss = ss
seen_all t (n ∷ ns) ss = seen_all t ns (seen_of (front t + sizes ns) (starts t ns) n ∷ ss)

abbrev push_all : Table → List Node → Answer (List Seen) → Answer (List Seen)
push_all t [] w = w
push_all t (n ∷ ns) w = push_all t ns (push (seen_of (front t + sizes ns) (starts t ns) n) w)

push-all : (t : Table) (ns : List Node) (ss : List Seen) → push_all t ns (given ss) ≡ given (seen_all t ns ss)
push-all t [] ss = refl
push-all t (n ∷ ns) ss = push-all t ns (seen_of (front t + sizes ns) (starts t ns) n ∷ ss)

entry_seen : (p : ℕ) (es : List Entry) (n : Node) → entry_of (seen_of p es n) ≡ entry p (type_of n.form) (size n.form)
unfolding bytes
entry_seen p es n = rw (length-record (place_of es) n.form n.values)

walk-all : (t : Table) (ns : List Node) (rest : List ℕ) → Good t ns → front t + sizes ns ≤ limit
    → walk t (revision t) every [] (frames t 0 (front t) (records t ns ++ rest))
    ≡ push_all t ns (walk t (revision t) every (starts t ns) (frames t 0 (front t + sizes ns) rest))
unfolding records sizes starts
walk-all t [] rest g l = rw add-zero
walk-all t (n ∷ ns) rest g l =
    let p = front t + sizes ns in
    let es = starts t ns in
    let s : p ≤ limit = omega arith in
    let r = starts-rise t ns in
    let e : p + size n.form ≡ front t + (sizes ns + size n.form) = omega arith in
    rw (
      append_assoc,
      walk-all t ns (bytes (place_of es) n ++ rest) g.1 s,
      frames-rec p es r s t n g.0 p rest,
      walk-rec p es r s t n g.0 p (frames t 0 (p + size n.form) rest),
      entry_seen p es n,
      e,
    )

pub nodes-all : (t : Table) (ns : List Node) (ss : List Seen) → Good t ns → front t + sizes ns ≤ limit
    → nodes_from [] [] (seen_all t ns ss) ≡ nodes_from (starts t ns) ns ss
unfolding nodes_from starts sizes
nodes-all t [] ss g l = refl
nodes-all t (n ∷ ns) ss g l =
    let p = front t + sizes ns in
    let es = starts t ns in
    let s : p ≤ limit = omega arith in
    let r = starts-rise t ns in
    nodes-all t ns (seen_of p es n ∷ ss) g.1 s
    ∙ rw (form-rec p es r s t n g.0, node-rec p es r s t n g.0, entry_seen p es n)

-- the records of good nodes are read as these nodes
pub walk-good : (t : Table) (ns : List Node) → Good t ns → front t + sizes ns ≤ limit
    → walk t (revision t) every [] (frames t 0 (front t) (records t ns)) ≡ given (seen_all t ns [])
unfolding frames walk
walk-good t ns g l = (rw append-nil at (walk-all t ns [] g l)) ∙ push-all t ns []

-- no good node's record is retired
fresh-all : (t : Table) (ns : List Node) (ss : List Seen) → Good t ns → find (λ s. is_retired s.row) (seen_all t ns ss) ≡ find (λ s. is_retired s.row) ss
fresh-all t [] ss g = refl
fresh-all t (n ∷ ns) ss g = fresh-all t ns (seen_of (front t + sizes ns) (starts t ns) n ∷ ss) g.1 ∙ rw (row_fresh n.form n.values g.0.within)

pub none_old : (t : Table) (ns : List Node) → Good t ns → old (seen_all t ns []) ≡ none
unfolding old
none_old t ns g = fresh-all t ns [] g
