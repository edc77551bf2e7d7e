-- A known record that a reader has found behind good nodes is the record of a good node: its form is read off its row, its length off its fixed items, and the rest are the laws of layouts and of references.
use mathlib.Core.Path.{◌≡◌, refl, sym, ap, ◌∙◌}
use Prim.Native.Nat.{ℕ, zero, suc, ◌^◌, ◌≤◌, ◌<◌}
use mathlib.Core.List.{List, [], ◌∷◌, ◌++◌}
use mathlib.Core.Bool.{Bool, true, false, not}
use mathlib.Core.Option.{some}
use native.Mathlib.Omega.{arith}
use native.Mathlib.Nat.{pow-le-pow_right, zero-lt-suc, lt_of_lt_of_le}
use lib.ListN.{length, take, drop, replicate, length-take}
use lib.Seq.{drop-drop}
use lib.Dec.{eqb, leb, ltb}
use borrow.Author.Tests.{eqb-true, leb-true, ltb-true, not-true, not-false}
use Rattle.format.specs.Bytes.{pick, all, Bytes, at, value, part}
use Rattle.format.specs.Layout.{Item, fix, wide, as_is, arities, is_fixed, width, fields_with, fields, fixed_ok, refs_good}
use Rattle.format.specs.Table.{Table, revision}
use Rattle.format.specs.Form.{Form, processor, cache, memory, acpi, pci, rintc, old_rintc, domain, matrix, side, bridge, window, xor, size, type_of, Width, byte, pair, most, up_to, narrowest, layout, registers, ways, ranges}
use Rattle.format.specs.Row.{Row, processors, caches, memories, initiators, old_rintcs, rintcs, domains, matrices, sides, bridges, windows, xors, home, row_type, counted, column, matches, row_of, form_in, is_retired}
use Rattle.format.specs.Node.{Node, bytes, node_at, Entry, at_place, at_ordinal, place_of, ordinal_of}
use Rattle.format.specs.Read.{size_in, sound, record_fault}
use Rattle.laws.specs.Rename.{rename}
use Rattle.laws.specs.Demand3.{row_for}
use Rattle.laws.proofs.Bytes.{value-lt, bytes_take, bytes_drop}
use Rattle.laws.proofs.Finds.{never, none_first}
use Rattle.laws.proofs.Lays.{both_true, Fit, fit_length, SaneItem, Sane, fields_fit, fields-rename, lay-rename, fit-rename}
use Rattle.laws.proofs.Nodes.{width-layout, bytes-node}
use Rattle.laws.proofs.Offsets.{fields-at}
use Rattle.laws.proofs.Links.{Rising, ordinal-below, back, place-zero, ordinal-zero, refs-kept}
use Rattle.laws.proofs.Shapes.{Within, table_for, type-for, ranges-rename, within-rename}
use Rattle.laws.proofs.Good.{GoodNode}
use Rattle.laws.proofs.Masks.{row-then, row-home}

-- ---- the row

-- a row that matches has the record's type, and its Length column passes
row-tests : (rev ty : ℕ) (bs : List ℕ) (r : Row) → matches rev ty bs r ≡ true → (ty ≡ row_type r) × (column r bs ≡ true)
unfolding matches
row-tests rev ty bs r e =
    let p = both_true (eqb ty (row_type r)) (column r bs) (both_true (eqb rev (revision (home r))) _ e).1 in
    (eqb-true ty (row_type r) p.0, p.1)

-- ---- its form

pub part-below : (bs : List ℕ) (p n : ℕ) → Bytes bs → value (part bs p n) < 256 ^ n
unfolding part
part-below bs p n h =
    let c = take n (drop p bs) in
    let l : length c ≤ n = simp length-take (omega arith) in
    lt_of_lt_of_le (value-lt c (bytes_take n (drop p bs) (bytes_drop p bs h))) (pow-le-pow_right (zero-lt-suc 255) l)

-- counts of a row are within their limits, and the width of their normal form is the row's
pub counted-row : (w : Width) (i t : ℕ) → counted w i t ≡ true → (narrowest i t ≡ w) × ((i ≤ most) × (t ≤ most))
counted-row byte i t e =
    let p = both_true (leb i 255) (leb t 255) e in
    (rw e, (omega (arith, leb-true i 255 p.0), omega (arith, leb-true t 255 p.1)))
counted-row pair i t e =
    let p = both_true (not (up_to 255 i t)) (up_to most i t) e in
    let q = both_true (leb i most) (leb t most) p.1 in
    (rw (not-true (up_to 255 i t) p.0), (leb-true i most q.0, leb-true t most q.1))

-- the form that is read in a record of a row is a form of that row, with its counts within their limits
module _ (bs : List ℕ) (h : Bytes bs) where
  abbrev Formed : Row → Form → Type 0
  Formed r f = all (ranges f (fields (layout f) bs)) ≡ true → (row_for f ≡ r) × Within f (fields (layout f) bs)

  -- a field of a layout, where it stands
  version-at : (n : ℕ) → at (fields (layout (bridge n)) bs) 1 ≡ value (part bs 8 4)
  unfolding layout
  version-at n = rw (fields-at as_is (layout (bridge n)) bs 0)

  code_at : (n : ℕ) → at (fields (layout (window n)) bs) 2 ≡ value (part bs 24 1)
  unfolding layout
  code_at n = rw (fields-at as_is (layout (window n)) bs 0)

  row-form : (r : Row) → column r bs ≡ true → is_retired (some r) ≡ false → Formed r (form_in r bs)
  unfolding form_in column ranges
  row-form processors e u x =
      let p = both_true (leb (length bs) 252) _ (both_true (leb 20 (length bs)) _ e).1 in
      (refl, omega (arith, leb-true (length bs) 252 p.0))
  row-form caches e u x = (refl, tt)
  row-form memories e u x = (refl, tt)
  row-form initiators e u x = split (eqb (at bs 3) 0)
    where
      split : (x : Bool) → (row_for (pick x acpi pci) ≡ initiators) × Within (pick x acpi pci) (fields (layout (pick x acpi pci)) bs)
      split true = (refl, tt)
      split false = (refl, tt)
  row-form old_rintcs e u x = never (sym u)
  row-form rintcs e u x = (refl, tt)
  row-form domains e u x = (refl, tt)
  row-form (matrices w) e u x =
      let i = value (part bs 12 4) in
      let t = value (part bs 16 4) in
      let p = counted-row w i t (both_true (leb 32 (length bs)) (counted w i t) e).1 in
      (ap matrices p.0, p.1)
  row-form sides e u x = (refl, omega (arith, part-below bs 30 2 h))
  row-form bridges e u x = let v = value (part bs 8 4) in (refl, (rw (version-at (registers v)) (part-below bs 8 4 h), rw (version-at (registers v))))
  row-form windows e u x =
      let c = value (part bs 24 1) in
      let vs = fields (layout (window (ways c))) bs in
      let p = both_true (ltb 0 (ways (at vs 2))) _ x in
      (refl, (rw (code_at (ways c)) (part-below bs 24 1 h), rw (code_at (ways c)), rw (← code_at (ways c)) (ltb-true 0 (ways (at vs 2)) p.0)))
  row-form xors e u x = (refl, omega (arith, part-below bs 7 1 h))

-- ---- its layout

sane-replicate : (n : ℕ) (i : Item) → SaneItem i → Sane (replicate n i)
sane-replicate zero i s = tt
sane-replicate (suc n) i s = (s, sane-replicate n i s)

sane-append : (is js : List Item) → Sane is → Sane js → Sane (is ++ js)
sane-append [] js s u = u
sane-append (i ∷ is) js s u = (s.0, sane-append is js s.1 u)

sane-layout : (f : Form) → Sane (layout f)
unfolding layout
sane-layout (processor n) = search (arith, sane-replicate)
sane-layout cache = search arith
sane-layout memory = search arith
sane-layout acpi = search arith
sane-layout pci = search arith
sane-layout old_rintc = search arith
sane-layout rintc = search arith
sane-layout domain = search arith
sane-layout (matrix i t) = search (arith, sane-replicate, sane-append)
sane-layout (side n) = search (arith, sane-replicate)
sane-layout (bridge n) = search (arith, sane-replicate)
sane-layout (window n) = search (arith, sane-replicate)
sane-layout (xor n) = search (arith, sane-replicate)

-- a fixed number behind other items is the one it has to be
fixed-at : (is : List Item) (w v : ℕ) (js : List Item) (bs : List ℕ) → fixed_ok (is ++ fix w v ∷ js) bs ≡ true → value (part bs (width is) w) ≡ v
unfolding fixed_ok width part
fixed-at [] w v js bs e = eqb-true (value (take w bs)) v (both_true (eqb (value (take w bs)) v) _ e).0
fixed-at (i ∷ is) w v js bs e =
    rw (← drop-drop (width is) (wide i) bs) (fixed-at is w v js (drop (wide i) bs) (both_true (is_fixed i (value (take (wide i) bs))) _ e).1)

size-found : (f : Form) (bs : List ℕ) → fixed_ok (layout f) bs ≡ true → size_in (table_for f) bs ≡ size f
unfolding layout width
size-found (processor n) bs e = fixed-at (fix 1 0 ∷ []) 1 (size (processor n)) _ bs e
size-found cache bs e = fixed-at (fix 1 1 ∷ []) 1 (size cache) _ bs e
size-found memory bs e = fixed-at (fix 1 1 ∷ []) 1 (size memory) _ bs e
size-found acpi bs e = fixed-at (fix 1 5 ∷ []) 1 (size acpi) _ bs e
size-found pci bs e = fixed-at (fix 1 5 ∷ []) 1 (size pci) _ bs e
size-found old_rintc bs e = fixed-at (fix 1 7 ∷ []) 1 (size old_rintc) _ bs e
size-found rintc bs e = fixed-at (fix 1 7 ∷ []) 1 (size rintc) _ bs e
size-found domain bs e = fixed-at (fix 2 0 ∷ fix 2 0 ∷ []) 4 (size domain) _ bs e
size-found (matrix i t) bs e = fixed-at (fix 2 1 ∷ fix 2 0 ∷ []) 4 (size (matrix i t)) _ bs e
size-found (side n) bs e = fixed-at (fix 2 2 ∷ fix 2 0 ∷ []) 4 (size (side n)) _ bs e
size-found (bridge n) bs e = fixed-at (fix 1 0 ∷ fix 1 0 ∷ []) 2 (size (bridge n)) _ bs e
size-found (window n) bs e = fixed-at (fix 1 1 ∷ fix 1 0 ∷ []) 2 (size (window n)) _ bs e
size-found (xor n) bs e = fixed-at (fix 1 2 ∷ fix 1 0 ∷ []) 2 (size (xor n)) _ bs e

-- ---- the record

-- a node whose record is bs, with type ty
pub record Found (t : Table) (es : List Entry) (n : Node) (bs : List ℕ) (ty : ℕ) : Type 0 where
  pub good : GoodNode t es n
  pub same : bytes (place_of es) n ≡ bs
  pub type : type_of n.form ≡ ty
  pub long : size n.form ≡ length bs

-- a record of a row that matches and is not retired, with no fault, behind records with the entries es
pub found : (t : Table) (b : ℕ) (es : List Entry) (bs : List ℕ) (rev ty : ℕ) (r : Row) → Rising b es → length es < 256 ^ 4 → Bytes bs
    → row_of t rev ty bs ≡ some r → is_retired (some r) ≡ false → size_in t bs ≡ length bs → record_fault (at_place es) (some r) bs ≡ 0
    → Found t es (node_at (ordinal_of es) (form_in r bs) bs) bs ty
unfolding record_fault sound node_at bytes
found t b es bs rev ty r rising few h e fresh n z =
    let f = form_in r bs in
    let is = layout f in
    let vs = fields is bs in
    let (a, (c, end)) = none_first ((not (sound f bs), 26) ∷ (not (refs_good (at_place es) is vs), 27) ∷ []) (search arith) z in
    let s = not-false (sound f bs) a in
    let good = not-false (refs_good (at_place es) is vs) c in
    let (fixed, ruled) = both_true (fixed_ok is bs) (all (ranges f vs)) s in
    let (type, col) = row-tests rev ty bs r (row-then rev ty bs t r e) in
    let (row, within) = row-form bs h r col fresh ruled in
    let own : table_for f ≡ t = ap home row ∙ row-home rev ty bs t r e in
    let long : size f ≡ length bs = sym (size-found f bs fixed) ∙ (rw (← own) at n) in
    let wide : width is ≡ size f = width-layout f in
    let fit : Fit is vs = fields_fit is bs (sane-layout f) h (omega arith) fixed in
    let many : length vs ≡ arities is = fit_length is vs fit in
    let ws = rename (ordinal_of es) is vs in
    let kept = refs-kept (ordinal_of es) (place_of es) (at_place es) (at_ordinal es) (ordinal-zero b es rising) (place-zero es) (back es) is vs many good in
    let fit' : Fit is ws = fit-rename (ordinal_of es) (λ v. omega (arith, ordinal-below es v)) is vs fit in
    let g : fields_with (ordinal_of es) is bs ≡ ws = fields-rename (ordinal_of es) is bs in
    record {
      good = record {
        own = own;
        within = rw g (within-rename (ordinal_of es) f vs many within);
        fit = rw g fit';
        ruled = rw (g, ranges-rename (ordinal_of es) f vs many, ruled);
        refs = rw g kept.0;
      };
      same = rw (g, lay-rename (place_of es) is ws (fit_length is ws fit'), kept.1) (bytes-node f bs h (sym long) s);
      type = type-for f ∙ (ap row_type row ∙ sym type);
      long = long;
    }
