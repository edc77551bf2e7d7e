-- The references of a record, row by row: a processor's parent and its list, a cache's next level, and none where the layout has none.
use mathlib.Core.Path.{◌≡◌, refl, sym, ◌∙◌}
use Prim.Native.Nat.{ℕ, suc, ◌+◌, ◌-◌, ◌*◌, ◌/◌, ◌≤◌, ◌<◌}
use mathlib.Core.List.{List, [], ◌∷◌}
use mathlib.Core.Bool.{Bool, true, false, not}
use mathlib.Core.Option.{Option, none, some}
use native.Mathlib.Omega.{arith}
use lib.ListN.{length, take, drop, replicate, length-drop}
use lib.Seq.{drop-drop}
use lib.Dec.{eqb}
use Rattle.format.specs.Bytes.{pick, both, first_of, at, value, part}
use Rattle.format.specs.Layout.{to, or_none, as_is, fields_with, fields, is_good, refs_good}
use Rattle.format.specs.Table.{Table, pptt}
use Rattle.format.specs.Form.{processor, cache, acpi, pci, layout, ways}
use Rattle.format.specs.Row.{Row, processors, caches, memories, initiators, old_rintcs, domains, matrices, sides, bridges, windows, xors, rintcs, home, row_of, form_in, known}
use Rattle.format.specs.Read.{sound, record_fault}
use Rattle.laws.proofs.Offsets.{fields-at}
use Rattle.laws.proofs.Shapes.{Plain, plain-fld, plain-matrix}
use Rattle.laws.proofs.Fits.{plain-good}
use Rattle.laws.proofs.Masks.{row-home, known-row}
use Rattle.laws.proofs.Tests.{both_right}
use Rattle.rows.specs.declared.Row as code
use Rattle.rows.specs.declared.Row.TheVariants.{Processors, Caches, Memories, Initiators, OldRintcs, Domains, Matrices, Sides, Bridges, Windows, Xors, Rintcs}
use Rattle.rows.specs.Rows.{meant_row, sound_as}
use Rattle.read.specs.Places.{RowOf, linked, refs_in}

-- ---- rows without references

abbrev pub Bare : Row → Type 0
Bare processors = ⊥
Bare caches = ⊥
Bare memories = Unit
Bare initiators = Unit
Bare old_rintcs = Unit
Bare domains = Unit
Bare (matrices w) = Unit
Bare sides = Unit
Bare bridges = Unit
Bare windows = Unit
Bare xors = Unit
Bare rintcs = Unit

plain-handle : (b : Bool) → Plain (layout (pick b acpi pci))
unfolding layout
plain-handle true = tt
plain-handle false = tt

pub plain_row : (r : Row) (bs : List ℕ) → Bare r → Plain (layout (form_in r bs))
unfolding layout form_in
plain_row processors bs b = absurd b
plain_row caches bs b = absurd b
plain_row memories bs b = tt
plain_row initiators bs b = plain-handle (eqb (at bs 3) 0)
plain_row old_rintcs bs b = tt
plain_row domains bs b = tt
plain_row (matrices w) bs b = plain-matrix (value (part bs 12 4)) (value (part bs 16 4))
plain_row sides bs b = plain-fld (value (part bs 30 2)) 2
plain_row bridges bs b = tt
plain_row windows bs b = plain-fld (ways (value (part bs 24 1))) 4
plain_row xors bs b = plain-fld (value (part bs 7 1)) 8
plain_row rintcs bs b = tt

-- a row of another table than a PPTT
bare-row : (r : Row) → (home r ≡ pptt → ⊥) → Bare r
bare-row processors z = absurd (z refl)
bare-row caches z = absurd (z refl)
bare-row memories z = tt
bare-row initiators z = tt
bare-row old_rintcs z = tt
bare-row domains z = tt
bare-row (matrices w) z = tt
bare-row sides z = tt
bare-row bridges z = tt
bare-row windows z = tt
bare-row xors z = tt
bare-row rintcs z = tt

-- a row of the code that is neither
pub other-row : (r : code.Row) → (r ≡ Processors → ⊥) → (r ≡ Caches → ⊥) → Bare (meant_row r)
other-row Processors p q = absurd (p refl)
other-row Caches p q = absurd (q refl)
other-row Memories p q = tt
other-row Initiators p q = tt
other-row OldRintcs p q = tt
other-row Domains p q = tt
other-row (Matrices w) p q = tt
other-row Sides p q = tt
other-row Bridges p q = tt
other-row Windows p q = tt
other-row Xors p q = tt
other-row Rintcs p q = tt

-- a row that is known of a record is of its table
pub known_of : (t : Table) (rev ty mask : ℕ) (bs : List ℕ) (m o : Option Row) → m ≡ row_of t rev ty bs → o ≡ known mask m → RowOf t o
known_of t rev ty mask bs m o i k r e = row-home rev ty bs t r (sym i ∙ (known-row mask m r (sym k ∙ e)).0)

module _ (ok : ℕ → ℕ → Bool) where
  pub bare-refs : (r : Row) (bs : List ℕ) → Bare r → true ≡ refs_in ok (some r) bs
  unfolding refs_in
  bare-refs r bs b = sym (plain-good ok (layout (form_in r bs)) (fields (layout (form_in r bs)) bs) (plain_row r bs b))

  pub none-refs : (bs : List ℕ) → true ≡ refs_in ok none bs
  unfolding refs_in
  none-refs bs = refl

  pub other-refs : (t : Table) (o : Option Row) (bs : List ℕ) → (t ≡ pptt → ⊥) → RowOf t o → true ≡ refs_in ok o bs
  other-refs t none bs z h = none-refs bs
  other-refs t (some r) bs z h = bare-refs r bs (bare-row r (λ e. z (sym (h r refl) ∙ e)))

  -- ---- the others

  pub cache-refs : (bs : List ℕ) → is_good ok (or_none 1) (at (fields (layout cache) bs) 1) ≡ refs_in ok (some caches) bs
  unfolding refs_in form_in layout refs_good fields_with
  cache-refs bs = sym (both_right (is_good ok (or_none 1) (at (fields (layout cache) bs) 1)))

  processor-by : (bs : List ℕ) (n : ℕ)
      → refs_good ok (layout (processor n)) (fields (layout (processor n)) bs) ≡ both (is_good ok (or_none 0) (at (fields (layout (processor 0)) bs) 1)) (linked ok n (drop 20 bs))
  unfolding layout refs_good linked
  processor-by bs n = rw (fields-at as_is (layout (processor n)) bs 0, fields-at as_is (layout (processor 0)) bs 0, ← fields-at as_is (replicate n (to 1)) bs 20)

  pub processor-refs : (bs : List ℕ) → refs_in ok (some processors) bs ≡ both (is_good ok (or_none 0) (at (fields (layout (processor 0)) bs) 1)) (linked ok (length (drop 20 bs) / 4) (drop 20 bs))
  unfolding refs_in form_in
  processor-refs bs = rw length-drop (processor-by bs ((length bs - 20) / 4))

  -- ---- a list of references

  linked-next : (n : ℕ) (bs : List ℕ) → linked ok (suc n) bs ≡ both (ok (value (take 4 bs)) 1) (linked ok n (drop 4 bs))
  unfolding linked fields_with refs_good
  linked-next n bs = refl

  -- a turn of the loop over it, and the end
  pub linked-turn : (n i : ℕ) (bs : List ℕ) → i < n
      → linked ok (n - i) (drop (4 * i) bs) ≡ both (ok (value (part bs (4 * i) 4)) 1) (linked ok (n - (i + 1)) (drop (4 * (i + 1)) bs))
  unfolding part
  linked-turn n i bs l =
      let e : n - i ≡ suc (n - (i + 1)) = omega arith in
      let m : 4 * (i + 1) ≡ 4 * i + 4 = omega arith in
      rw (e, linked-next, m, drop-drop)

  pub linked-end : (n i : ℕ) (bs : List ℕ) → n ≤ i → linked ok (n - i) bs ≡ true
  unfolding linked fields_with refs_good
  linked-end n i bs l = let e : n - i ≡ 0 = omega arith in rw e

  -- ---- what is wrong with a record: first itself, then its references

  tests : (a b : Bool) → first_of ((not a, 26) ∷ (not b, 27) ∷ []) ≡ pick a (pick b 0 27) 26
  tests true true = refl
  tests true false = refl
  tests false b = refl

  pub fault-is : (o : Option Row) (bs : List ℕ) → record_fault ok o bs ≡ pick (sound_as o bs) (pick (refs_in ok o bs) 0 27) 26
  unfolding record_fault refs_in
  fault-is none bs = refl
  fault-is (some r) bs = let f = form_in r bs in tests (sound f bs) (refs_good ok (layout f) (fields (layout f) bs))
