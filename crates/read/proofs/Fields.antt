-- A record's fields as a reading call shows them are those of its node, of which a list inside it is left out.
use mathlib.Core.Path.{◌≡◌, refl, ap, ◌∙◌}
use Prim.Native.Nat.{ℕ, ◌-◌, ◌/◌}
use mathlib.Core.List.{List, [], ◌∷◌, ◌++◌}
use mathlib.Core.Bool.{true}
use mathlib.Core.Option.{some}
use lib.ListN.{length}
use lib.Dec.{eqb, leb}
use borrow.Author.Tests.{leb-true}
use Rattle.format.specs.Bytes.{value, part}
use Rattle.format.specs.Layout.{as_is, fields_with}
use Rattle.format.specs.Form.{matrix, Width, narrowest, layout}
use Rattle.format.specs.Table.{Table, revision}
use Rattle.format.specs.Row.{Row, processors, matrices, home, row_type, column, matches, row_of, known, form_in}
use Rattle.format.specs.Node.{Node, node_at}
use Rattle.format.specs.Read.{shown, fields_of}
use Rattle.laws.specs.Offsets.{trimmed}
use Rattle.laws.proofs.Lays.{both_true}
use Rattle.laws.proofs.Found.{counted-row}
use Rattle.laws.proofs.Masks.{row-then, known-row}
use Rattle.pptt.specs.Processor.{processor_in}
use Rattle.srat.specs.declared.Handle.{Handle}
use Rattle.srat.specs.declared.Handle.TheVariants.{Acpi, Pci}
use Rattle.srat.specs.Srat.{handle_form, handle_type, handle_values}
use Rattle.hmat.specs.declared.SystemLocality.{SystemLocality}
use Rattle.hmat.specs.Hmat.{matrix_head}
use Rattle.read.specs.Places.{Fits}

-- what is shown of a node
abbrev pub showing : Node → List ℕ
showing n = shown n.form n.values

-- a record's fields are those that are shown of its node
pub node-shown : (r : Row) (bs : List ℕ) → showing (node_at as_is (form_in r bs) bs) ≡ fields_of (some r) bs
unfolding node_at fields_of
node-shown r bs = refl

pub fields-shown : (r : Row) (bs : List ℕ) (n : Node) → n ≡ node_at as_is (form_in r bs) bs → showing n ≡ fields_of (some r) bs
fields-shown r bs n e = ap showing e ∙ node-shown r bs

-- an initiator's handle type is shown in front of its fields
pub handle-shown : (h : Handle) (d f : ℕ) → handle_type h ∷ d ∷ (handle_values h ++ (f ∷ [])) ≡ shown (handle_form h) (d ∷ (handle_values h ++ (f ∷ [])))
unfolding shown
handle-shown (Acpi h u) d f = refl
handle-shown (Pci s b v k) d f = refl

-- a record of a known row has the length and the counts that the row asks for
module _ (t : Table) (rev mask ty : ℕ) (bs : List ℕ) where
  column-of : (r : Row) → known mask (row_of t rev ty bs) ≡ some r → column r bs ≡ true
  unfolding matches
  column-of r e =
      let m = row-then rev ty bs t r (known-row mask (row_of t rev ty bs) r e).0 in
      (both_true (eqb ty (row_type r)) _ (both_true (eqb rev (revision (home r))) _ m).1).1

  pub known-fits : Fits (known mask (row_of t rev ty bs)) bs
  unfolding column
  known-fits =
      record {
        short = λ e. leb-true (length bs) 252 (both_true (leb (length bs) 252) _ (both_true (leb 20 (length bs)) _ (column-of processors e)).1).0;
        counts = λ w e. (counted-row w _ _ (both_true (leb 32 (length bs)) _ (column-of (matrices w) e)).1).0;
      }

-- the row of a matrix by the counts that are read is the row of its record
pub matrix-row : {w : Width} (bs : List ℕ) (m : SystemLocality) → matrix_head m ≡ trimmed 4 (node_at as_is (form_in (matrices w) bs) bs)
    → narrowest (value (part bs 12 4)) (value (part bs 16 4)) ≡ w → matrices (narrowest m.initiators m.targets) ≡ matrices w
unfolding form_in node_at
matrix-row bs m e k =
    let f : matrix m.initiators m.targets ≡ matrix (value (part bs 12 4)) (value (part bs 16 4)) = ap (λ (n : Node). n.form) e in
    let i : m.initiators ≡ value (part bs 12 4) = cc in
    let t : m.targets ≡ value (part bs 16 4) = cc in
    rw (i, t, k)

-- k: how many resources the record says, m: how many it has room for
pub processor-shown : (bs : List ℕ) (f p i k m : ℕ) → f ∷ p ∷ i ∷ k ∷ [] ≡ processor_in bs → m ≡ (length bs - 20) / 4
    → f ∷ p ∷ i ∷ m ∷ [] ≡ fields_of (some processors) bs
unfolding processor_in fields_of shown form_in layout fields_with
processor-shown bs f p i k m e z = cc
