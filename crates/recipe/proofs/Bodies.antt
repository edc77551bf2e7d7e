-- What `Kind::refers` answers is every reference that the format's body of the kind holds: kind by kind, by computation.
use mathlib.Core.Path.{◌≡◌, refl, ap, ◌∙◌}
use Prim.Native.Nat.{ℕ}
use mathlib.Core.List.{List}
use Rattle.format.specs.Layout.{fields, fields_with}
use Rattle.format.specs.Kind.{Kind, Processor, Resource, Cache, Memory, Acpi, Pci, Rintc, Domain, Matrix, Initiator, Target, Cell, Side, Handle, Bridge, Window, WindowTarget, Xor, Map, body}
use Rattle.recipe.specs.Kinds.{meant_kind, reference_of, listed, references}
use Rattle.recipe.proofs.Kind.refers.Reads as refers

kind-refers : (k : Kind) (bs : List ℕ) → listed (reference_of k bs) ≡ references (body k) (fields (body k) bs)
unfolding body fields_with
kind-refers Processor bs = refl
kind-refers Resource bs = refl
kind-refers Cache bs = refl
kind-refers Memory bs = refl
kind-refers Acpi bs = refl
kind-refers Pci bs = refl
kind-refers Rintc bs = refl
kind-refers Domain bs = refl
kind-refers (Matrix w) bs = refl
kind-refers (Initiator w) bs = refl
kind-refers (Target w) bs = refl
kind-refers (Cell w) bs = refl
kind-refers Side bs = refl
kind-refers Handle bs = refl
kind-refers Bridge bs = refl
kind-refers Window bs = refl
kind-refers WindowTarget bs = refl
kind-refers Xor bs = refl
kind-refers Map bs = refl

-- `Kind::refers`, by its contract
pub refers-body : (k : _) (a : _) (x : _) (p : _) → refers.Learnt k a x p
    → listed x ≡ references (body (meant_kind a.0)) (fields (body (meant_kind a.0)) a.1.0.now)
refers-body k a x p c = ap listed c ∙ kind-refers (meant_kind a.0) a.1.0.now
