-- The fields of a recipe's record: the kind that makes a node, and the first field that is outside its range.
use Rattle.std.specs.Prelude.{ℕ, ◌+◌, List, [], ◌∷◌, Bool}
use Rattle.std.proofs.Math.Option.{Option, none, some}
use Rattle.format.specs.Bytes.{pick}
use Rattle.format.specs.Layout.{Item, wide}
use Rattle.format.specs.Form.{Form, processor, cache, memory, acpi, pci, rintc, old_rintc, domain, matrix, side, bridge, window, xor, narrowest, ranges}
use Rattle.format.specs.Node.{Node}
use Rattle.format.specs.Kind.{Kind, Processor, Cache, Memory, Acpi, Pci, Rintc, Domain, Matrix, Side, Bridge, Window, Xor, body}

-- the kind that makes a node of this form; none a retired one
abbrev pub maker : Form → Option Kind
maker (processor n) = some Processor
maker cache = some Cache
maker memory = some Memory
maker acpi = some Acpi
maker pci = some Pci
maker rintc = some Rintc
maker old_rintc = none
maker domain = some Domain
maker (matrix i t) = some (Matrix (narrowest i t))
maker (side n) = some Side
maker (bridge n) = some Bridge
maker (window n) = some Window
maker (xor n) = some Xor

-- the body of the record of a kind, if there is one
abbrev pub body_of : Option Kind → List Item
body_of none = []
body_of (some k) = body k

-- the place of the first field whose test fails; 0 where none does; p: the place of the first
unfoldable pub first_bad : ℕ → List Item → List Bool → ℕ
first_bad p is [] = 0
first_bad p [] (t ∷ ts) = pick t (first_bad p [] ts) p
first_bad p (i ∷ is) (t ∷ ts) = pick t (first_bad (p + wide i) is ts) p

-- the place of the first field of a body whose test fails, counted from the kind byte; 0 where none does
abbrev pub bad_in : Kind → List Bool → ℕ
bad_in k ts = first_bad 1 (body k) ts

-- of a node: the first field outside its range
unfoldable pub bad_field : Node → ℕ
bad_field n = first_bad 1 (body_of (maker n.form)) (ranges n.form n.values)
