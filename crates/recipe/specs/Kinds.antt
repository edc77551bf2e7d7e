-- What the kinds of the code are in the words of the format, and what a record of each names.
use Rattle.std.specs.Prelude.{ℕ, List, [], ◌∷◌, ◌++◌, Bool, true, false, Option, Some, None, Result, Ok, Err, drop}
use Rattle.std.proofs.Math.Option as math
use Rattle.format.specs.Bytes.{at}
use Rattle.format.specs.Layout.{Item, fix, fld, two, to, or_none, arity, fields}
use Rattle.format.specs.Form.{byte, pair}
use Rattle.format.specs.Kind.{body}
use Rattle.format.specs.Kind as format
use Rattle.recipe.specs.declared.Reference.{Reference}
use Rattle.recipe.specs.declared.Reference.TheVariants as names
use Rattle.recipe.specs.declared.Kind.{Kind}
use Rattle.recipe.specs.declared.Kind.TheVariants.{Processor, Resource, Cache, Memory, Acpi, Pci, Rintc, Domain, Matrix, Initiator, Target, Cell, Side, Handle, Bridge, Window, WindowTarget, Xor, Map, WideMatrix, WideInitiator, WideTarget, WideCell}
use Rattle.recipe.specs.declared.Unnamed.{Unnamed}
use Rattle.recipe.specs.declared.Unnamed.TheVariants.{Retired, Nothing}

abbrev pub meant_kind : Kind → format.Kind
meant_kind Processor = format.Processor
meant_kind Resource = format.Resource
meant_kind Cache = format.Cache
meant_kind Memory = format.Memory
meant_kind Acpi = format.Acpi
meant_kind Pci = format.Pci
meant_kind Rintc = format.Rintc
meant_kind Domain = format.Domain
meant_kind Matrix = format.Matrix byte
meant_kind Initiator = format.Initiator byte
meant_kind Target = format.Target byte
meant_kind Cell = format.Cell byte
meant_kind Side = format.Side
meant_kind Handle = format.Handle
meant_kind Bridge = format.Bridge
meant_kind Window = format.Window
meant_kind WindowTarget = format.WindowTarget
meant_kind Xor = format.Xor
meant_kind Map = format.Map
meant_kind WideMatrix = format.Matrix pair
meant_kind WideInitiator = format.Initiator pair
meant_kind WideTarget = format.Target pair
meant_kind WideCell = format.Cell pair

abbrev pub named : Result Kind Unnamed → math.Option format.Kind
named (Ok k) = math.some (meant_kind k)
named (Err u) = math.none

-- the kind that comes, if any
abbrev pub coming : Option Kind → math.Option format.Kind
coming (Some k) = math.some (meant_kind k)
coming None = math.none

-- it named a kind once
abbrev pub is_retired : Result Kind Unnamed → Bool
is_retired (Ok k) = false
is_retired (Err Retired) = true
is_retired (Err Nothing) = false

-- what a record of a kind with the fields vs names: a processor its parent, a resource its cache, a cache its next level
abbrev pub naming : format.Kind → List ℕ → Option Reference
naming format.Processor vs = Some (names.Processor (record { 0 = at vs 1 }))
naming format.Resource vs = Some (names.Cache (record { 0 = at vs 0 }))
naming format.Cache vs = Some (names.Cache (record { 0 = at vs 1 }))
naming format.Memory vs = None
naming format.Acpi vs = None
naming format.Pci vs = None
naming format.Rintc vs = None
naming format.Domain vs = None
naming (format.Matrix w) vs = None
naming (format.Initiator w) vs = None
naming (format.Target w) vs = None
naming (format.Cell w) vs = None
naming format.Side vs = None
naming format.Handle vs = None
naming format.Bridge vs = None
naming format.Window vs = None
naming format.WindowTarget vs = None
naming format.Xor vs = None
naming format.Map vs = None

-- of a record whose body the bytes begin with
abbrev pub reference_of : format.Kind → List ℕ → Option Reference
reference_of k bs = naming k (fields (body k) bs)

-- a reference as the type of what it names and the ordinal, in a list of one, or none
abbrev pub listed : Option Reference → List (ℕ × ℕ)
listed (Some (names.Processor h)) = (0, h.0) ∷ []
listed (Some (names.Cache h)) = (1, h.0) ∷ []
listed None = []

-- the references that an item holds, of the fields vs
abbrev pub held_in : Item → List ℕ → List (ℕ × ℕ)
held_in (fix w v) vs = []
held_in (fld w) vs = []
held_in (two w k) vs = []
held_in (to t) vs = (t, at vs 0) ∷ []
held_in (or_none t) vs = (t, at vs 0) ∷ []

-- all references of a layout
abbrev pub references : List Item → List ℕ → List (ℕ × ℕ)
references [] vs = []
references (i ∷ is) vs = held_in i vs ++ references is (drop (arity i) vs)

-- the ordinal; 0 for none
abbrev pub ordinal_in : Option Reference → ℕ
ordinal_in (Some (names.Processor h)) = h.0
ordinal_in (Some (names.Cache h)) = h.0
ordinal_in None = 0
