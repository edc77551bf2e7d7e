-- `Kind::refers` meets its contract: the reference of each body stands at its place.
use mathlib.Core.Path.{◌≡◌, refl, sym, ap}
use mathlib.Core.List.{List}
use Prim.Native.Nat.{ℕ}
use Rattle.std.specs.Prelude.{Some, None}
use Rattle.format.specs.Bytes.{at}
use Rattle.recipe.specs.declared.Kind as code
use Rattle.recipe.specs.declared.Kind.TheVariants as is
use Rattle.recipe.specs.declared.Reference.TheVariants.{Processor, Cache}
use Rattle.recipe.specs.Kinds.{meant_kind, reference_of}
use Rattle.recipe.proofs.Kind.refers.Goals as goal

-- any other kind names nothing
other : (k : code.Kind) (bs : List ℕ) → (k ≡ is.Processor → ⊥) → (k ≡ is.Resource → ⊥) → (k ≡ is.Cache → ⊥) → reference_of (meant_kind k) bs ≡ None
other is.Processor bs p r c = absurd (p refl)
other is.Resource bs p r c = absurd (r refl)
other is.Cache bs p r c = absurd (c refl)
other is.Memory bs p r c = refl
other is.Acpi bs p r c = refl
other is.Pci bs p r c = refl
other is.Rintc bs p r c = refl
other is.Domain bs p r c = refl
other is.Matrix bs p r c = refl
other is.Initiator bs p r c = refl
other is.Target bs p r c = refl
other is.Cell bs p r c = refl
other is.Side bs p r c = refl
other is.Handle bs p r c = refl
other is.Bridge bs p r c = refl
other is.Window bs p r c = refl
other is.WindowTarget bs p r c = refl
other is.Xor bs p r c = refl
other is.Map bs p r c = refl
other is.WideMatrix bs p r c = refl
other is.WideInitiator bs p r c = refl
other is.WideTarget bs p r c = refl
other is.WideCell bs p r c = refl

pub returns-in-Processor : goal.returns-in-Processor
returns-in-Processor c = rw c.in-Processor.is (ap (λ v. Some (Processor (record { 0 = v }))) c.parent_in.ensures)

pub returns-in-Resource : goal.returns-in-Resource
returns-in-Resource c = rw c.in-Resource.is (ap (λ vs. Some (Cache (record { 0 = at vs 0 }))) c.from_body.ensures)

pub returns-in-Cache : goal.returns-in-Cache
returns-in-Cache c = rw c.in-Cache.is (ap (λ v. Some (Cache (record { 0 = v }))) c.next_level_in.ensures)

pub returns-in_default : goal.returns-in_default
returns-in_default c = sym (other c.args.self _ c.in_default.not-Processor c.in_default.not-Resource c.in_default.not-Cache)
