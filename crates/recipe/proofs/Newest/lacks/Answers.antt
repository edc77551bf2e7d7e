-- `Newest::lacks` meets its contract: only a window lacks entries, and only a target is one of them.
use mathlib.Core.Path.{◌≡◌, refl, sym, ap, ◌∙◌}
use Prim.Native.Nat.{ℕ}
use mathlib.Core.Bool.{Bool, false, not}
use mathlib.Core.Option as math
use borrow.Author.Tests.{lt-ltb, le-ltb}
use denote.Enum.Bare.{sameb}
use Rattle.std.specs.Prelude.{Option, Some, None}
use Rattle.std.specs.Option.{option_eq}
use Rattle.format.specs.Kind.{is_kind}
use Rattle.format.specs.Kind as format
use Rattle.recipe.specs.contracts.Kind.{the_type}
use Rattle.recipe.specs.declared.Kind.{Kind}
use Rattle.recipe.specs.declared.Kind.TheVariants.{Processor, Resource, Cache, Memory, Acpi, Pci, Rintc, Domain, Matrix, Initiator, Target, Cell, Side, Handle, Bridge, Window, WindowTarget, Xor, Map, WideMatrix, WideInitiator, WideTarget, WideCell}
use Rattle.recipe.specs.declared.Newest as kept
use Rattle.recipe.specs.declared.Newest.TheVariants as is
use Rattle.recipe.specs.Kinds.{meant_kind, coming}
use Rattle.recipe.specs.Machine.{lacks}
use Rattle.recipe.proofs.Newest.lacks.Goals as goal

-- any other node lacks nothing
other-node : (n : kept.Newest) (o : math.Option format.Kind) → ((k m : ℕ) → n ≡ is.Window k m → ⊥) → lacks n o ≡ false
other-node (is.Processor n) o h = refl
other-node (is.Matrix w i t) o h = refl
other-node (is.Side n) o h = refl
other-node (is.Window needs n) o h = absurd (h needs n refl)
other-node (is.Xor n) o h = refl
other-node is.Other o h = refl

-- a kind is a target's
target : (k : Kind) → sameb the_type k WindowTarget ≡ is_kind format.WindowTarget (math.some (meant_kind k))
target Processor = refl
target Resource = refl
target Cache = refl
target Memory = refl
target Acpi = refl
target Pci = refl
target Rintc = refl
target Domain = refl
target Matrix = refl
target Initiator = refl
target Target = refl
target Cell = refl
target Side = refl
target Handle = refl
target Bridge = refl
target Window = refl
target WindowTarget = refl
target Xor = refl
target Map = refl
target WideMatrix = refl
target WideInitiator = refl
target WideTarget = refl
target WideCell = refl

comes : (eq : Kind → Kind → Bool) → ((k : Kind) → eq k WindowTarget ≡ is_kind format.WindowTarget (math.some (meant_kind k))) → (o : Option Kind)
    → not (option_eq eq o (Some WindowTarget)) ≡ not (is_kind format.WindowTarget (coming o))
comes eq h (Some k) = ap not (h k)
comes eq h None = refl

pub returns-in_default : goal.returns-in_default
returns-in_default c = sym (other-node c.args.self (coming c.args.next) c.in_default.not-Window)

pub returns-then-needs-has : goal.returns-then-needs-has
returns-then-needs-has c = rw (c.in-Window.is, le-ltb _ _ c.if-needs-has.true)

pub returns : goal.returns
returns c =
    rw (c.in-Window.is, lt-ltb _ _ c.if-needs-has.false) (c.ne.ensures ∙ comes _ target c.args.next)
