-- Two answers that meet one contract are equal: what an answer stands for names the answer.
use mathlib.Core.Path.{◌≡◌, refl, sym, ◌∙◌}
use Prim.Native.Nat.{ℕ}
use mathlib.Core.Bool.{Bool}
use mathlib.Core.Option.{Option, none, some}
use lib.Dec.{eqb}
use Rattle.std.specs.Prelude.{Result, Ok, Err}
use Rattle.format.specs.Bytes.{pick, Answer, refused, given}
use Rattle.format.specs.Table.{Table}
use Rattle.format.specs.Form.{byte, pair}
use Rattle.format.specs.Kind as format
use Rattle.laws.specs.Unique.{Fixes}
use Rattle.laws.proofs.Sole.{sole, sole-meant}
use Rattle.header.specs.Header.{table_named}
use Rattle.header.proofs.Unique.{table-back}
use Rattle.recipe.specs.declared.Kind.{Kind}
use Rattle.recipe.specs.declared.Kind.TheVariants.{Processor, Resource, Cache, Memory, Acpi, Pci, Rintc, Domain, Matrix, Initiator, Target, Cell, Side, Handle, Bridge, Window, WindowTarget, Xor, Map, WideMatrix, WideInitiator, WideTarget, WideCell}
use Rattle.recipe.specs.declared.Unnamed.{Unnamed}
use Rattle.recipe.specs.declared.Unnamed.TheVariants as is
use Rattle.recipe.specs.declared.Refusal.{Refusal}
use Rattle.recipe.specs.declared.Refusal.TheVariants.{NoHead, BadKind, Retired, Cut, Misplaced, BadField, Forward, WrongKind, FullNode, TooLong, Incomplete}
use Rattle.recipe.specs.declared.Outline.{Outline}
use Rattle.recipe.specs.declared.Refused.{Refused}
use Rattle.recipe.specs.Kinds.{meant_kind, named, is_retired}
use Rattle.recipe.specs.Answers.{number, shown}
use Rattle.recipe.proofs.Kind.body_len.Reads as Kind-body-len
use Rattle.recipe.proofs.Kind.refers.Reads as Kind-refers
use Rattle.recipe.proofs.RefusalFromUnnamed.from.Reads as Refusal-from
use Rattle.recipe.proofs.kind_of.Reads as kind-of
use Rattle.recipe.proofs.check.Reads as check

-- ---- kinds

abbrev kind_named : format.Kind → Kind
kind_named format.Processor = Processor
kind_named format.Resource = Resource
kind_named format.Cache = Cache
kind_named format.Memory = Memory
kind_named format.Acpi = Acpi
kind_named format.Pci = Pci
kind_named format.Rintc = Rintc
kind_named format.Domain = Domain
kind_named (format.Matrix byte) = Matrix
kind_named (format.Matrix pair) = WideMatrix
kind_named (format.Initiator byte) = Initiator
kind_named (format.Initiator pair) = WideInitiator
kind_named (format.Target byte) = Target
kind_named (format.Target pair) = WideTarget
kind_named (format.Cell byte) = Cell
kind_named (format.Cell pair) = WideCell
kind_named format.Side = Side
kind_named format.Handle = Handle
kind_named format.Bridge = Bridge
kind_named format.Window = Window
kind_named format.WindowTarget = WindowTarget
kind_named format.Xor = Xor
kind_named format.Map = Map

kind-back : (k : Kind) → kind_named (meant_kind k) ≡ k
kind-back Processor = refl
kind-back Resource = refl
kind-back Cache = refl
kind-back Memory = refl
kind-back Acpi = refl
kind-back Pci = refl
kind-back Rintc = refl
kind-back Domain = refl
kind-back Matrix = refl
kind-back WideMatrix = refl
kind-back Initiator = refl
kind-back WideInitiator = refl
kind-back Target = refl
kind-back WideTarget = refl
kind-back Cell = refl
kind-back WideCell = refl
kind-back Side = refl
kind-back Handle = refl
kind-back Bridge = refl
kind-back Window = refl
kind-back WindowTarget = refl
kind-back Xor = refl
kind-back Map = refl

abbrev named_in : Option format.Kind → Bool → Result Kind Unnamed
named_in none b = Err (pick b is.Retired is.Nothing)
named_in (some k) b = Ok (kind_named k)

named_back : (n : Result Kind Unnamed) → named_in (named n) (is_retired n) ≡ n
named_back (Ok k) = rw (kind-back k)
named_back (Err is.Retired) = refl
named_back (Err is.Nothing) = refl

-- `kind_of`
one-kind : (a b : Result Kind Unnamed) (k : Option format.Kind) (x : Bool) → named a ≡ k → is_retired a ≡ x → named b ≡ k → is_retired b ≡ x → a ≡ b
one-kind a b k x e f g h = sym (named_back a) ∙ rw (e, f, g, h) refl ∙ named_back b

-- ---- answers

-- the refusal of a number
abbrev pub refusal_of : ℕ → Refusal
refusal_of n =
    pick (eqb n 1) NoHead (pick (eqb n 2) BadKind (pick (eqb n 3) Cut (pick (eqb n 4) Misplaced (pick (eqb n 5) BadField (pick (eqb n 6) Forward (pick (eqb n 10) WrongKind (pick (eqb n 7) FullNode (pick (eqb n 8) TooLong (pick (eqb n 12) Retired Incomplete)))))))))

pub refusal-back : (f : Refusal) → refusal_of (number f) ≡ f
refusal-back NoHead = refl
refusal-back BadKind = refl
refusal-back Retired = refl
refusal-back Cut = refl
refusal-back Misplaced = refl
refusal-back BadField = refl
refusal-back Forward = refl
refusal-back WrongKind = refl
refusal-back FullNode = refl
refusal-back TooLong = refl
refusal-back Incomplete = refl

abbrev checked_of : Answer (Table × ℕ) → Result Outline Refused
checked_of (refused n p) = Err (record { refusal = refusal_of n; at = p })
checked_of (given (t, n)) = Ok (record { table = table_named t; len = n })

checked-back : (a : Result Outline Refused) → checked_of (shown a) ≡ a
checked-back (Ok o) = rw table-back
checked-back (Err r) = rw refusal-back

-- `check`
one-check : (a b : Result Outline Refused) (o : Answer (Table × ℕ)) → shown a ≡ o → shown b ≡ o → a ≡ b
one-check = sole-meant shown checked_of checked-back

-- ---- the contracts

-- for each public function: what its contract fixes of the result `x` and of the parameters afterwards, `p`
pub record Unique : Type 0 where
  Kind-body-len : Fixes Kind-body-len.Learnt (λ k x p. x)
  Kind-refers : Fixes Kind-refers.Learnt (λ k x p. x)
  Refusal-from : Fixes Refusal-from.Learnt (λ k x p. x)
  kind-of : Fixes kind-of.Learnt (λ k x p. x)
  check : Fixes check.Learnt (λ k x p. x)

pub unique : Unique
unique =
    record {
      Kind-body-len = λ k a x y p q. sole;
      Kind-refers = λ k a x y p q. sole;
      Refusal-from = λ k a x y p q. sole;
      kind-of = λ k a x y p q l m. one-kind x y _ _ l.0 l.1 m.0 m.1;
      check = λ k a x y p q. one-check x y _;
    }
