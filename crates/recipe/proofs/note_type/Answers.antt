-- `note_type` meets its contract: by the tag only a cache changes a word, and the word has no bit from the cache's on, so the sum fits.
use mathlib.Core.Path.{◌≡◌, refl, sym, ap, ◌∙◌}
use Prim.Native.Nat.{ℕ, suc, ◌+◌, ◌*◌, ◌%◌, ◌^◌, ◌≤◌, ◌<◌}
use mathlib.Core.List.{List}
use mathlib.Core.Bool.{false, not}
use native.Mathlib.Nat.{one-mul, pow-succ'}
use native.Mathlib.Omega.{arith}
use lib.Pow.{pow_mono, shl_exact}
use borrow.Author.Rules.{rules}
use denote.Enum.Bare.{sameb, differs_true, differs_false}
use Rattle.recipe.specs.contracts.Kind.{the_type}
use Rattle.recipe.specs.declared.Kind.{Kind}
use Rattle.recipe.specs.declared.Kind.TheVariants.{Processor, Resource, Cache, Memory, Acpi, Pci, Rintc, Domain, Matrix, Initiator, Target, Cell, Side, Handle, Bridge, Window, WindowTarget, Xor, Map, WideMatrix, WideInitiator, WideTarget, WideCell}
use Rattle.recipe.specs.Kinds.{meant_kind}
use Rattle.recipe.specs.Machine.{noted}
use Rattle.recipe.proofs.note_type.Goals as goal

-- any other kind leaves the words as they are
left : (k : Kind) (i : ℕ) (ws : List ℕ) → (k ≡ Cache → ⊥) → noted (meant_kind k) i ws ≡ ws
left Processor i ws h = refl
left Resource i ws h = refl
left Cache i ws h = absurd (h refl)
left Memory i ws h = refl
left Acpi i ws h = refl
left Pci i ws h = refl
left Rintc i ws h = refl
left Domain i ws h = refl
left Matrix i ws h = refl
left Initiator i ws h = refl
left Target i ws h = refl
left Cell i ws h = refl
left Side i ws h = refl
left Handle i ws h = refl
left Bridge i ws h = refl
left Window i ws h = refl
left WindowTarget i ws h = refl
left Xor i ws h = refl
left Map i ws h = refl
left WideMatrix i ws h = refl
left WideInitiator i ws h = refl
left WideTarget i ws h = refl
left WideCell i ws h = refl

is_cache : {k : Kind} → not (sameb the_type k Cache) ≡ false → k ≡ Cache
is_cache e = differs_false the_type (search rules) _ _ e

-- a bit of a word, and a sum with no bit that both have
bit : (r : ℕ) → r < 64 → 1 * 2 ^ r % 18446744073709551616 ≡ 2 ^ r
bit r h = shl_exact 1 r 64 (omega arith) (omega arith) ∙ one-mul (2 ^ r)

sum_fits : (a r : ℕ) → r < 64 → a < 2 ^ r → a + 2 ^ r < 18446744073709551616
sum_fits a r h l =
    let m : 2 ^ suc r ≤ 2 ^ 64 = pow_mono h in
    omega (arith, pow-succ' 2 r)

pub returns-then-ne : goal.returns-then-ne
returns-then-ne c = sym (left c.args.kind _ _ (differs_true the_type _ _ (sym c.ne.ensures ∙ c.if-ne.true)))

pub bounds-types-j : goal.bounds-types-j
bounds-types-j c = (c.requires (ap meant_kind (is_cache (sym c.ne.ensures ∙ c.if-ne.false)))).there

pub overflow_add-types : goal.overflow_add-types
overflow_add-types c =
    let q = c.requires (ap meant_kind (is_cache (sym c.ne.ensures ∙ c.if-ne.false))) in
    let i = c.args.i in
    rw (bit (i % 64) (omega arith)) (omega (arith, sum_fits _ (i % 64) (omega arith) q.low))

pub bounds-types-j-2 : goal.bounds-types-j-2
bounds-types-j-2 c = (c.requires (ap meant_kind (is_cache (sym c.ne.ensures ∙ c.if-ne.false)))).there

pub returns : goal.returns
returns c = rw (is_cache (sym c.ne.ensures ∙ c.if-ne.false), bit (c.args.i % 64) (omega arith))
