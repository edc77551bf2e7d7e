-- `check` meets its contract: the head is judged, and then the records behind it.
use mathlib.Core.Path.{refl, ◌≡◌, sym, ap, ◌∙◌}
use Prim.Native.Nat.{ℕ, ◌<◌}
use mathlib.Core.Logic.{inr}
use mathlib.Core.Option.{none}
use native.Mathlib.Omega.{arith}
use Rattle.format.specs.Bytes.{value, part}
use Rattle.format.specs.Layout.{width}
use Rattle.format.specs.Table.{pptt, code}
use Rattle.format.specs.Kind.{body}
use Rattle.format.specs.Recipe.{table_of}
use denote.Enum.Bare.{differs_true}
use Rattle.header.specs.contracts.Table.{the_type}
use Rattle.header.specs.declared.Table.{Table}
use Rattle.header.specs.declared.Table.TheVariants.{Pptt, Srat, Hmat, Cedt}
use Rattle.header.specs.Header.{meant, coded_as}
use Rattle.recipe.specs.Answers.{outlined}
use Rattle.recipe.proofs.Types.{typed-none}
use Rattle.recipe.proofs.Walks.{no-head, cut-head, no_table, headed-by}
use Rattle.recipe.proofs.check.Goals as goal

positive : (n : ℕ) → 0 < n → n ≡ 0 → ⊥
positive n l e = omega arith

-- another table has no types to hold
other : {A : Type 0} (t : Table) → (t ≡ Pptt → ⊥) → meant t ≡ pptt → A
other Pptt h e = absurd (h refl)
other Srat h e = absurd (positive 1 (omega arith) (ap code e))
other Hmat h e = absurd (positive 2 (omega arith) (ap code e))
other Cedt h e = absurd (positive 3 (omega arith) (ap code e))

pub returns-then-get-ne-KIND : goal.returns-then-get-ne-KIND
returns-then-get-ne-KIND c = rw c.at.ensures (sym (ap outlined (no-head _ (λ e. c.if-get-ne-KIND.true (c.get.ensures ∙ e)))))

pub returns-then-recipe-lt-HEAD_LEN : goal.returns-then-recipe-lt-HEAD_LEN
returns-then-recipe-lt-HEAD_LEN c =
    rw c.at-then-recipe-lt-HEAD_LEN.ensures (sym (ap outlined (cut-head _ (sym c.get.ensures ∙ c.if-get-ne-KIND.false) c.if-recipe-lt-HEAD_LEN.true)))

pub returns-in_default : goal.returns-in_default
returns-in_default c =
    let r = c.args.recipe.now in
    let z : table_of (value (part r 1 1)) ≡ none = rw (← c.get-2.ensures) (sym c.of_code.ensures ∙ ap coded_as c.in_default.is) in
    rw c.at-in_default.ensures (sym (ap outlined (no_table r (sym c.get.ensures ∙ c.if-get-ne-KIND.false) c.if-recipe-lt-HEAD_LEN.false z)))

pub walk-requires : goal.walk-requires
walk-requires c e = other c.in-Some.table (differs_true the_type _ _ (sym c.ne.ensures ∙ c.if-ne.true)) e

pub returns-then-ne : goal.returns-then-ne
returns-then-ne c =
    let z = rw c.get-2.ensures at (sym c.of_code.ensures ∙ ap coded_as c.in-Some.is) in
    c.walk.ensures ∙ sym (ap outlined (headed-by _ (sym c.get.ensures ∙ c.if-get-ne-KIND.false) c.if-recipe-lt-HEAD_LEN.false _ z))

-- a recipe of fewer bytes has fewer nodes than bits
pub walk-requires-then-recipe-lt-FEW_BYTES : goal.walk-requires-then-recipe-lt-FEW_BYTES
unfolding width body
walk-requires-then-recipe-lt-FEW_BYTES c e = (inr c.if-recipe-lt-FEW_BYTES.true, typed-none 820)

pub returns-then-recipe-lt-FEW_BYTES : goal.returns-then-recipe-lt-FEW_BYTES
returns-then-recipe-lt-FEW_BYTES c =
    let z = rw c.get-2.ensures at (sym c.of_code.ensures ∙ ap coded_as c.in-Some.is) in
    c.walk-then-recipe-lt-FEW_BYTES.ensures ∙ sym (ap outlined (headed-by _ (sym c.get.ensures ∙ c.if-get-ne-KIND.false) c.if-recipe-lt-HEAD_LEN.false _ z))

pub returns : goal.returns
returns c =
    let z = rw c.get-2.ensures at (sym c.of_code.ensures ∙ ap coded_as c.in-Some.is) in
    c.walk_long.ensures ∙ sym (ap outlined (headed-by _ (sym c.get.ensures ∙ c.if-get-ne-KIND.false) c.if-recipe-lt-HEAD_LEN.false _ z))
