-- `State::counted` meets its contract: only a matrix has counts, and their width is compared.
use mathlib.Core.Path.{◌≡◌, refl, sym, ◌∙◌}
use Prim.Native.Nat.{ℕ}
use Rattle.std.specs.Prelude.{Err}
use Rattle.hmat.specs.declared.Width as code
use Rattle.recipe.specs.declared.Refusal.TheVariants.{Misplaced}
use Rattle.recipe.specs.declared.Fault.TheVariants.{Record}
use Rattle.recipe.specs.declared.Newest as kept
use Rattle.recipe.specs.declared.Newest.TheVariants as is
use Rattle.recipe.specs.Machine.{counted}
use Rattle.recipe.proofs.Steps.{unlike, alike}
use Rattle.recipe.proofs.state.State.counted.Goals as goal

-- any other node has no counts
other : (n : kept.Newest) (w : code.Width) → ((v : code.Width) (i t : ℕ) → n ≡ is.Matrix v i t → ⊥) → counted n w ≡ Err (Record Misplaced)
other (is.Processor n) w h = refl
other (is.Matrix v i t) w h = absurd (h v i t refl)
other (is.Side n) w h = refl
other (is.Window m n) w h = refl
other (is.Xor n) w h = refl
other is.Other w h = refl

pub returns-in_default : goal.returns-in_default
returns-in_default c = sym (other c.args.self.newest c.args.width c.in_default.not-Matrix)

pub returns-then-ne : goal.returns-then-ne
returns-then-ne c = rw (c.in-Matrix.is, unlike _ _ (sym c.ne.ensures ∙ c.if-ne.true))

pub returns : goal.returns
returns c = rw (c.in-Matrix.is, alike _ _ (sym c.ne.ensures ∙ c.if-ne.false))
