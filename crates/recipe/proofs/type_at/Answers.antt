-- `type_at` meets its contract: the word is shifted to the bit, and a word past the end is 0.
use Prim.Native.Nat.{ℕ}
use native.Mathlib.Nat.{zero-div}
use lib.ListN.{get_or-eq_default}
use Rattle.recipe.proofs.type_at.Goals as goal

pub returns-then-types-j : goal.returns-then-types-j
returns-then-types-j c = rw (get_or-eq_default {A = ℕ} _ 0 c.if-types-j.true, zero-div)
