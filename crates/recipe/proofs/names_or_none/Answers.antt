-- `names_or_none` meets its contract: what is not 0 has to name a node of the type.
use native.Mathlib.Omega.{arith}
use Rattle.recipe.proofs.names_or_none.Goals as goal

pub names-requires : goal.names-requires
names-requires c = omega (arith, c.if-ordinal-eq0.false)
