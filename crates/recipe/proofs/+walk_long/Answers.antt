-- `walk_long` meets its contract: the answer is that of the call of itself, or of the walk with room for every node.
use mathlib.Core.Logic.{inl}
use native.Mathlib.Omega.{arith}
use Rattle.recipe.proofs.Types.{typed-none}
use Rattle.recipe.proofs.+walk_long.Goals as goal

pub walk-requires : goal.walk-requires
walk-requires t c e = (inl (omega arith), typed-none 52429)
