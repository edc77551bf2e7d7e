-- The measure of `walk_long`: how often it still calls itself.
use Rattle.recipe.proofs.+walk_long.Given as goal

abbrev pub decreases-walk_long : goal.decreases-walk_long
decreases-walk_long l = l.again
