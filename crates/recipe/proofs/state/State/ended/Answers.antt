-- `State::ended` meets its contract: what the newest node lacks is asked for first.
use mathlib.Core.Path.{sym, ◌∙◌}
use Rattle.recipe.proofs.state.State.ended.Goals as goal

pub returns-then-lacks : goal.returns-then-lacks
returns-then-lacks c = rw (c.at.ensures, sym c.lacks.ensures ∙ c.if-lacks.true)

pub returns : goal.returns
returns c = rw (sym c.lacks.ensures ∙ c.if-lacks.false)
