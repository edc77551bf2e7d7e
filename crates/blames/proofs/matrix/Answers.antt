-- `matrix` meets its contract: the fields of a matrix begin where the widths before them end.
use mathlib.Core.Path.{◌∙◌}
use Rattle.hmat.specs.Widths.{meant_width}
use Rattle.blames.proofs.Widths.{matrix-targets}
use Rattle.blames.proofs.matrix.Goals as goal

pub returns-then-at-targets_at : goal.returns-then-at-targets_at
returns-then-at-targets_at c = rw (c.if-at-targets_at.true ∙ c.targets_at.ensures, matrix-targets (meant_width c.args.width))
