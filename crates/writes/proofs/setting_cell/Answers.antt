-- `setting_cell` meets its contract: the place is that of the cell, as far as a usize has it.
use mathlib.Core.Path.{ap, ◌∙◌}
use mathlib.Core.List.{List}
use Prim.Native.Nat.{ℕ}
use Rattle.format.specs.Bytes.{at}
use Rattle.laws.specs.Settings.{cell}
use Rattle.writes.specs.Writes.{setting, change_of}
use Rattle.writes.proofs.setting_cell.Goals as goal

pub returns : goal.returns
unfolding change_of
returns c =
    c.setting.ensures ∙ rw c.cell_place.ensures (ap (λ (vs : List ℕ). setting c.args.s (cell (at vs 0) (at vs 1) (at vs 2))) c.from_body-x.ensures)
