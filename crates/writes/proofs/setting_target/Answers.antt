-- `setting_target` meets its contract: the place is that of the value, as far as a usize has it.
use mathlib.Core.Path.{ap, ◌∙◌}
use mathlib.Core.List.{List}
use Prim.Native.Nat.{ℕ}
use Rattle.format.specs.Bytes.{at}
use Rattle.format.specs.Kind.{body}
use Rattle.laws.specs.Settings.{target}
use Rattle.writes.specs.Writes.{setting, change_of}
use Rattle.writes.proofs.setting_target.Goals as goal

pub returns : goal.returns
unfolding change_of body
returns c =
    c.setting.ensures ∙ rw c.target_place.ensures (ap (λ (vs : List ℕ). setting c.args.s (target (at vs 0) (at vs 1))) c.from_body-idx.ensures)
