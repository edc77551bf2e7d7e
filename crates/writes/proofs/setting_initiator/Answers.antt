-- `setting_initiator` meets its contract: the place is that of the value, as far as a usize has it.
use mathlib.Core.Path.{ap, ◌∙◌}
use mathlib.Core.List.{List}
use Prim.Native.Nat.{ℕ}
use Rattle.format.specs.Bytes.{at}
use Rattle.laws.specs.Settings.{initiator}
use Rattle.writes.specs.Writes.{setting, change_of}
use Rattle.writes.proofs.setting_initiator.Goals as goal

pub returns : goal.returns
unfolding change_of
returns c =
    c.setting.ensures ∙ rw c.initiator_place.ensures (ap (λ (vs : List ℕ). setting c.args.s (initiator (at vs 0) (at vs 1))) c.from_body-idx.ensures)
