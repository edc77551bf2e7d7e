-- What the holder of a place, as the code answers it, is in the words of the format.
use Rattle.std.specs.Prelude.{ℕ, Some, None}
use Rattle.std.specs.Prelude as rust
use Rattle.std.proofs.Math.Option.{Option, none, some}
use Rattle.format.specs.Kind.{Kind}
use Rattle.recipe.specs.Kinds.{meant_kind}
use Rattle.blames.specs.declared.Held.{Held}

-- the record's kind and where it begins
abbrev pub held_by : rust.Option Held → Option (Kind × ℕ)
held_by (Some h) = some (meant_kind h.kind, h.at)
held_by None = none
