-- `making_window` meets its contract: the ways' code settles the length.
use mathlib.Core.Path.{ap, ◌∙◌}
use mathlib.Core.List.{List}
use Prim.Native.Nat.{ℕ}
use Rattle.format.specs.Bytes.{at}
use Rattle.format.specs.Form.{window, ways, size}
use Rattle.writes.specs.Writes.{making, change_of}
use Rattle.writes.proofs.making_window.Goals as goal

pub returns : goal.returns
unfolding change_of
returns c =
    c.making.ensures ∙ rw c.len.ensures (ap (λ (vs : List ℕ). making c.args.s (size (window (ways (at vs 2)))) 0 0) c.from_body-node.ensures)
