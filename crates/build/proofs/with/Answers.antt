-- `with` meets its contract: the window is the part.
use mathlib.Core.Path.{ap, ◌∙◌}
use Prim.Native.Nat.{ℕ, ◌+◌, ◌-◌, ◌%◌}
use mathlib.Core.List.{List}
use native.Mathlib.Omega.{arith}
use Rattle.format.specs.Bytes.{sum}
use Rattle.build.proofs.Sums.{window-part}
use Rattle.build.proofs.with.Goals as goal

pub returns : goal.returns
returns c =
    let a = c.args in
    c.append.ensures ∙ ap (λ (l : List ℕ). (a.sum.value + sum l) % 256) (window-part a.out.now a.from (a.from + a.len - a.from) a.len (omega arith))
