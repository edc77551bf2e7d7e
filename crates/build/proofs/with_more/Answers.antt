-- `with_more` meets its contract: three numbers added one by one.
use mathlib.Core.Path.{ap, ◌∙◌}
use Prim.Native.Nat.{ℕ, ◌+◌, ◌%◌}
use mathlib.Core.List.{List}
use Rattle.format.specs.Bytes.{le, part, sum}
use Rattle.format.specs.Build.{check_of}
use Rattle.build.proofs.Sums.{sum-three}
use Rattle.build.proofs.with_more.Goals as goal

pub returns : goal.returns
returns c =
    let l₂ = c.length_bytes-2 in
    let d = c.delete in
    let l₁ = c.length_bytes in
    let w = c.with in
    let a = c.args in
    sum-three a.sum.value (sum (part a.out.now a.end a.more)) (check_of (sum (le 4 a.end))) (sum (le 4 (a.end + a.more))) w.result.value d.result.value _ w.ensures
    (d.ensures ∙ ap (λ (l : List ℕ). (w.result.value + check_of (sum l)) % 256) l₁.ensures) (c.append.ensures ∙ ap (λ (l : List ℕ). (d.result.value + sum l) % 256) l₂.ensures)
