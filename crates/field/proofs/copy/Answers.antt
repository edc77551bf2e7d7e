-- `copy` meets its contract: what fits is written over the part that it fits.
use Rattle.std.proofs.Common.{◌+◌, ◌-◌, ◌∙◌, take, arith, length-take}
use Rattle.field.proofs.Laid.{laid, fits}
use Rattle.field.proofs.copy.Goals as goal

pub returns : goal.returns
returns g c =
    let a = c.args in
    let p = c.min-at.result in
    let n = c.min-n.result in
    let bs = c.args.out.now in
    rw c.copy_from_slice.ensures.after (laid bs p (p + n - p) (take n a.src.now) (simp length-take (omega arith)) (simp length-take (omega arith)) ∙ fits bs a.at p n a.src.now c.min-at.ensures c.min-n.ensures)
