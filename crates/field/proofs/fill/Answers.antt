-- `fill` meets its contract: what fits is written over the part that it fits.
use Rattle.std.proofs.Common.{◌≡◌, ◌+◌, ◌-◌, ◌≤◌, min, ◌∙◌, length, take, drop, replicate, arith, length-take, length-drop}
use Rattle.std.proofs.lemmas.List.{length-replicate, take-replicate}
use Rattle.field.proofs.Laid.{laid, fits}
use Rattle.field.proofs.fill.Goals as goal

pub returns : goal.returns
returns c =
    let a = c.args in
    let p = c.min-at.result in
    let n = c.min-n.result in
    let bs = c.args.out.now in
    let k : length (take (p + n - p) (drop p bs)) ≡ n = simp (length-take, length-drop) (omega arith) in
    let few : n ≤ a.n = omega arith in
    let t = take-replicate n a.n a.v few in
    let m : length (replicate n a.v) ≡ n = length-replicate n a.v in
    let e : c.fill.new.self ≡ replicate n a.v = c.fill.ensures.after (λ y e. e) ∙ rw k in
    let f : n ≡ min (length (replicate a.n a.v)) (length bs - p) = rw length-replicate c.min-n.ensures in
    rw e (laid bs p (p + n - p) (replicate n a.v) (rw m (omega arith)) (rw m (omega arith)) ∙ (rw (← t) (fits bs a.at p n (replicate a.n a.v) c.min-at.ensures f)))
