-- The answers that the search does not find.
use Rattle.std.proofs.Common.{◌≡◌, sym, ap, ◌∙◌, ℕ, ◌+◌, ◌%◌, arith, rules}
use Rattle.laws.proofs.Bytes.{value-byte}
use Rattle.build.proofs.Walks.{walk_turn}
use Rattle.build.proofs.reached.Goals as goal

pub loop-init : goal.loop-init
loop-init c = (omega (arith, c.requires.1.0), c.requires.1.1)

pub loop-preserved : goal.loop-preserved
loop-preserved c =
    let l = c.loop in
    let out = c.args.out.now in
    (search rules, walk_turn out l.counter 36 l.place c.get.result l.invariant.1 (c.get.ensures ∙ sym (value-byte out (l.place + 1))))

pub returns : goal.returns
returns c =
    let l = c.loop in
    let z : l.counter ≡ c.args.i = omega (arith, c.requires.0, c.loop-test.false, l.auto.counter-end) in
    ap (λ (n : ℕ). n % 4294967296) (sym (rw z at l.invariant.1))
