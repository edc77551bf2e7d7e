-- `Text::byte` meets its contract: where there is room one byte is set.
use mathlib.Core.Path.{sym}
use mathlib.Core.List.{[], ◌∷◌}
use native.Mathlib.Omega.{arith}
use Rattle.laws.proofs.Bytes.{over-one, over-past}
use Rattle.text.proofs.Texts.{with_as}
use Rattle.text.proofs.Text.byte.Goals as goal

pub returns-then-self : goal.returns-then-self
returns-then-self c =
    let t = c.args.self.now in
    with_as t (c.args.b ∷ []) _ _ (omega arith) (over-one t.out.now t.n c.args.b)

pub returns-else-self : goal.returns-else-self
returns-else-self c =
    let t = c.args.self.now in
    with_as t (c.args.b ∷ []) _ _ (omega arith) (sym (over-past t.out.now t.n _ c.if-self.false))
