-- `Text::whole` meets its contract: a tenth of the number stands first, and its last digit behind that; without a high part it is the low one.
use Rattle.std.proofs.Common.{◌≡◌}
use mathlib.Core.Path.{◌∙◌}
use native.Mathlib.Omega.{arith}
use Rattle.field.specs.Whole.{number_of}
use Rattle.field.proofs.Parts.{whole-number}
use Rattle.text.proofs.Texts.{next}
use Rattle.text.proofs.Digits.{digits-short, digits_more}
use Rattle.text.proofs.Text.+whole.Goals as goal

pub returns-then-v-eq0 : goal.returns-then-v-eq0
returns-then-v-eq0 t c =
    let v = c.args.v in
    let e : number_of v ≡ v.low = omega (arith, c.if-v-eq0.true) in
    c.decimal.ensures ∙ rw (e, digits-short v.low (omega arith))

pub whole-requires : goal.whole-requires
whole-requires t c =
    (rw c.tenth.ensures (omega (arith, c.if-v-eq0.false, c.decreases)), tt)

pub returns : goal.returns
returns t c =
    let n = number_of c.args.v in
    next _ _ _ c.whole.ensures c.byte.ensures
    ∙ rw (c.tenth.ensures, whole-number, c.digit.ensures, digits_more 20 n (omega (arith, c.if-v-eq0.false)) (omega arith))
