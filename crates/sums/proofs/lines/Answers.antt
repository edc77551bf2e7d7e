-- `lines` meets its contract: the words of the sum, what is left of it, and the lines about the checksum, one behind the other.
use Rattle.std.proofs.Common.{rules, ◌∙◌}
use Rattle.field.proofs.Parts.{whole-number}
use Rattle.text.proofs.Texts.{next, laid_back}
use Rattle.sums.specs.Lines.{lines_of}
use Rattle.sums.proofs.lines.Goals as goal

pub returns : goal.returns
unfolding lines_of
returns c =
    let a = c.args in
    let all = next _ _ _ c.summed.ensures (next _ _ _ c.bytes.ensures (next _ _ _ c.spaced.ensures (next _ _ _ c.byte.ensures c.checked.ensures))) in
    rw (c.len.ensures) (laid_back _ a.out 0 _ c.new-text.ensures all (λ q. search rules) ∙ rw (c.u8sum-sum.ensures, whole-number))
