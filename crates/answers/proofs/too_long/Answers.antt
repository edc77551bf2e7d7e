-- `too_long` meets its contract: it gives the text back.
use Rattle.std.proofs.Common.{rules}
use Rattle.text.proofs.Texts.{laid_back}
use Rattle.answers.proofs.too_long.Goals as goal

pub returns : goal.returns
returns c =
    rw (c.len.ensures) (laid_back _ c.args.text 0 _ c.new-line.ensures c.bytes.ensures (λ q. search rules))
