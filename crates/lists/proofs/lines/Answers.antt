-- `lists::lines` meets its contract: it gives the text back.
use Rattle.std.proofs.Common.{rules}
use Rattle.text.proofs.Texts.{laid_back}
use Rattle.lists.proofs.lines.Goals as goal

pub returns : goal.returns
returns c =
    rw (c.len.ensures) (laid_back _ c.args.out 0 _ c.new-text.ensures c.listing.ensures (λ q. search rules))
