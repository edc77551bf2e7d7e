-- `field` meets its contract: it gives the text back.
use Rattle.std.proofs.Common.{rules}
use Rattle.text.proofs.Texts.{laid_back}
use Rattle.blames.proofs.field.Goals as goal

pub returns : goal.returns
returns c =
    rw (c.len.ensures) (laid_back _ c.args.out c.args.n _ c.behind-text.ensures c.find.ensures (λ q. search rules))
