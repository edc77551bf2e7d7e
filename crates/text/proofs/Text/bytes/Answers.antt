-- `Text::bytes` meets its contract: as many bytes stand there then as there was room for.
use Rattle.laws.proofs.Bytes.{length_over}
use Rattle.text.proofs.Texts.{with_as}
use Rattle.text.proofs.Text.bytes.Goals as goal

pub returns : goal.returns
returns c =
    let t = c.args.self.now in
    with_as t c.args.s.now _ _ (rw (c.min.ensures, c.saturating_sub.ensures, c.copy.ensures, length_over)) c.copy.ensures
