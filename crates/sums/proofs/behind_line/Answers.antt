-- `behind_line` meets its contract: nothing of no bytes; else the words, the number behind them and the end of the line.
use mathlib.Core.Path.{sym}
use Rattle.text.proofs.Texts.{next, end}
use Rattle.sums.specs.Lines.{behind_line}
use Rattle.sums.proofs.behind_line.Goals as goal

pub returns-then-is_empty : goal.returns-then-is_empty
unfolding behind_line
returns-then-is_empty c = sym (end c.args.text.now (rw (← c.is_empty.ensures, c.if-is_empty.true)))

pub returns : goal.returns
unfolding behind_line
returns c = rw (← c.is_empty.ensures, c.if-is_empty.false) (next _ _ _ c.bytes.ensures (next _ _ _ c.spaced.ensures c.byte.ensures))
