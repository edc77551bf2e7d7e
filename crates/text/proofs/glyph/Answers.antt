-- `text::glyph` meets its contract: its test is the definition's.
use borrow.Author.Tests.{lt-ltb, le-ltb}
use Rattle.text.specs.Text.{glyph}
use Rattle.text.proofs.glyph.Goals as goal

pub returns-then-low-lt10 : goal.returns-then-low-lt10
unfolding glyph
returns-then-low-lt10 c = simp (lt-ltb _ _ c.if-low-lt10.true)

pub returns : goal.returns
unfolding glyph
returns c = simp (le-ltb _ _ c.if-low-lt10.false)
