-- `describe` meets its contract: its test is the definition's.
use borrow.Author.Rules.{rules}
use Rattle.answers.proofs.Laws.{content-none, content-some}
use Rattle.read.specs.Answers.{fields_in}
use Rattle.text.proofs.Texts.{next}
use Rattle.answers.proofs.describe.Goals as goal

pub returns-then-is_none : goal.returns-then-is_none
returns-then-is_none c =
    let x = c.args.node in
    rw (content-none (fields_in x) x (search rules)) c.bytes.ensures

pub returns : goal.returns
returns c =
    let x = c.args.node in
    rw (content-some (fields_in x) x (search rules), ← c.row_number.ensures)
    (next _ _ _ c.decimal.ensures (next _ _ _ c.byte.ensures c.values.ensures))
