-- `last_word` meets its contract: each word is its own.
use Rattle.answers.proofs.last_word.Goals as goal

pub returns-then-kept : goal.returns-then-kept
returns-then-kept c = rw c.if-kept.true c.bytes.ensures

pub returns : goal.returns
returns c = rw c.if-kept.false c.bytes-2.ensures
