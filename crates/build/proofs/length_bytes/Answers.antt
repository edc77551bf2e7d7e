-- `length_bytes` meets its contract: the four bytes are those of the number, by computation.
use borrow.Author.Rules.{rules}
use Rattle.format.specs.Bytes.{le}
use Rattle.build.proofs.length_bytes.Goals as goal

pub returns : goal.returns
unfolding le
returns c = search rules
