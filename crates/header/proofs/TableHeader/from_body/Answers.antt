-- `TableHeader::from_body` meets its contract: each array is filled from its place on, as far as there are bytes.
use Rattle.std.proofs.Common.{◌∙◌, arith}
use Rattle.header.specs.Header.{meant}
use Rattle.header.proofs.Laws.{front-small}
use Rattle.header.proofs.TableHeader.from_body.Goals as goal

pub overflow_cast-front : goal.overflow_cast-front
overflow_cast-front c = let l = front-small (meant c.args.table) in omega (arith, c.front.ensures)

pub returns : goal.returns
returns c =
    c.new.ensures ∙ rw (c.front.ensures, c.padded.ensures, c.padded-2.ensures, c.get.ensures, c.padded-3.ensures, c.padded-4.ensures)
