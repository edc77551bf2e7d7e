-- `show` meets its contract: type, length, row and fields of the record's bytes.
use Rattle.header.specs.Header.{meant}
use Rattle.read.proofs.Fields.{known-fits}
use Rattle.read.proofs.show.Goals as goal

pub known_node-requires : goal.known_node-requires
known_node-requires c =
    let a = c.args in
    rw (c.known.ensures, c.row_of-row.ensures) (known-fits (meant a.t) a.revision a.mask _ _)

pub returns : goal.returns
returns c count =
    rw (c.known_node.ensures.0, c.known_node.ensures.1, c.known.ensures, c.row_of-row.ensures, c.type_in.ensures)
