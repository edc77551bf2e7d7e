-- `processor_in` meets its contract: the fields of the record, and the number of resources by its length.
use Rattle.read.proofs.Fields.{processor-shown}
use Rattle.read.proofs.processor_in.Goals as goal

pub returns : goal.returns
returns c =
    let b = c.args.body.now in
    processor-shown b _ _ _ _ _ c.get-n.ensures c.resources_in.ensures
