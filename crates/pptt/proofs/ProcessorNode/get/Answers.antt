-- `ProcessorNode::get` meets its contract: the layout, read by places, has its fields at these offsets.
use lib.ListN.{drop}
use Rattle.format.specs.Layout.{as_is}
use Rattle.format.specs.Bytes.{value, part}
use Rattle.format.specs.Form.{processor, layout}
use Rattle.format.specs.Read.{shown}
use Rattle.laws.proofs.Offsets.{fields-at}
use Rattle.pptt.specs.Processor.{processor_in}
use Rattle.pptt.proofs.Processors.{parent-record}
use Rattle.pptt.proofs.ProcessorNode.get.Goals as goal

pub returns : goal.returns
unfolding processor_in layout shown
returns c =
    let s = c.args in
    let bs = drop s.at s.table.now in
    let p = parent-record bs in
    rw (fields-at as_is (layout (processor (value (part bs 16 4)))) bs 0) (cc)
