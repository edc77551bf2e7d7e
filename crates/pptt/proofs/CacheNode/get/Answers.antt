-- `CacheNode::get` meets its contract: the layout, read by places, has its fields at these offsets.
use lib.ListN.{drop}
use Rattle.format.specs.Layout.{as_is}
use Rattle.format.specs.Form.{cache, layout}
use Rattle.format.specs.Node.{node_at}
use Rattle.laws.proofs.Offsets.{fields-at}
use Rattle.pptt.proofs.Caches.{next-record}
use Rattle.pptt.proofs.CacheNode.get.Goals as goal

pub returns : goal.returns
unfolding node_at layout
returns c =
    let s = c.args in
    let bs = drop s.at s.table.now in
    let n = next-record bs in
    rw (fields-at as_is (layout cache) bs 0) (cc)
