-- `CacheNode::from_body` meets its contract: each field stands at its offset.
use Rattle.format.specs.Kind.{Cache, body}
use Rattle.laws.proofs.Fields.{body_at}
use Rattle.pptt.proofs.Caches.{next-body}
use Rattle.pptt.proofs.CacheNode.from_body.Goals as goal

pub returns : goal.returns
unfolding body
returns c =
    rw (body_at Cache, c.get.ensures, c.next_level_in.ensures, next-body, c.get-2.ensures, c.get-3.ensures, c.get-4.ensures, c.get-5.ensures, c.get-6.ensures, c.get-7.ensures)
