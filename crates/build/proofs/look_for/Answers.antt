-- `look_for` meets its contract: the record is looked for by what the reference is, and none is for none.
use Rattle.std.proofs.Common.{rules}
use Rattle.build.proofs.look_for.Goals as goal

pub place_of-requires : goal.place_of-requires
place_of-requires g c = let r = c.in-Some-Processor in (search rules, rw (r.is, rw r.is at r.field-0-is) at c.requires)

pub place_of-requires-in-Some-Cache : goal.place_of-requires-in-Some-Cache
place_of-requires-in-Some-Cache g c = let r = c.in-Some-Cache in (search rules, rw (r.is, rw r.is at r.field-0-is) at c.requires)

pub returns-in-Some-Processor : goal.returns-in-Some-Processor
returns-in-Some-Processor g c = let r = c.in-Some-Processor in rw (r.is, rw r.is at r.field-0-is) c.place_of.ensures

pub returns-in-Some-Cache : goal.returns-in-Some-Cache
returns-in-Some-Cache g c = let r = c.in-Some-Cache in rw (r.is, rw r.is at r.field-0-is) c.place_of-in-Some-Cache.ensures

pub returns-in-None : goal.returns-in-None
returns-in-None g c = rw c.in-None.is tt
