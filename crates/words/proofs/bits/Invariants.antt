-- `words::bits` meets its contract: what is still to come makes of the names so far what all make of the first.
use Rattle.std.proofs.Common.{◌≡◌, drop}
use Rattle.words.specs.Names.{named}
use Rattle.words.proofs.bits.Given as goal

abbrev pub invariant-loop-unit : goal.invariant-loop-unit
invariant-loop-unit g l = named l.flags l.some (drop l.unit-index l.names) ≡ named l.flags l.fn.some l.names
