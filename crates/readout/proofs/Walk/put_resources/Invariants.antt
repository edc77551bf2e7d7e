-- `put_resources` meets its contract. The invariant: the calls of the resources so far are laid.
use Rattle.header.specs.Header.{meant}
use Rattle.readout.specs.Laid.{Laid, up_to}
use Rattle.readout.specs.Places.{ordinal_at}
use Rattle.readout.proofs.Records.{resource_list}
use Rattle.readout.proofs.Walk.put_resources.Given as goal

abbrev pub invariant-loop-i : goal.invariant-loop-i
invariant-loop-i g l = Laid l.initial.out l.out l.at (up_to (resource_list (ordinal_at (meant l.self.t) l.self.c.now l.self.own) l.body).of l.i) l.p
