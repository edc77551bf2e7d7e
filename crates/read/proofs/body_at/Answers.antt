-- `body_at` meets its contract: the record at the front of what stands from the place on.
use mathlib.Core.Path.{◌∙◌}
use Rattle.read.proofs.body_at.Goals as goal

pub returns-in-Some : goal.returns-in-Some
returns-in-Some c =
    rw (← c.signed.ensures, c.in-Some.is) (c.record_in.ensures ∙ rw (c.rest.ensures, c.own.ensures))

pub returns-in-None : goal.returns-in-None
returns-in-None c = rw (← c.signed.ensures, c.in-None.is)
