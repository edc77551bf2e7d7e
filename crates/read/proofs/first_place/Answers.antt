-- `first_place` meets its contract: the front of the table that is signed.
use Rattle.read.proofs.first_place.Goals as goal

pub returns-in-Some : goal.returns-in-Some
returns-in-Some c =
    rw (← c.signed.ensures, c.in-Some.is) c.front.ensures

pub returns-in-None : goal.returns-in-None
returns-in-None c = rw (← c.signed.ensures, c.in-None.is)
