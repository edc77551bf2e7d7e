-- `links` meets its contract. The invariant: the list is good if what the loop has not passed yet is.
use mathlib.Core.Path.{◌≡◌}
use Prim.Native.Nat.{◌-◌, ◌*◌, ◌/◌}
use lib.ListN.{length, drop}
use Rattle.format.specs.Table.{pptt}
use Rattle.frames.specs.Frames.{refers}
use Rattle.read.specs.Places.{linked}
use Rattle.read.proofs.Before.links.Given as goal

abbrev pub invariant-loop-i : goal.invariant-loop-i
invariant-loop-i g l =
    linked (refers pptt l.self.c.now l.self.own) (length l.resources / 4) l.resources ≡ linked (refers pptt l.self.c.now l.self.own) (length l.resources / 4 - l.i) (drop (4 * l.i) l.resources)
