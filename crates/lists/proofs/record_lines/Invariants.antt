-- `lists::record_lines` meets its contract. The invariant: the lines still to come, behind those that have come, give the answer.
use Rattle.std.proofs.Common.{◌≡◌, ◌-◌, ◌≤◌, max, length}
use Rattle.format.specs.Out.{every}
use Rattle.format.specs.Listing.{record_lines}
use Rattle.read.specs.Places.{first_place, seen_from}
use Rattle.text.specs.Text.{with}
use Rattle.lists.proofs.record_lines.Given as goal

abbrev pub invariant-loop : goal.invariant-loop
invariant-loop l =
    (l.place ≤ max 48 (length l.table))
    × (with l.text (record_lines (seen_from l.table every (l.count - l.counter) l.place)) ≡ with l.initial.text (record_lines (seen_from l.table every l.count (first_place l.table))))
