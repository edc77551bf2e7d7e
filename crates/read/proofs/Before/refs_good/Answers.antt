-- `refs_good` meets its contract, row by row.
use mathlib.Core.Path.{◌∙◌}
use Rattle.read.proofs.Refs.{bare-refs, other-row, none-refs, cache-refs, processor-refs}
use Rattle.read.proofs.Before.refs_good.Goals as goal

pub returns-in_default : goal.returns-in_default
returns-in_default g c = rw c.in_default.is (none-refs _ _)

pub returns-then-refers_or_none : goal.returns-then-refers_or_none
returns-then-refers_or_none g c =
    rw (c.in-Some.is, c.in-Processors.is, processor-refs, ← c.parent_of.ensures, ← c.refers_or_none.ensures, c.if-refers_or_none.true)
    (c.links.ensures ∙ rw c.rest.ensures)

pub returns-else-refers_or_none : goal.returns-else-refers_or_none
returns-else-refers_or_none g c =
    rw (c.in-Some.is, c.in-Processors.is, processor-refs, ← c.parent_of.ensures, ← c.refers_or_none.ensures, c.if-refers_or_none.false)

pub returns-in-Caches : goal.returns-in-Caches
returns-in-Caches g c = rw (c.in-Some.is, c.in-Caches.is, ← cache-refs, ← c.next_level_of.ensures) c.refers_or_none-in-Caches.ensures

pub returns-in_default-row : goal.returns-in_default-row
returns-in_default-row g c = rw c.in-Some.is (bare-refs _ _ _ (other-row _ c.in_default-row.not-Processors c.in_default-row.not-Caches))
