-- What the rows of the code stand for, and what is asked of a record of one.
use Rattle.std.specs.Prelude.{ℕ, List, Bool, true, Option, Some, None}
use Rattle.std.proofs.Math.Option.{none, some}
use Rattle.std.proofs.Math.Option as math
use Rattle.format.specs.Row.{processors, caches, memories, initiators, old_rintcs, domains, matrices, sides, bridges, windows, xors, rintcs, form_in}
use Rattle.format.specs.Row as format
use Rattle.format.specs.Read.{sound}
use Rattle.hmat.specs.Widths.{meant_width}
use Rattle.rows.specs.declared.Row.{Row}
use Rattle.rows.specs.declared.Row.TheVariants.{Processors, Caches, Memories, Initiators, OldRintcs, Domains, Matrices, Sides, Bridges, Windows, Xors, Rintcs}

-- the row that a variant stands for
abbrev pub meant_row : Row → format.Row
meant_row Processors = processors
meant_row Caches = caches
meant_row Memories = memories
meant_row Initiators = initiators
meant_row OldRintcs = old_rintcs
meant_row Domains = domains
meant_row (Matrices w) = matrices (meant_width w)
meant_row Sides = sides
meant_row Bridges = bridges
meant_row Windows = windows
meant_row Xors = xors
meant_row Rintcs = rintcs

-- the row that is there, if one is
abbrev pub row_meant : Option Row → math.Option format.Row
row_meant (Some r) = some (meant_row r)
row_meant None = none

-- a record of the row is not at fault by itself; an unknown one never is
abbrev pub sound_as : math.Option format.Row → List ℕ → Bool
sound_as none bs = true
sound_as (some r) bs = sound (form_in r bs) bs
