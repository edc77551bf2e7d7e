-- What the answers of a reading call stand for.
use Rattle.std.specs.Prelude.{ℕ, List, [], Option, Some, None, Result, Ok, Err}
use Rattle.std.proofs.Math.Option.{none, some}
use Rattle.std.proofs.Math.Option as math
use Rattle.format.specs.Bytes.{Answer, given}
use Rattle.format.specs.Form.{narrowest}
use Rattle.format.specs.Row.{Row, processors, caches, memories, initiators, old_rintcs, domains, matrices, sides, bridges, windows, xors, rintcs}
use Rattle.format.specs.Read.{reading}
use Rattle.format.specs.Read as format
use Rattle.pptt.specs.Processor.{processor_shown}
use Rattle.pptt.specs.Cache.{cache_shown}
use Rattle.srat.specs.Srat.{memory_shown, initiator_shown, rintc_shown, old_rintc_shown}
use Rattle.hmat.specs.Hmat.{domain_shown, matrix_shown, side_shown}
use Rattle.cedt.specs.Cedt.{bridge_shown, window_shown, maths_shown}
use Rattle.frames.specs.declared.Refusal.{Refusal}
use Rattle.frames.specs.Refusals.{refusal}
use Rattle.read.specs.declared.Node.{Node}
use Rattle.read.specs.declared.Node.TheVariants as node
use Rattle.read.specs.declared.Shown.{Shown}
use Rattle.read.specs.declared.Reading.{Reading}

-- the row that a node is of, a matrix by its counts
abbrev pub node_row : Node → Row
node_row (node.Processor n) = processors
node_row (node.Cache n) = caches
node_row (node.Memory n) = memories
node_row (node.Initiator n) = initiators
node_row (node.OldRintc n) = old_rintcs
node_row (node.Domain n) = domains
node_row (node.Matrix n) = matrices (narrowest n.initiators n.targets)
node_row (node.Side n) = sides
node_row (node.Bridge n) = bridges
node_row (node.Window n) = windows
node_row (node.Xor n) = xors
node_row (node.Rintc n) = rintcs

-- its fields, in the order of the layout
abbrev pub node_fields : Node → List ℕ
node_fields (node.Processor n) = processor_shown n
node_fields (node.Cache n) = cache_shown n
node_fields (node.Memory n) = memory_shown n
node_fields (node.Initiator n) = initiator_shown n
node_fields (node.OldRintc n) = old_rintc_shown n
node_fields (node.Domain n) = domain_shown n
node_fields (node.Matrix n) = matrix_shown n
node_fields (node.Side n) = side_shown n
node_fields (node.Bridge n) = bridge_shown n
node_fields (node.Window n) = window_shown n
node_fields (node.Xor n) = maths_shown n
node_fields (node.Rintc n) = rintc_shown n

-- the same of a record that may be unknown: no row, and no fields
abbrev pub row_in : Option Node → math.Option Row
row_in (Some n) = some (node_row n)
row_in None = none

abbrev pub fields_in : Option Node → List ℕ
fields_in (Some n) = node_fields n
fields_in None = []

-- what is answered of a record, of a table of count records
abbrev pub shown_as : ℕ → Shown → format.Reading
shown_as count s = reading count s.ty s.place s.length (row_in s.node) (fields_in s.node)

-- a number, of records or a place, or the refusal
abbrev pub accepted_as : Result ℕ Refusal → Answer ℕ
accepted_as (Ok n) = given n
accepted_as (Err r) = refusal r

-- the answer of a reading call
abbrev pub shown : Result Reading Refusal → Answer format.Reading
shown (Ok r) = given (shown_as r.count r.«record»)
shown (Err r) = refusal r
