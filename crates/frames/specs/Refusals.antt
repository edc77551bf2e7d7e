-- The refusals of a reading call as document 01 numbers them, and what a judgement of a header stands for.
use Rattle.std.specs.Prelude.{ℕ, Option, Some, None, Result, Ok, Err}
use Rattle.std.proofs.Math.Option.{none, some}
use Rattle.std.proofs.Math.Option as math
use Rattle.format.specs.Bytes.{Answer, refused, given}
use Rattle.format.specs.Table.{Table}
use Rattle.header.specs.declared.Table as header
use Rattle.header.specs.Header.{meant}
use Rattle.frames.specs.declared.Refusal.{Refusal}
use Rattle.frames.specs.declared.Refusal.TheVariants.{Short, BadSign, BadLength, BadSum, BadFront, BadFrame, BadRecord, BadRef, NoRecord}

-- a refusal's number
abbrev pub refusal_number : Refusal → ℕ
refusal_number Short = 20
refusal_number BadSign = 21
refusal_number BadLength = 22
refusal_number BadSum = 23
refusal_number BadFront = 24
refusal_number (BadFrame p) = 25
refusal_number (BadRecord p) = 26
refusal_number (BadRef p) = 27
refusal_number (NoRecord n) = 28

-- its place
abbrev pub refusal_place : Refusal → ℕ
refusal_place Short = 0
refusal_place BadSign = 0
refusal_place BadLength = 0
refusal_place BadSum = 0
refusal_place BadFront = 0
refusal_place (BadFrame p) = p
refusal_place (BadRecord p) = p
refusal_place (BadRef p) = p
refusal_place (NoRecord n) = n

-- the answer that it is
abbrev pub refusal : {A : Type 0} → Refusal → Answer A
refusal r = refused (refusal_number r) (refusal_place r)

-- the table that is spelled, if one is
abbrev pub spelled_as : Option header.Table → math.Option Table
spelled_as (Some t) = some (meant t)
spelled_as None = none

-- which table it is, or the refusal
abbrev pub judged_as : Result header.Table Refusal → Answer Table
judged_as (Ok t) = given (meant t)
judged_as (Err r) = refusal r
