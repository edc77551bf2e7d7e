-- What the answers of reading out stand for, as document 01 numbers them.
use Rattle.std.specs.Prelude.{ℕ, Result, Ok, Err}
use Rattle.format.specs.Bytes.{Answer, refused, given}
use Rattle.frames.specs.Refusals.{refusal}
use Rattle.readout.specs.declared.ReadOutError.{ReadOutError}
use Rattle.readout.specs.declared.ReadOutError.TheVariants.{Refused, Revision, Unknown, Retired, Room}

-- the refusal that an error is
abbrev pub refused_by : ReadOutError → Answer ℕ
refused_by (Refused r) = refusal r
refused_by (Unknown p) = refused 29 p
refused_by (Retired p) = refused 32 p
refused_by Revision = refused 30 8
refused_by (Room n) = refused 31 n

-- the length written, or the refusal
abbrev pub shown : Result ℕ ReadOutError → Answer ℕ
shown (Ok n) = given n
shown (Err e) = refused_by e

-- the number of a refusal; 0 of an answer that is none
abbrev pub number_of : Answer ℕ → ℕ
number_of (refused n p) = n
number_of (given n) = 0

-- its place; of an answer that is none the length
abbrev pub place_of : Answer ℕ → ℕ
place_of (refused n p) = p
place_of (given n) = n
