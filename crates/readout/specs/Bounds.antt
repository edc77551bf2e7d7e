-- Bounds that keep every sum of lengths and places inside a usize; what a table and a matrix may have settles them.
use Rattle.std.specs.Prelude.{ℕ, ◌+◌, ◌*◌, ◌^◌}
use Rattle.format.specs.Layout.{width}
use Rattle.format.specs.Table.{limit}
use Rattle.format.specs.Form.{pair, most}
use Rattle.format.specs.Kind.{Cell, body}

-- a setting of a matrix is at most so many bytes, kind and body: a wide cell, or a wide value, which is as long
abbrev pub setting_most : ℕ
setting_most = 1 + width (body (Cell pair))

-- all settings of a matrix
abbrev pub settings_most : ℕ
settings_most = setting_most * (most + most + most * most)

-- the calls of one record: those of a full matrix, or of a processor that is as long as a table, are fewer
abbrev pub record_most : ℕ
record_most = 2 * limit

-- the calls of a table's records begin at places up to this; the settings in them at up to twice, lists at up to three times, entries of lists at up to four times
abbrev pub far : ℕ
far = 2 ^ 56
