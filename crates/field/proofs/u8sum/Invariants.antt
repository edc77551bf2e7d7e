-- `u8sum` meets its contract. The invariant: the sum so far and that of the bytes still to come are the whole sum, and each byte has added
-- at most one to high, which therefore fits.
use Rattle.std.proofs.Common.{◌≡◌, ◌+◌, ◌*◌, ◌<◌, ◌≤◌, length, drop}
use Rattle.format.specs.Bytes.{sum}
use Rattle.field.proofs.u8sum.Given as goal

abbrev pub invariant-loop-b : goal.invariant-loop-b
invariant-loop-b l = (l.b-index ≤ length l.s) × (l.low < 256) × (l.high ≤ l.b-index) × (256 * l.high + l.low + sum (drop l.b-index l.s) ≡ sum l.s)
