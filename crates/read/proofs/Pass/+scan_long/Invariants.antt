-- The measure of `scan_long`: again.
use Rattle.read.proofs.Pass.+scan_long.Given as goal

abbrev pub decreases-scan_long : goal.decreases-scan_long
decreases-scan_long l = l.again
