-- `outtab::read_out_large` ends: its depth is one less with each call of itself.
use Rattle.outtab.proofs.+read_out_large.Given as goal

abbrev pub decreases-read_out_large : goal.decreases-read_out_large
decreases-read_out_large l = l.depth
