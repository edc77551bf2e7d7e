-- `sumtab::show_large` ends: its depth is one less with each call of itself.
use Rattle.sumtab.proofs.+show_large.Given as goal

abbrev pub decreases-show_large : goal.decreases-show_large
decreases-show_large l = l.depth
