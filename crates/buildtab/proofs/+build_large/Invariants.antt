-- `buildtab::build_large` ends: its depth is one less with each call of itself.
use Rattle.buildtab.proofs.+build_large.Given as goal

abbrev pub decreases-build_large : goal.decreases-build_large
decreases-build_large l = l.depth
