-- `calls::serve_large` ends: its depth is one less with each call of itself.
use Rattle.calls.proofs.+serve_large.Given as goal

abbrev pub decreases-serve_large : goal.decreases-serve_large
decreases-serve_large l = l.depth
