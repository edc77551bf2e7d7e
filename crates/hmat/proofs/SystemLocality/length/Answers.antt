-- `SystemLocality::length` meets its contract: what is left out of the product is a multiple of what four bytes hold.
use native.Mathlib.Omega.{arith}
use Rattle.laws.proofs.Changes.{le_same}
use Rattle.hmat.proofs.SystemLocality.length.Goals as goal

pub returns : goal.returns
returns c = le_same 4 _ _ (omega arith)
