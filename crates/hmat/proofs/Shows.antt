-- What a reading call shows of a node is what `shown` of the format says of any node with the same form and the same fields before its list.
use mathlib.Core.Path.{◌≡◌}
use native.Mathlib.Omega.{arith}
use lib.Seq.{take-take}
use Rattle.format.specs.Bytes.{part}
use Rattle.format.specs.Node.{Node}
use Rattle.format.specs.Read.{shown}
use Rattle.laws.specs.Offsets.{trimmed}
use Rattle.laws.proofs.Bytes.{part-take}
use Rattle.laws.proofs.Offsets.{form_of, first-of}
use Rattle.hmat.specs.declared.MemoryProximityDomain.{MemoryProximityDomain}
use Rattle.hmat.specs.declared.SystemLocality.{SystemLocality}
use Rattle.hmat.specs.declared.MemorySideCache.{MemorySideCache}
use Rattle.hmat.specs.Hmat.{domain_shown, domain_node, matrix_head, matrix_shown, side_head, side_shown}

pub shown-domain : (d : MemoryProximityDomain) (x : Node) → domain_node d ≡ x → domain_shown d ≡ shown x.form x.values
unfolding shown
shown-domain d x e = rw (← e)

pub shown-matrix : (m : SystemLocality) (x : Node) → matrix_head m ≡ trimmed 4 x → matrix_shown m ≡ shown x.form x.values
unfolding shown part
shown-matrix m x e =
    rw (form_of (matrix_head m) x 4 e, ← take-take 3 4 x.values (omega arith), ← part-take x.values 4 3 1 (omega arith), first-of (matrix_head m) x 4 e)

pub shown-side : (s : MemorySideCache) (x : Node) → side_head s ≡ trimmed 3 x → side_shown s ≡ shown x.form x.values
unfolding shown
shown-side s x e = rw (form_of (side_head s) x 3 e, first-of (side_head s) x 3 e)
