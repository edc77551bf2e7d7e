-- What a reading call shows of a node is what `shown` of the format says of any node with the same form and the same fields before its list.
use mathlib.Core.Path.{◌≡◌}
use Rattle.format.specs.Node.{Node}
use Rattle.format.specs.Read.{shown}
use Rattle.laws.specs.Offsets.{trimmed}
use Rattle.laws.proofs.Offsets.{form_of, first-of}
use Rattle.cedt.specs.declared.CxlHostBridge.{CxlHostBridge}
use Rattle.cedt.specs.declared.CxlFixedMemory.{CxlFixedMemory}
use Rattle.cedt.specs.declared.XorInterleaveMath.{XorInterleaveMath}
use Rattle.cedt.specs.Cedt.{bridge_shown, bridge_node, window_node, window_shown, maths_head, maths_shown}

pub shown-bridge : (b : CxlHostBridge) (x : Node) → bridge_node b ≡ x → bridge_shown b ≡ shown x.form x.values
unfolding shown
shown-bridge b x e = rw (← e)

pub shown-window : (w : CxlFixedMemory) (x : Node) → window_node w ≡ trimmed 7 x → window_shown w ≡ shown x.form x.values
unfolding shown
shown-window w x e = rw (form_of (window_node w) x 7 e, first-of (window_node w) x 7 e)

pub shown-maths : (m : XorInterleaveMath) (x : Node) → maths_head m ≡ trimmed 1 x → maths_shown m ≡ shown x.form x.values
unfolding shown
shown-maths m x e = rw (form_of (maths_head m) x 1 e, first-of (maths_head m) x 1 e)
