-- `XorInterleaveMath::add_xormap` meets its contract: three numbers, each at its place.
use mathlib.Core.Path.{◌≡◌}
use Prim.Native.Nat.{◌+◌, ◌*◌, ◌%◌}
use native.Mathlib.Omega.{arith}
use Rattle.format.specs.Bytes.{le}
use Rattle.laws.proofs.Bytes.{le-mod}
use Rattle.laws.proofs.Over.{over-at}
use Rattle.cedt.specs.Cedt.{grown}
use Rattle.cedt.proofs.XorInterleaveMath.add_xormap.Goals as goal

pub returns : goal.returns
unfolding grown
returns c =
    let s = c.args in
    let one = over-at _ (s.at + 2) _ _ _ _ c.put.ensures c.saturating_add.ensures (omega arith) in
    let two = over-at _ (s.at + 7) _ _ _ _ c.put-2.ensures c.saturating_add-2.ensures (omega arith) in
    let n : le 1 ((s.n + 1) % 256) ≡ le 1 (s.n + 1) = le-mod 1 (s.n + 1) in
    let l : le 2 ((8 + 8 * (s.n + 1)) % 65536) ≡ le 2 (8 + 8 * (s.n + 1)) = le-mod 2 (8 + 8 * (s.n + 1)) in
    rw (c.put_map.ensures, two, one, l, n)
