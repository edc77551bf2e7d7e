-- The length of a matrix is exact: its counts are one or two bytes of a body each, so the greatest number of a usize is not less.
use mathlib.Core.Path.{◌≡◌, ap}
use Prim.Native.Nat.{ℕ, ◌-◌, ◌*◌, ◌^◌, ◌≤◌, ◌<◌, min}
use mathlib.Core.List.{List}
use native.Mathlib.Omega.{arith}
use native.Mathlib.Nat.{mul-le-mul}
use Rattle.format.specs.Bytes.{at}
use Rattle.format.specs.Layout.{fields}
use Rattle.format.specs.Form.{matrix, size, Width, byte, pair, octets}
use Rattle.format.specs.Kind.{Matrix, body}
use Rattle.laws.proofs.Bytes.{bytes_of}
use Rattle.hmat.specs.declared.SystemLocality.{SystemLocality}
use Rattle.hmat.specs.Hmat.{matrix_form, matrix_call}
use Rattle.recipe.proofs.Steps.{counts-below}
use Rattle.writes.specs.declared.State.{State}
use Rattle.writes.specs.Writes.{making, change_of}

pub matrix-making : (w : Width) (s : State) (bs : List ℕ) (m : SystemLocality) (n : ℕ) → ((i : ℕ) → at bs i < 256) → matrix_call m ≡ fields (body (Matrix w)) bs
    → n ≡ min (size (matrix_form m)) (2 ^ 64 - 1) → making s n m.initiators m.targets ≡ change_of (Matrix w) s (fields (body (Matrix w)) bs)
unfolding change_of
matrix-making w s bs m n h e f =
    let (c, d) = counts-below w bs (bytes_of bs h) in
    let p : 256 ^ octets w ≤ 65536 = power w in
    let i : m.initiators ≡ at (fields (body (Matrix w)) bs) 4 = ap (λ (vs : List ℕ). at vs 4) e in
    let t : m.targets ≡ at (fields (body (Matrix w)) bs) 5 = ap (λ (vs : List ℕ). at vs 5) e in
    let a : m.initiators ≤ 65535 = omega arith in
    let b : m.targets ≤ 65535 = omega arith in
    let k : m.initiators * m.targets ≤ 65535 * 65535 = mul-le-mul a b in
    let z : n ≡ size (matrix_form m) = omega arith in
    rw z (ap (λ (vs : List ℕ). making s (size (matrix (at vs 4) (at vs 5))) (at vs 4) (at vs 5)) e)
  where
    power : (w : Width) → 256 ^ octets w ≤ 65536
    power byte = omega arith
    power pair = omega arith
