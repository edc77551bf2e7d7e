-- Attributes and flags: what the constructors and the setters make lies at its bits and within the ranges of the format.
use mathlib.Core.Path.{◌≡◌, refl}
use Prim.Native.Nat.{ℕ, ◌+◌, ◌*◌, ◌/◌, ◌%◌, ◌^◌, ◌≤◌, ◌<◌}
use mathlib.Core.List.{[], ◌∷◌}
use mathlib.Core.Bool.{true}
use native.Mathlib.Omega.{arith}
use native.Mathlib.Nat.{mod-eq_of_lt, add_comm}
use lib.Bits.{bit_or, or_shifted_r, or_shr, or_mod, or_lt}
use lib.Dec.{eqb, leb, ltb}
use borrow.Author.Tests.{le-leb, lt-ltb, ltb-true, eqb-true}
use Rattle.format.specs.Bytes.{all, bits}
use Rattle.format.specs.Form.{side, most, matrix_flags, side_attributes, any, ranges}
use Rattle.laws.proofs.Lays.{both_true}
use Rattle.hmat.specs.declared.SystemLocality.{SystemLocality}
use Rattle.hmat.specs.declared.DataType.{DataType}
use Rattle.hmat.specs.declared.DataType.TheVariants as datum
use Rattle.hmat.specs.declared.MinTransferSize.{MinTransferSize}
use Rattle.hmat.specs.declared.MinTransferSize.TheVariants as transfer
use Rattle.hmat.specs.declared.LocalityType.{LocalityType}
use Rattle.hmat.specs.declared.LocalityType.TheVariants as locality
use Rattle.hmat.specs.declared.CacheLevel.{CacheLevel}
use Rattle.hmat.specs.declared.CacheLevel.TheVariants as level
use Rattle.hmat.specs.declared.Associativity.{Associativity}
use Rattle.hmat.specs.declared.Associativity.TheVariants as associativity
use Rattle.hmat.specs.declared.WritePolicy.{WritePolicy}
use Rattle.hmat.specs.declared.WritePolicy.TheVariants as policy
use Rattle.hmat.specs.Numbers.{data_type_number, transfer_number, locality_number, level_number, associativity_number, policy_number}
use Rattle.hmat.specs.Hmat.{matrix_of, matrix_with, matrix_form, matrix_fields, attributes_of, side_of, side_fields}

-- ---- matrices

-- flags that obey the bit rules do so together
flags-or : (v w : ℕ) → matrix_flags v ≡ true → matrix_flags w ≡ true → matrix_flags (bit_or v w) ≡ true
unfolding matrix_flags
flags-or v w h k =
    let (a, b) = both_true (eqb (bits v 2 2) 0) (ltb v 64) h in
    let (c, d) = both_true (eqb (bits w 2 2) 0) (ltb w 64) k in
    let e : bits (bit_or v w) 2 2 ≡ 0 = rw (or_shr v w 2, or_mod (v / 4) (w / 4) 2, eqb-true (bits v 2 2) 0 a, eqb-true (bits w 2 2) 0 c) in
    rw (e, lt-ltb (bit_or v w) 64 (or_lt 6 v w (ltb-true v 64 b) (ltb-true w 64 d)))

locality-ruled : (l : LocalityType) → matrix_flags (locality_number l) ≡ true
unfolding matrix_flags
locality-ruled locality.Memory = refl
locality-ruled locality.FirstLevelCache = refl
locality-ruled locality.SecondLevelCache = refl
locality-ruled locality.ThirdLevelCache = refl

data-type-ruled : (d : DataType) → leb (data_type_number d) 5 ≡ true
data-type-ruled datum.AccessLatency = refl
data-type-ruled datum.ReadLatency = refl
data-type-ruled datum.WriteLatency = refl
data-type-ruled datum.AccessBandwidth = refl
data-type-ruled datum.ReadBandwidth = refl
data-type-ruled datum.WriteBandwidth = refl

transfer-ruled : (s : MinTransferSize) → leb (transfer_number s) 11 ≡ true
transfer-ruled transfer.SizeByteAligned = refl
transfer-ruled transfer.Size64b = refl
transfer-ruled transfer.Size128b = refl
transfer-ruled transfer.Size256b = refl
transfer-ruled transfer.Size512b = refl
transfer-ruled transfer.Size1k = refl
transfer-ruled transfer.Size2k = refl
transfer-ruled transfer.Size4k = refl
transfer-ruled transfer.Size8k = refl
transfer-ruled transfer.Size16k = refl
transfer-ruled transfer.Size32k = refl
transfer-ruled transfer.Size64k = refl

-- the fields before the values pass the tests of the format
abbrev pub Ruled : SystemLocality → Type 0
Ruled m = all (ranges (matrix_form m) (matrix_fields m)) ≡ true

-- the counts alone are as they are given
pub new-ruled : (l : LocalityType) (d : DataType) (s : MinTransferSize) (u i t : ℕ) → i ≤ most → t ≤ most → Ruled (matrix_of l d s u i t)
unfolding ranges
new-ruled l d s u i t h k = rw (locality-ruled l, data-type-ruled d, transfer-ruled s, le-leb i most h, le-leb t most k)

with-ruled : (m : SystemLocality) (k : ℕ) → matrix_flags (2 ^ k) ≡ true → Ruled m → Ruled (matrix_with k m)
unfolding ranges
with-ruled m k b h =
    let (f, r) = both_true (matrix_flags m.flags) (all (leb m.data_type 5 ∷ leb m.min_transfer_size 11 ∷ any ∷ leb m.initiators most ∷ leb m.targets most ∷ [])) h in
    rw (flags-or m.flags (2 ^ k) f b, r)

pub minimum-ruled : (m : SystemLocality) → Ruled m → Ruled (matrix_with 4 m)
unfolding matrix_flags
minimum-ruled m h = with-ruled m 4 refl h

pub non-sequential-ruled : (m : SystemLocality) → Ruled m → Ruled (matrix_with 5 m)
unfolding matrix_flags
non-sequential-ruled m h = with-ruled m 5 refl h

-- ---- side caches

level-small : (l : CacheLevel) → level_number l ≤ 3
level-small level.None = omega arith
level-small level.One = omega arith
level-small level.Two = omega arith
level-small level.Three = omega arith

associativity-small : (a : Associativity) → associativity_number a ≤ 2
associativity-small associativity.None = omega arith
associativity-small associativity.DirectMapped = omega arith
associativity-small associativity.Complex = omega arith

policy-small : (p : WritePolicy) → policy_number p ≤ 2
policy-small policy.None = omega arith
policy-small policy.Writeback = omega arith
policy-small policy.Writethrough = omega arith

-- a number shifted past another is added to it
shifted : (x y k : ℕ) → x < 2 ^ k → y * 2 ^ k < 2 ^ 32 → bit_or x (y * 2 ^ k % 2 ^ 32) ≡ x + y * 2 ^ k
shifted x y k h l = rw (mod-eq_of_lt l, or_shifted_r y k x h) (add_comm (y * 2 ^ k) x)

-- four bits each
digits : (a b c d l : ℕ) → a < 16 → b < 16 → c < 16 → d < 16
    → let v : ℕ = a + b * 2 ^ 4 + c * 2 ^ 8 + d * 2 ^ 12 + l * 2 ^ 16 in (bits v 0 4 ≡ a) × (bits v 4 4 ≡ b) × (bits v 8 4 ≡ c) × (bits v 12 4 ≡ d)
digits a b c d l ha hb hc hd =
    let v = a + b * 16 + c * 256 + d * 4096 + l * 65536 in
    let p : v / 16 ≡ b + (c + (d + l * 16) * 16) * 16 = omega arith in
    let q : v / 256 ≡ c + (d + l * 16) * 16 = omega arith in
    let r : v / 4096 ≡ d + l * 16 = omega arith in
    (omega arith, rw p (omega arith), rw q (omega arith), rw r (omega arith))

module _ (total this : CacheLevel) (a : Associativity) (p : WritePolicy) (line : ℕ) where
  pub attributes-or : line < 2 ^ 16
      → bit_or (bit_or (bit_or (bit_or (level_number total) (level_number this * 2 ^ 4 % 2 ^ 32)) (associativity_number a * 2 ^ 8 % 2 ^ 32)) (policy_number p * 2 ^ 12 % 2 ^ 32)) (line * 2 ^ 16 % 2 ^ 32)
      ≡ attributes_of total this a p line
  attributes-or h =
      let x = level-small total in
      let y = level-small this in
      let z = associativity-small a in
      let w = policy-small p in
      let one = level_number total + level_number this * 2 ^ 4 in
      let two = one + associativity_number a * 2 ^ 8 in
      let three = two + policy_number p * 2 ^ 12 in
      rw (shifted (level_number total) (level_number this) 4 (omega arith) (omega arith), shifted one (associativity_number a) 8 (omega arith) (omega arith), shifted two (policy_number p) 12 (omega arith) (omega arith), shifted three line 16 (omega arith) (omega arith))

  pub side-ruled : (d s n : ℕ) → all (ranges (side n) (side_fields (side_of d s total this a p line))) ≡ true
  unfolding ranges side_attributes
  side-ruled d s n =
      let x = level-small total in
      let y = level-small this in
      let z = associativity-small a in
      let w = policy-small p in
      let b = digits (level_number total) (level_number this) (associativity_number a) (policy_number p) line (omega arith) (omega arith) (omega arith) (omega arith) in
      rw (b.0, b.1, b.2, b.3, le-leb (level_number total) 3 x, le-leb (level_number this) 3 y, le-leb (associativity_number a) 2 z, le-leb (policy_number p) 2 w)
