-- The whole sum of bytes: of joined lists, of changed bytes, how large it gets; and the checksum, which follows from it by one law for building and reading.
use Rattle.std.specs.Prelude.{◌≡◌, ◌↔◌, ℕ, ◌+◌, ◌*◌, ◌%◌, ◌≤◌, ◌<◌, List, [], ◌∷◌, ◌++◌, length}
use Rattle.format.specs.Bytes.{Bytes, at, part, over, sum, given}
use Rattle.format.specs.Build.{check_of, build, table}
use Rattle.format.specs.Read.{own, Seen, accept}

-- the sum of a table's bytes without its checksum, byte 9
abbrev pub others : List ℕ → ℕ
others b = sum (over b 9 (0 ∷ []))

-- of every list of bytes
pub record WholeSums : Type 0 where
  -- joined, one adds to the other
  pub joined : (bs cs : List ℕ) → sum (bs ++ cs) ≡ sum bs + sum cs
  -- bytes laid over others take their place in the sum
  pub changed : (bs cs : List ℕ) (p : ℕ) → p + length cs ≤ length bs → sum (over bs p cs) + sum (part bs p (length cs)) ≡ sum bs + sum cs
  -- so does one byte
  pub changed_byte : (bs : List ℕ) (p c : ℕ) → p < length bs → sum (over bs p (c ∷ [])) + at bs p ≡ sum bs + c
  -- at most 255 for each byte
  pub bounded : (bs : List ℕ) → Bytes bs → sum bs ≤ 255 * length bs

-- the checksum
pub record Checksums : Type 0 where
  -- the law: a byte beside others makes the sum of all 0 modulo 256 exactly where it is the check of the others' sum
  pub derived : (c s : ℕ) → c < 256 → ((c + s) % 256 ≡ 0) ↔ (c ≡ check_of s)
  -- a built table: its sum is a multiple of 256, and its checksum what the other bytes ask for
  pub built : (r : List ℕ) (room n : ℕ) → Bytes r → build r room ≡ given n
      → ((k : ℕ) × (sum (table r) ≡ 256 * k)) × (at (table r) 9 ≡ check_of (others (table r)))
  -- an accepted table: the same of its own bytes
  pub accepted : (b : List ℕ) (mask : ℕ) (ss : List Seen) → Bytes b → accept b mask ≡ given ss
      → ((k : ℕ) × (sum (own b) ≡ 256 * k)) × (at b 9 ≡ check_of (others (own b)))
