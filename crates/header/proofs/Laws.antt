-- The bytes of a header are the first 36 of a table: their number is counted, and `header` of the format is taken apart.
use Rattle.std.proofs.Common.{◌≡◌, ℕ, zero, suc, ◌≤◌, List, take, replicate, [], ◌∷◌, ◌++◌, length, refl, append_assoc, arith, length-append}
use lib.Seq.{take-nil}
use Rattle.format.specs.Bytes.{le, over}
use Rattle.format.specs.Layout.{lay}
use Rattle.format.specs.Table.{pptt, srat, hmat, cedt, code, front, tail, told, head_of}
use Rattle.format.specs.Table as format
use Rattle.format.specs.Build.{header}
use Rattle.laws.proofs.Bytes.{length-le}
use Rattle.header.specs.declared.Table.{Table}
use Rattle.header.specs.declared.TableHeader.{TableHeader}
use Rattle.header.specs.Header.{meant, identity, header_bytes, Sized, header_of, with_checksum}

pub length-header : (h : TableHeader) → Sized h → length (header_bytes h) ≡ 36
unfolding header_bytes identity
length-header h s = simp (length-append, length-le) (omega arith)

-- a header of `new` and `checksum`, and then what `put_front` writes, is the front of the format
pub header_made : (t : Table) (len : ℕ) (oem oem_table : List ℕ) (oem_number : ℕ) (creator creator_number : List ℕ) (check n : ℕ)
    → let h : TableHeader = with_checksum (header_of t len oem oem_table oem_number creator creator_number) check in
    header (head_of (meant t) (identity h)) n len check ≡ header_bytes h ++ lay (tail (meant t)) (told (meant t) n)
unfolding header header_bytes
header_made t len oem oem_table oem_number creator creator_number check n = simp append_assoc

-- fronts fit the four bytes of a length
pub front-small : (t : format.Table) → front t ≤ 48
front-small pptt = omega arith
front-small srat = omega arith
front-small hmat = omega arith
front-small cedt = omega arith

-- a front has the header's bytes
pub front_long : (t : format.Table) → 36 ≤ front t
front_long pptt = omega arith
front_long srat = omega arith
front_long hmat = omega arith
front_long cedt = omega arith

-- a table's number is one byte of a head
pub code-byte : (t : format.Table) → le 1 (code t) ≡ code t ∷ []
unfolding le
code-byte pptt = refl
code-byte srat = refl
code-byte hmat = refl
code-byte cedt = refl

-- of a list laid over zeros, as much as there is of it
pub taken-padded : (n : ℕ) (xs : List ℕ) → take (length xs) (over (replicate n 0) 0 xs) ≡ take n xs
unfolding over
taken-padded zero xs = take-nil (length xs)
taken-padded (suc n) [] = refl
taken-padded (suc n) (x ∷ xs) = rw (taken-padded n xs)
