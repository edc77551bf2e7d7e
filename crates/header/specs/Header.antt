-- What the tables and their headers are in the words of the format.
use Rattle.std.specs.Prelude.{◌≡◌, ℕ, List, ◌∷◌, ◌++◌, length, drop, replicate, Option, Some, None}
use Rattle.std.proofs.Math.Option as math
use Rattle.format.specs.Bytes.{le, value, part, over}
use Rattle.format.specs.Table.{pptt, srat, hmat, cedt, sign, revision, front}
use Rattle.format.specs.Table as format
use Rattle.header.specs.declared.Table.{Table}
use Rattle.header.specs.declared.Table.TheVariants.{Pptt, Srat, Hmat, Cedt}
use Rattle.header.specs.declared.TableHeader.{TableHeader}

-- the table that a variant stands for
abbrev pub meant : Table → format.Table
meant Pptt = pptt
meant Srat = srat
meant Hmat = hmat
meant Cedt = cedt

-- the table that a number in a head stands for, if one does
abbrev pub coded_as : Option Table → math.Option format.Table
coded_as (Some t) = math.some (meant t)
coded_as None = math.none

-- the variant that stands for a table
abbrev pub table_named : format.Table → Table
table_named pptt = Pptt
table_named srat = Srat
table_named hmat = Hmat
table_named cedt = Cedt

-- the 26 bytes that a head gives
unfoldable pub identity : TableHeader → List ℕ
identity h = h.oem_id ++ (h.oem_table_id ++ (le 4 h.oem_revision ++ (h.creator_id ++ h.creator_revision)))

-- the 36 bytes of a header
unfoldable pub header_bytes : TableHeader → List ℕ
header_bytes h = h.signature ++ (le 4 h.length ++ (h.revision ∷ h.checksum ∷ identity h))

-- the arrays have the lengths of their types
pub record Sized (h : TableHeader) : Type 0 where
  pub signature : length h.signature ≡ 4
  pub oem-id : length h.oem_id ≡ 6
  pub oem-table-id : length h.oem_table_id ≡ 8
  pub creator-id : length h.creator_id ≡ 4
  pub creator-revision : length h.creator_revision ≡ 4

-- the header of a table of n bytes, before its checksum is known
abbrev pub header_of : Table → ℕ → List ℕ → List ℕ → ℕ → List ℕ → List ℕ → TableHeader
header_of t n oem oem_table oem_number creator creator_number =
    record {
      signature = sign (meant t);
      length = n;
      revision = revision (meant t);
      checksum = 0;
      oem_id = oem;
      oem_table_id = oem_table;
      oem_revision = oem_number;
      creator_id = creator;
      creator_revision = creator_number;
    }

-- the first n bytes, with zeros where there are none
abbrev pub padded : ℕ → List ℕ → List ℕ
padded n bs = over (replicate n 0) 0 bs

-- the header of a table without records, by the body of a recipe's head: table 1, OEM ID 6, OEM table ID 8, OEM revision 4, creator ID 4, creator revision 4
abbrev pub head_from : Table → List ℕ → TableHeader
head_from t bs =
    header_of t (front (meant t)) (padded 6 (drop 1 bs)) (padded 8 (drop 7 bs)) (value (part bs 15 4)) (padded 4 (drop 19 bs)) (padded 4 (drop 23 bs))

-- the same header with a checksum
abbrev pub with_checksum : TableHeader → ℕ → TableHeader
with_checksum h c =
    record {
      signature = h.signature;
      length = h.length;
      revision = h.revision;
      checksum = c;
      oem_id = h.oem_id;
      oem_table_id = h.oem_table_id;
      oem_revision = h.oem_revision;
      creator_id = h.creator_id;
      creator_revision = h.creator_revision;
    }
