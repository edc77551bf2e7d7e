-- Two outcomes that meet one contract are equal: a sum is its number, a table what it stands for; the length of headers is that of one header, and the front of a table that of no records.
use Rattle.std.proofs.Common.{◌≡◌, ℕ, length, replicate, refl, ap}
use Rattle.std.specs.Prelude.{Option, Some, None}
use Rattle.std.proofs.Math.Option as math
use Rattle.format.specs.Table as format
use Rattle.laws.specs.Unique.{Fixes}
use Rattle.laws.proofs.Sole.{sole, sole-meant}
use Rattle.header.specs.declared.Checksum.{Checksum}
use Rattle.header.specs.declared.Table.{Table}
use Rattle.header.specs.declared.Table.TheVariants.{Pptt, Srat, Hmat, Cedt}
use Rattle.header.specs.declared.TableHeader.{TableHeader}
use Rattle.header.specs.Header.{meant, coded_as, table_named, header_bytes, Sized, header_of}
use Rattle.header.proofs.limit.Reads as limit
use Rattle.header.proofs.ChecksumDefault.default.Reads as Checksum-default
use Rattle.header.proofs.Checksum.append.Reads as Checksum-append
use Rattle.header.proofs.Checksum.delete.Reads as Checksum-delete
use Rattle.header.proofs.Checksum.add.Reads as Checksum-add
use Rattle.header.proofs.Checksum.sub.Reads as Checksum-sub
use Rattle.header.proofs.Checksum.raw_value.Reads as Checksum-raw-value
use Rattle.header.proofs.Checksum.value.Reads as Checksum-value
use Rattle.header.proofs.Table.of_code.Reads as Table-of-code
use Rattle.header.proofs.Table.signature.Reads as Table-signature
use Rattle.header.proofs.Table.revision.Reads as Table-revision
use Rattle.header.proofs.Table.front.Reads as Table-front
use Rattle.header.proofs.TableHeader.from_body.Reads as TableHeader-from-body
use Rattle.header.proofs.TableHeader.length_in.Reads as TableHeader-length-in
use Rattle.header.proofs.TableHeader.revision_in.Reads as TableHeader-revision-in
use Rattle.header.proofs.TableHeader.set_length.Reads as TableHeader-set-length
use Rattle.header.proofs.TableHeader.set_checksum.Reads as TableHeader-set-checksum
use Rattle.header.proofs.TableHeader.put_body.Reads as TableHeader-put-body
use Rattle.header.proofs.TableHeader.len.Reads as TableHeader-len
use Rattle.header.proofs.TableHeader.new.Reads as TableHeader-new
use Rattle.header.proofs.TableHeader.checksum.Reads as TableHeader-checksum
use Rattle.header.proofs.TableHeader.put.Reads as TableHeader-put
use Rattle.header.proofs.put_front.Reads as put_front

pub table-back : (t : Table) → table_named (meant t) ≡ t
table-back Pptt = refl
table-back Srat = refl
table-back Hmat = refl
table-back Cedt = refl

abbrev coded_of : math.Option format.Table → Option Table
coded_of math.none = None
coded_of (math.some t) = Some (table_named t)

coded-back : (c : Option Table) → coded_of (coded_as c) ≡ c
coded-back (Some t) = ap Some (table-back t)
coded-back None = refl

-- `Table::of_code`
one_code : (a b : Option Table) (t : math.Option format.Table) → coded_as a ≡ t → coded_as b ≡ t → a ≡ b
one_code = sole-meant coded_as coded_of coded-back

-- `Checksum`'s functions
one-sum : (a b : Checksum) (n : ℕ) → a.value ≡ n → b.value ≡ n → a ≡ b
one-sum = sole-meant (λ (c : Checksum). c.value) (λ n. record { value = n }) (λ c. refl)

-- a header whose arrays have the lengths of their types
abbrev blank : TableHeader
blank = header_of Pptt 0 (replicate 6 0) (replicate 8 0) 0 (replicate 4 0) (replicate 4 0)

blank-sized : Sized blank
blank-sized = record { signature = refl; oem-id = refl; oem-table-id = refl; creator-id = refl; creator-revision = refl }

-- `TableHeader::len`
one-length : (a b : ℕ) → ((h : TableHeader) → Sized h → a ≡ length (header_bytes h)) → ((h : TableHeader) → Sized h → b ≡ length (header_bytes h)) → a ≡ b
one-length a b e f = sole (e blank blank-sized) (f blank blank-sized)

-- ---- the contracts

-- for each public function: what its contract fixes of the result `x` and of the parameters afterwards, `p`
pub record Unique : Type 0 where
  limit : Fixes limit.Learnt (λ k x p. x)
  Checksum-default : Fixes Checksum-default.Learnt (λ k x p. x)
  Checksum-append : Fixes Checksum-append.Learnt (λ k x p. x)
  Checksum-delete : Fixes Checksum-delete.Learnt (λ k x p. x)
  Checksum-add : Fixes Checksum-add.Learnt (λ k x p. x)
  Checksum-sub : Fixes Checksum-sub.Learnt (λ k x p. x)
  Checksum-raw-value : Fixes Checksum-raw-value.Learnt (λ k x p. x)
  Checksum-value : Fixes Checksum-value.Learnt (λ k x p. x)
  Table-of-code : Fixes Table-of-code.Learnt (λ k x p. x)
  Table-signature : Fixes Table-signature.Learnt (λ k x p. x)
  Table-revision : Fixes Table-revision.Learnt (λ k x p. x)
  Table-front : Fixes Table-front.Learnt (λ k x p. x)
  TableHeader-from-body : Fixes TableHeader-from-body.Learnt (λ k x p. x)
  TableHeader-length-in : Fixes TableHeader-length-in.Learnt (λ k x p. x)
  TableHeader-revision-in : Fixes TableHeader-revision-in.Learnt (λ k x p. x)
  TableHeader-set-length : Fixes TableHeader-set-length.Learnt (λ k x p. p.0.now)
  TableHeader-set-checksum : Fixes TableHeader-set-checksum.Learnt (λ k x p. p.0.now)
  TableHeader-put-body : Fixes TableHeader-put-body.Learnt (λ k x p. p.1.1.0.now)
  TableHeader-len : Fixes TableHeader-len.Learnt (λ k x p. x)
  TableHeader-new : Fixes TableHeader-new.Learnt (λ k x p. x)
  TableHeader-checksum : Fixes TableHeader-checksum.Learnt (λ k x p. x)
  TableHeader-put : Fixes TableHeader-put.Learnt (λ k x p. p.1.0.now)
  put_front : Fixes put_front.Learnt (λ k x p. p.1.0.now)

pub unique : Unique
unique =
    record {
      limit = λ k a x y p q. sole;
      Checksum-default = λ k a x y p q. one-sum x y _;
      Checksum-append = λ k a x y p q. one-sum x y _;
      Checksum-delete = λ k a x y p q. one-sum x y _;
      Checksum-add = λ k a x y p q. one-sum x y _;
      Checksum-sub = λ k a x y p q. one-sum x y _;
      Checksum-raw-value = λ k a x y p q. sole;
      Checksum-value = λ k a x y p q. sole;
      Table-of-code = λ k a x y p q. one_code x y _;
      Table-signature = λ k a x y p q. sole;
      Table-revision = λ k a x y p q. sole;
      Table-front = λ k a x y p q. sole;
      TableHeader-from-body = λ k a x y p q. sole;
      TableHeader-length-in = λ k a x y p q. sole;
      TableHeader-revision-in = λ k a x y p q. sole;
      TableHeader-set-length = λ k a x y p q. sole;
      TableHeader-set-checksum = λ k a x y p q. sole;
      TableHeader-put-body = λ k a x y p q. sole;
      TableHeader-len = λ k a x y p q. one-length x y;
      TableHeader-new = λ k a x y p q. sole;
      TableHeader-checksum = λ k a x y p q. sole;
      TableHeader-put = λ k a x y p q. sole;
      put_front = λ k a x y p q l m. sole (l 0) (m 0);
    }
