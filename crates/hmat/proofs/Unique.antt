-- Two records that meet one contract are equal: what the format shows of a node, its counts among it, is all of the record.
use mathlib.Core.Path.{◌≡◌, refl}
use Prim.Native.Nat.{ℕ}
use mathlib.Core.List.{List}
use Rattle.format.specs.Bytes.{at, part}
use Rattle.format.specs.Form.{byte}
use Rattle.format.specs.Form as format
use Rattle.format.specs.Node.{Node}
use Rattle.format.specs.Read.{shown}
use Rattle.laws.specs.Unique.{Fixes}
use Rattle.laws.proofs.Sole.{sole, sole-meant, sole-pair}
use Rattle.hmat.specs.declared.MemoryProximityDomain.{MemoryProximityDomain}
use Rattle.hmat.specs.declared.Width.{Width}
use Rattle.hmat.specs.declared.Width.TheVariants.{Byte, Pair}
use Rattle.hmat.specs.declared.SystemLocality.{SystemLocality}
use Rattle.hmat.specs.declared.Value.{Value}
use Rattle.hmat.specs.declared.Cell.{Cell}
use Rattle.hmat.specs.declared.MemorySideCache.{MemorySideCache}
use Rattle.hmat.specs.declared.SmbiosHandle.{SmbiosHandle}
use Rattle.hmat.specs.Widths.{meant_width, width_named}
use Rattle.hmat.specs.Hmat.{domain_of, domain_node, matrix_head, matrix_call, side_head}
use Rattle.hmat.specs.Settings.{value_fields, cell_fields, handle_fields}
use Rattle.hmat.proofs.MemoryProximityDomain.new.Reads as MemoryProximityDomain-new
use Rattle.hmat.proofs.MemoryProximityDomain.len.Reads as MemoryProximityDomain-len
use Rattle.hmat.proofs.MemoryProximityDomain.put.Reads as MemoryProximityDomain-put
use Rattle.hmat.proofs.MemoryProximityDomain.get.Reads as MemoryProximityDomain-get
use Rattle.hmat.proofs.MemoryProximityDomain.is_fixed.Reads as MemoryProximityDomain-is-fixed
use Rattle.hmat.proofs.MemoryProximityDomain.from_body.Reads as MemoryProximityDomain-from-body
use Rattle.hmat.proofs.MemoryProximityDomain.put_body.Reads as MemoryProximityDomain-put-body
use Rattle.hmat.proofs.MemoryProximityDomain.put_fields.Reads as MemoryProximityDomain-put-fields
use Rattle.hmat.proofs.U8FromDataType.from.Reads as U8FromDataType-from
use Rattle.hmat.proofs.U8FromMinTransferSize.from.Reads as U8FromMinTransferSize-from
use Rattle.hmat.proofs.U8FromLocalityType.from.Reads as U8FromLocalityType-from
use Rattle.hmat.proofs.SystemLocality.new.Reads as SystemLocality-new
use Rattle.hmat.proofs.SystemLocality.non_sequential_transfers.Reads as SystemLocality-non-sequential-transfers
use Rattle.hmat.proofs.SystemLocality.minimum_transfer_size_required.Reads as SystemLocality-minimum-transfer-size-required
use Rattle.hmat.proofs.SystemLocality.len.Reads as SystemLocality-len
use Rattle.hmat.proofs.SystemLocality.put.Reads as SystemLocality-put
use Rattle.hmat.proofs.SystemLocality.initiator_place.Reads as SystemLocality-initiator-place
use Rattle.hmat.proofs.SystemLocality.target_place.Reads as SystemLocality-target-place
use Rattle.hmat.proofs.SystemLocality.cell_place.Reads as SystemLocality-cell-place
use Rattle.hmat.proofs.SystemLocality.entry_place.Reads as SystemLocality-entry-place
use Rattle.hmat.proofs.SystemLocality.set_initiator_value.Reads as SystemLocality-set-initiator-value
use Rattle.hmat.proofs.SystemLocality.set_target_value.Reads as SystemLocality-set-target-value
use Rattle.hmat.proofs.SystemLocality.set_entry_value.Reads as SystemLocality-set-entry-value
use Rattle.hmat.proofs.SystemLocality.get.Reads as SystemLocality-get
use Rattle.hmat.proofs.SystemLocality.initiator_value.Reads as SystemLocality-initiator-value
use Rattle.hmat.proofs.SystemLocality.target_value.Reads as SystemLocality-target-value
use Rattle.hmat.proofs.SystemLocality.entry_value.Reads as SystemLocality-entry-value
use Rattle.hmat.proofs.SystemLocality.fits.Reads as SystemLocality-fits
use Rattle.hmat.proofs.SystemLocality.width.Reads as SystemLocality-width
use Rattle.hmat.proofs.SystemLocality.targets_at.Reads as SystemLocality-targets-at
use Rattle.hmat.proofs.SystemLocality.from_body.Reads as SystemLocality-from-body
use Rattle.hmat.proofs.SystemLocality.put_body.Reads as SystemLocality-put-body
use Rattle.hmat.proofs.SystemLocality.put_fields.Reads as SystemLocality-put-fields
use Rattle.hmat.proofs.SystemLocality.locality.Reads as SystemLocality-locality
use Rattle.hmat.proofs.SystemLocality.bad_field.Reads as SystemLocality-bad-field
use Rattle.hmat.proofs.SystemLocality.is_sound.Reads as SystemLocality-is-sound
use Rattle.hmat.proofs.Value.initiator_kind.Reads as Value-initiator-kind
use Rattle.hmat.proofs.Value.target_kind.Reads as Value-target-kind
use Rattle.hmat.proofs.Value.value_at.Reads as Value-value-at
use Rattle.hmat.proofs.Value.from_body.Reads as Value-from-body
use Rattle.hmat.proofs.Value.put_body.Reads as Value-put-body
use Rattle.hmat.proofs.Value.bad_field.Reads as Value-bad-field
use Rattle.hmat.proofs.Cell.kind.Reads as Cell-kind
use Rattle.hmat.proofs.Cell.body_len.Reads as Cell-body-len
use Rattle.hmat.proofs.Cell.target_at.Reads as Cell-target-at
use Rattle.hmat.proofs.Cell.value_at.Reads as Cell-value-at
use Rattle.hmat.proofs.Cell.from_body.Reads as Cell-from-body
use Rattle.hmat.proofs.Cell.put_body.Reads as Cell-put-body
use Rattle.hmat.proofs.Cell.bad_field.Reads as Cell-bad-field
use Rattle.hmat.proofs.Cell.stands.Reads as Cell-stands
use Rattle.hmat.proofs.U32FromCacheLevel.from.Reads as U32FromCacheLevel-from
use Rattle.hmat.proofs.U32FromAssociativity.from.Reads as U32FromAssociativity-from
use Rattle.hmat.proofs.U32FromWritePolicy.from.Reads as U32FromWritePolicy-from
use Rattle.hmat.proofs.MemorySideCache.new.Reads as MemorySideCache-new
use Rattle.hmat.proofs.MemorySideCache.len.Reads as MemorySideCache-len
use Rattle.hmat.proofs.MemorySideCache.put.Reads as MemorySideCache-put
use Rattle.hmat.proofs.MemorySideCache.is_full.Reads as MemorySideCache-is-full
use Rattle.hmat.proofs.MemorySideCache.grow.Reads as MemorySideCache-grow
use Rattle.hmat.proofs.MemorySideCache.get.Reads as MemorySideCache-get
use Rattle.hmat.proofs.MemorySideCache.smbios_handle.Reads as MemorySideCache-smbios-handle
use Rattle.hmat.proofs.MemorySideCache.fits.Reads as MemorySideCache-fits
use Rattle.hmat.proofs.MemorySideCache.from_body.Reads as MemorySideCache-from-body
use Rattle.hmat.proofs.MemorySideCache.put_body.Reads as MemorySideCache-put-body
use Rattle.hmat.proofs.MemorySideCache.put_fields.Reads as MemorySideCache-put-fields
use Rattle.hmat.proofs.MemorySideCache.total_cache_levels.Reads as MemorySideCache-total-cache-levels
use Rattle.hmat.proofs.MemorySideCache.this_cache_level.Reads as MemorySideCache-this-cache-level
use Rattle.hmat.proofs.MemorySideCache.associativity.Reads as MemorySideCache-associativity
use Rattle.hmat.proofs.MemorySideCache.write_policy.Reads as MemorySideCache-write-policy
use Rattle.hmat.proofs.MemorySideCache.cacheline_size.Reads as MemorySideCache-cacheline-size
use Rattle.hmat.proofs.MemorySideCache.bad_field.Reads as MemorySideCache-bad-field
use Rattle.hmat.proofs.MemorySideCache.is_sound.Reads as MemorySideCache-is-sound
use Rattle.hmat.proofs.SmbiosHandle.from_body.Reads as SmbiosHandle-from-body
use Rattle.hmat.proofs.SmbiosHandle.put_body.Reads as SmbiosHandle-put-body

abbrev matrix_in : List ℕ → SystemLocality
matrix_in vs =
    record { flags = at vs 0; data_type = at vs 1; min_transfer_size = at vs 2; initiators = at vs 3; targets = at vs 4; entry_base_unit = at vs 5 }

abbrev side_in : List ℕ → MemorySideCache
side_in vs = record { proximity_domain = at vs 0; cache_size = at vs 1; attributes = at vs 2; smbios_handles = at vs 3 }

pub width_back : (w : Width) → width_named (meant_width w) ≡ w
width_back Byte = refl
width_back Pair = refl

-- `SystemLocality::width`
one_width : (a b : Width) (w : format.Width) → meant_width a ≡ w → meant_width b ≡ w → a ≡ b
one_width = sole-meant meant_width width_named width_back

-- `MemoryProximityDomain::get`, `MemoryProximityDomain::from_body`
one-domain : (a b : MemoryProximityDomain) (n : Node) → domain_node a ≡ n → domain_node b ≡ n → a ≡ b
one-domain = sole-meant domain_node (λ (n : Node). domain_of (at n.values 0) (at n.values 1)) (λ d. refl)

-- `SystemLocality::get`
one-matrix : (a b : SystemLocality) (n : Node) → matrix_head a ≡ n → matrix_head b ≡ n → a ≡ b
unfolding shown part
one-matrix = sole-meant matrix_head (λ (n : Node). matrix_in (shown n.form n.values)) (λ m. refl)

-- `MemorySideCache::get`, `MemorySideCache::from_body`
one_side : (a b : MemorySideCache) (n : Node) → side_head a ≡ n → side_head b ≡ n → a ≡ b
unfolding shown
one_side = sole-meant side_head (λ (n : Node). side_in (shown n.form n.values)) (λ s. refl)

-- ---- bodies: the fields are all of a node, counts among them

abbrev matrix_from : List ℕ → SystemLocality
matrix_from vs =
    record { flags = at vs 0; data_type = at vs 1; min_transfer_size = at vs 2; entry_base_unit = at vs 3; initiators = at vs 4; targets = at vs 5 }

-- `SystemLocality::from_body`
one-matrix-body : (a b : SystemLocality) (vs : List ℕ) → matrix_call a ≡ vs → matrix_call b ≡ vs → a ≡ b
one-matrix-body = sole-meant matrix_call matrix_from (λ m. refl)

abbrev value_from : List ℕ → Value
value_from vs = record { idx = at vs 0; value = at vs 1 }

-- `Value::from_body`
one_value : (a b : Value) (vs : List ℕ) → value_fields a ≡ vs → value_fields b ≡ vs → a ≡ b
one_value = sole-meant value_fields value_from (λ v. refl)

abbrev cell_from : List ℕ → Cell
cell_from vs = record { initiator_idx = at vs 0; target_idx = at vs 1; value = at vs 2 }

-- `Cell::from_body`
one_cell : (a b : Cell) (vs : List ℕ) → cell_fields a ≡ vs → cell_fields b ≡ vs → a ≡ b
one_cell = sole-meant cell_fields cell_from (λ c. refl)

abbrev handle_from : List ℕ → SmbiosHandle
handle_from vs = record { 0 = at vs 0 }

-- `MemorySideCache::smbios_handle`
one_number : (a b : SmbiosHandle) (n : ℕ) → a.0 ≡ n → b.0 ≡ n → a ≡ b
one_number = sole-meant (λ (h : SmbiosHandle). h.0) (λ n. record { 0 = n }) (λ h. refl)

-- `SmbiosHandle::from_body`
one-handle : (a b : SmbiosHandle) (vs : List ℕ) → handle_fields a ≡ vs → handle_fields b ≡ vs → a ≡ b
one-handle = sole-meant handle_fields handle_from (λ h. refl)

-- ---- the contracts

-- for each public function: what its contract fixes of the result `x` and of the parameters afterwards, `p`
pub record Unique : Type 0 where
  MemoryProximityDomain-new : Fixes MemoryProximityDomain-new.Learnt (λ k x p. x)
  MemoryProximityDomain-len : Fixes MemoryProximityDomain-len.Learnt (λ k x p. x)
  MemoryProximityDomain-put : Fixes MemoryProximityDomain-put.Learnt (λ k x p. p.1.0.now)
  MemoryProximityDomain-get : Fixes MemoryProximityDomain-get.Learnt (λ k x p. x)
  MemoryProximityDomain-is-fixed : Fixes MemoryProximityDomain-is-fixed.Learnt (λ k x p. x)
  MemoryProximityDomain-from-body : Fixes MemoryProximityDomain-from-body.Learnt (λ k x p. x)
  MemoryProximityDomain-put-body : Fixes {S = ℕ × List ℕ} MemoryProximityDomain-put-body.Learnt (λ k x p. (x, p.1.0.now))
  MemoryProximityDomain-put-fields : Fixes MemoryProximityDomain-put-fields.Learnt (λ k x p. p.1.0.now)
  U8FromDataType-from : Fixes U8FromDataType-from.Learnt (λ k x p. x)
  U8FromMinTransferSize-from : Fixes U8FromMinTransferSize-from.Learnt (λ k x p. x)
  U8FromLocalityType-from : Fixes U8FromLocalityType-from.Learnt (λ k x p. x)
  SystemLocality-new : Fixes SystemLocality-new.Learnt (λ k x p. x)
  SystemLocality-non-sequential-transfers : Fixes SystemLocality-non-sequential-transfers.Learnt (λ k x p. x)
  SystemLocality-minimum-transfer-size-required : Fixes SystemLocality-minimum-transfer-size-required.Learnt (λ k x p. x)
  SystemLocality-len : Fixes SystemLocality-len.Learnt (λ k x p. x)
  SystemLocality-put : Fixes SystemLocality-put.Learnt (λ k x p. p.1.0.now)
  SystemLocality-initiator-place : Fixes SystemLocality-initiator-place.Learnt (λ k x p. x)
  SystemLocality-target-place : Fixes SystemLocality-target-place.Learnt (λ k x p. x)
  SystemLocality-cell-place : Fixes SystemLocality-cell-place.Learnt (λ k x p. x)
  SystemLocality-entry-place : Fixes SystemLocality-entry-place.Learnt (λ k x p. x)
  SystemLocality-set-initiator-value : Fixes SystemLocality-set-initiator-value.Learnt (λ k x p. p.0.now)
  SystemLocality-set-target-value : Fixes SystemLocality-set-target-value.Learnt (λ k x p. p.0.now)
  SystemLocality-set-entry-value : Fixes SystemLocality-set-entry-value.Learnt (λ k x p. p.0.now)
  SystemLocality-get : Fixes SystemLocality-get.Learnt (λ k x p. x)
  SystemLocality-initiator-value : Fixes SystemLocality-initiator-value.Learnt (λ k x p. x)
  SystemLocality-target-value : Fixes SystemLocality-target-value.Learnt (λ k x p. x)
  SystemLocality-entry-value : Fixes SystemLocality-entry-value.Learnt (λ k x p. x)
  SystemLocality-fits : Fixes SystemLocality-fits.Learnt (λ k x p. x)
  SystemLocality-width : Fixes SystemLocality-width.Learnt (λ k x p. x)
  SystemLocality-targets-at : Fixes SystemLocality-targets-at.Learnt (λ k x p. x)
  SystemLocality-from-body : Fixes SystemLocality-from-body.Learnt (λ k x p. x)
  SystemLocality-put-body : Fixes {S = ℕ × List ℕ} SystemLocality-put-body.Learnt (λ k x p. (x, p.1.0.now))
  SystemLocality-put-fields : Fixes SystemLocality-put-fields.Learnt (λ k x p. p.1.0.now)
  SystemLocality-locality : Fixes SystemLocality-locality.Learnt (λ k x p. x)
  SystemLocality-bad-field : Fixes SystemLocality-bad-field.Learnt (λ k x p. x)
  SystemLocality-is-sound : Fixes SystemLocality-is-sound.Learnt (λ k x p. x)
  Value-initiator-kind : Fixes Value-initiator-kind.Learnt (λ k x p. x)
  Value-target-kind : Fixes Value-target-kind.Learnt (λ k x p. x)
  Value-value-at : Fixes Value-value-at.Learnt (λ k x p. x)
  Value-from-body : Fixes Value-from-body.Learnt (λ k x p. x)
  Value-put-body : Fixes {S = ℕ × List ℕ} Value-put-body.Learnt (λ k x p. (x, p.1.1.1.0.now))
  Value-bad-field : Fixes Value-bad-field.Learnt (λ k x p. x)
  Cell-kind : Fixes Cell-kind.Learnt (λ k x p. x)
  Cell-body-len : Fixes Cell-body-len.Learnt (λ k x p. x)
  Cell-target-at : Fixes Cell-target-at.Learnt (λ k x p. x)
  Cell-value-at : Fixes Cell-value-at.Learnt (λ k x p. x)
  Cell-from-body : Fixes Cell-from-body.Learnt (λ k x p. x)
  Cell-put-body : Fixes {S = ℕ × List ℕ} Cell-put-body.Learnt (λ k x p. (x, p.1.1.0.now))
  Cell-bad-field : Fixes Cell-bad-field.Learnt (λ k x p. x)
  Cell-stands : Fixes Cell-stands.Learnt (λ k x p. x)
  U32FromCacheLevel-from : Fixes U32FromCacheLevel-from.Learnt (λ k x p. x)
  U32FromAssociativity-from : Fixes U32FromAssociativity-from.Learnt (λ k x p. x)
  U32FromWritePolicy-from : Fixes U32FromWritePolicy-from.Learnt (λ k x p. x)
  MemorySideCache-new : Fixes MemorySideCache-new.Learnt (λ k x p. x)
  MemorySideCache-len : Fixes MemorySideCache-len.Learnt (λ k x p. x)
  MemorySideCache-put : Fixes MemorySideCache-put.Learnt (λ k x p. p.1.0.now)
  MemorySideCache-is-full : Fixes MemorySideCache-is-full.Learnt (λ k x p. x)
  MemorySideCache-grow : Fixes MemorySideCache-grow.Learnt (λ k x p. p.0.now)
  MemorySideCache-get : Fixes MemorySideCache-get.Learnt (λ k x p. x)
  MemorySideCache-smbios-handle : Fixes MemorySideCache-smbios-handle.Learnt (λ k x p. x)
  MemorySideCache-fits : Fixes MemorySideCache-fits.Learnt (λ k x p. x)
  MemorySideCache-from-body : Fixes MemorySideCache-from-body.Learnt (λ k x p. x)
  MemorySideCache-put-body : Fixes {S = ℕ × List ℕ} MemorySideCache-put-body.Learnt (λ k x p. (x, p.1.0.now))
  MemorySideCache-put-fields : Fixes MemorySideCache-put-fields.Learnt (λ k x p. p.1.0.now)
  MemorySideCache-total-cache-levels : Fixes MemorySideCache-total-cache-levels.Learnt (λ k x p. x)
  MemorySideCache-this-cache-level : Fixes MemorySideCache-this-cache-level.Learnt (λ k x p. x)
  MemorySideCache-associativity : Fixes MemorySideCache-associativity.Learnt (λ k x p. x)
  MemorySideCache-write-policy : Fixes MemorySideCache-write-policy.Learnt (λ k x p. x)
  MemorySideCache-cacheline-size : Fixes MemorySideCache-cacheline-size.Learnt (λ k x p. x)
  MemorySideCache-bad-field : Fixes MemorySideCache-bad-field.Learnt (λ k x p. x)
  MemorySideCache-is-sound : Fixes MemorySideCache-is-sound.Learnt (λ k x p. x)
  SmbiosHandle-from-body : Fixes SmbiosHandle-from-body.Learnt (λ k x p. x)
  SmbiosHandle-put-body : Fixes {S = ℕ × List ℕ} SmbiosHandle-put-body.Learnt (λ k x p. (x, p.1.0.now))

pub unique : Unique
unique =
    record {
      MemoryProximityDomain-new = λ k a x y p q. sole;
      MemoryProximityDomain-len = λ k a x y p q. sole;
      MemoryProximityDomain-put = λ k a x y p q. sole;
      MemoryProximityDomain-get = λ k a x y p q. one-domain x y _;
      MemoryProximityDomain-is-fixed = λ k a x y p q. sole;
      MemoryProximityDomain-from-body = λ k a x y p q. one-domain x y _;
      MemoryProximityDomain-put-body = λ k a x y p q l m. sole-pair (sole l.1 m.1) (sole l.0 m.0);
      MemoryProximityDomain-put-fields = λ k a x y p q. sole;
      U8FromDataType-from = λ k a x y p q. sole;
      U8FromMinTransferSize-from = λ k a x y p q. sole;
      U8FromLocalityType-from = λ k a x y p q. sole;
      SystemLocality-new = λ k a x y p q. sole;
      SystemLocality-non-sequential-transfers = λ k a x y p q. sole;
      SystemLocality-minimum-transfer-size-required = λ k a x y p q. sole;
      SystemLocality-len = λ k a x y p q. sole;
      SystemLocality-put = λ k a x y p q. sole;
      SystemLocality-initiator-place = λ k a x y p q. sole;
      SystemLocality-target-place = λ k a x y p q. sole;
      SystemLocality-cell-place = λ k a x y p q. sole;
      SystemLocality-entry-place = λ k a x y p q. sole;
      SystemLocality-set-initiator-value = λ k a x y p q. sole;
      SystemLocality-set-target-value = λ k a x y p q. sole;
      SystemLocality-set-entry-value = λ k a x y p q. sole;
      SystemLocality-get = λ k a x y p q l m. one-matrix x y _ (l byte) (m byte);
      SystemLocality-initiator-value = λ k a x y p q. sole;
      SystemLocality-target-value = λ k a x y p q. sole;
      SystemLocality-entry-value = λ k a x y p q. sole;
      SystemLocality-fits = λ k a x y p q. sole;
      SystemLocality-width = λ k a x y p q. one_width x y _;
      SystemLocality-targets-at = λ k a x y p q. sole;
      SystemLocality-from-body = λ k a x y p q. one-matrix-body x y _;
      SystemLocality-put-body = λ k a x y p q l m. sole-pair (sole l.1 m.1) (sole l.0 m.0);
      SystemLocality-put-fields = λ k a x y p q. sole;
      SystemLocality-locality = λ k a x y p q. sole;
      SystemLocality-bad-field = λ k a x y p q. sole;
      SystemLocality-is-sound = λ k a x y p q l m. sole (l byte) (m byte);
      Value-initiator-kind = λ k a x y p q. sole;
      Value-target-kind = λ k a x y p q. sole;
      Value-value-at = λ k a x y p q. sole;
      Value-from-body = λ k a x y p q. one_value x y _;
      Value-put-body = λ k a x y p q l m. sole-pair (sole l.1 m.1) (sole l.0 m.0);
      Value-bad-field = λ k a x y p q l m. sole (l byte) (m byte);
      Cell-kind = λ k a x y p q. sole;
      Cell-body-len = λ k a x y p q. sole;
      Cell-target-at = λ k a x y p q. sole;
      Cell-value-at = λ k a x y p q. sole;
      Cell-from-body = λ k a x y p q. one_cell x y _;
      Cell-put-body = λ k a x y p q l m. sole-pair (sole l.1 m.1) (sole l.0 m.0);
      Cell-bad-field = λ k a x y p q. sole;
      Cell-stands = λ k a x y p q. sole;
      U32FromCacheLevel-from = λ k a x y p q. sole;
      U32FromAssociativity-from = λ k a x y p q. sole;
      U32FromWritePolicy-from = λ k a x y p q. sole;
      MemorySideCache-new = λ k a x y p q. sole;
      MemorySideCache-len = λ k a x y p q. sole;
      MemorySideCache-put = λ k a x y p q. sole;
      MemorySideCache-is-full = λ k a x y p q. sole;
      MemorySideCache-grow = λ k a x y p q. sole;
      MemorySideCache-get = λ k a x y p q. one_side x y _;
      MemorySideCache-smbios-handle = λ k a x y p q. one_number x y _;
      MemorySideCache-fits = λ k a x y p q. sole;
      MemorySideCache-from-body = λ k a x y p q. one_side x y _;
      MemorySideCache-put-body = λ k a x y p q l m. sole-pair (sole l.1 m.1) (sole l.0 m.0);
      MemorySideCache-put-fields = λ k a x y p q. sole;
      MemorySideCache-total-cache-levels = λ k a x y p q. sole;
      MemorySideCache-this-cache-level = λ k a x y p q. sole;
      MemorySideCache-associativity = λ k a x y p q. sole;
      MemorySideCache-write-policy = λ k a x y p q. sole;
      MemorySideCache-cacheline-size = λ k a x y p q. sole;
      MemorySideCache-bad-field = λ k a x y p q. sole;
      MemorySideCache-is-sound = λ k a x y p q. sole;
      SmbiosHandle-from-body = λ k a x y p q. one-handle x y _;
      SmbiosHandle-put-body = λ k a x y p q l m. sole-pair (sole l.1 m.1) (sole l.0 m.0);
    }
