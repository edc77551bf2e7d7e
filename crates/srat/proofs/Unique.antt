-- Two records that meet one contract are equal: the node of a record is all of it; for an initiator by its handle.
use mathlib.Core.Path.{◌≡◌, refl}
use Prim.Native.Nat.{ℕ}
use mathlib.Core.List.{List, [], ◌∷◌, ◌++◌}
use lib.ListN.{length}
use lib.Dec.{eqb}
use Rattle.format.specs.Bytes.{pick, at}
use Rattle.format.specs.Node.{Node}
use Rattle.laws.specs.Unique.{Fixes}
use Rattle.laws.proofs.Sole.{sole, sole-meant, sole-pair}
use Rattle.srat.specs.declared.Handle.{Handle}
use Rattle.srat.specs.declared.Handle.TheVariants.{Acpi, Pci}
use Rattle.srat.specs.declared.MemoryAffinity.{MemoryAffinity}
use Rattle.srat.specs.declared.GenericInitiator.{GenericInitiator}
use Rattle.srat.specs.declared.RintcAffinity.{RintcAffinity}
use Rattle.srat.specs.declared.OldRintcAffinity.{OldRintcAffinity}
use Rattle.srat.specs.Srat.{handle_values, memory_node, initiator_node, rintc_node, old_rintc_node}
use Rattle.srat.proofs.MemoryAffinity.new.Reads as MemoryAffinity-new
use Rattle.srat.proofs.MemoryAffinity.enabled.Reads as MemoryAffinity-enabled
use Rattle.srat.proofs.MemoryAffinity.hotpluggable.Reads as MemoryAffinity-hotpluggable
use Rattle.srat.proofs.MemoryAffinity.nonvolatile.Reads as MemoryAffinity-nonvolatile
use Rattle.srat.proofs.MemoryAffinity.len.Reads as MemoryAffinity-len
use Rattle.srat.proofs.MemoryAffinity.put.Reads as MemoryAffinity-put
use Rattle.srat.proofs.MemoryAffinity.get.Reads as MemoryAffinity-get
use Rattle.srat.proofs.MemoryAffinity.from_body.Reads as MemoryAffinity-from-body
use Rattle.srat.proofs.MemoryAffinity.put_body.Reads as MemoryAffinity-put-body
use Rattle.srat.proofs.MemoryAffinity.put_fields.Reads as MemoryAffinity-put-fields
use Rattle.srat.proofs.MemoryAffinity.bad_field.Reads as MemoryAffinity-bad-field
use Rattle.srat.proofs.MemoryAffinity.is_sound.Reads as MemoryAffinity-is-sound
use Rattle.srat.proofs.Handle.new_acpi.Reads as Handle-new-acpi
use Rattle.srat.proofs.Handle.new_pci.Reads as Handle-new-pci
use Rattle.srat.proofs.GenericInitiator.new.Reads as GenericInitiator-new
use Rattle.srat.proofs.GenericInitiator.enabled.Reads as GenericInitiator-enabled
use Rattle.srat.proofs.GenericInitiator.architectural.Reads as GenericInitiator-architectural
use Rattle.srat.proofs.GenericInitiator.len.Reads as GenericInitiator-len
use Rattle.srat.proofs.GenericInitiator.put.Reads as GenericInitiator-put
use Rattle.srat.proofs.GenericInitiator.get.Reads as GenericInitiator-get
use Rattle.srat.proofs.GenericInitiator.from_acpi_body.Reads as GenericInitiator-from-acpi-body
use Rattle.srat.proofs.GenericInitiator.from_pci_body.Reads as GenericInitiator-from-pci-body
use Rattle.srat.proofs.GenericInitiator.put_body.Reads as GenericInitiator-put-body
use Rattle.srat.proofs.GenericInitiator.fields_count.Reads as GenericInitiator-fields-count
use Rattle.srat.proofs.GenericInitiator.put_fields.Reads as GenericInitiator-put-fields
use Rattle.srat.proofs.GenericInitiator.bad_field.Reads as GenericInitiator-bad-field
use Rattle.srat.proofs.GenericInitiator.is_sound.Reads as GenericInitiator-is-sound
use Rattle.srat.proofs.RintcAffinity.new.Reads as RintcAffinity-new
use Rattle.srat.proofs.RintcAffinity.enabled.Reads as RintcAffinity-enabled
use Rattle.srat.proofs.RintcAffinity.len.Reads as RintcAffinity-len
use Rattle.srat.proofs.RintcAffinity.put.Reads as RintcAffinity-put
use Rattle.srat.proofs.RintcAffinity.get.Reads as RintcAffinity-get
use Rattle.srat.proofs.RintcAffinity.from_body.Reads as RintcAffinity-from-body
use Rattle.srat.proofs.RintcAffinity.put_body.Reads as RintcAffinity-put-body
use Rattle.srat.proofs.RintcAffinity.put_fields.Reads as RintcAffinity-put-fields
use Rattle.srat.proofs.RintcAffinity.bad_field.Reads as RintcAffinity-bad-field
use Rattle.srat.proofs.RintcAffinity.is_sound.Reads as RintcAffinity-is-sound
use Rattle.srat.proofs.OldRintcAffinity.get.Reads as OldRintcAffinity-get
use Rattle.srat.proofs.OldRintcAffinity.put_fields.Reads as OldRintcAffinity-put-fields
use Rattle.srat.proofs.OldRintcAffinity.is_sound.Reads as OldRintcAffinity-is-sound

abbrev memory_in : Node → MemoryAffinity
memory_in n = record { proximity_domain = at n.values 0; base_address = at n.values 1; length = at n.values 2; flags = at n.values 3 }

-- `MemoryAffinity::get`
one-memory : (a b : MemoryAffinity) (n : Node) → memory_node a ≡ n → memory_node b ≡ n → a ≡ b
one-memory = sole-meant memory_node memory_in (λ m. refl)

abbrev rintc_in : Node → RintcAffinity
rintc_in n = record { proximity_domain = at n.values 0; acpi_processor_uid = at n.values 1; flags = at n.values 2; clock_domain = at n.values 3 }

-- `RintcAffinity::get`
one-rintc : (a b : RintcAffinity) (n : Node) → rintc_node a ≡ n → rintc_node b ≡ n → a ≡ b
one-rintc = sole-meant rintc_node rintc_in (λ r. refl)

abbrev old_rintc_in : Node → OldRintcAffinity
old_rintc_in n = record { acpi_processor_uid = at n.values 0; flags = at n.values 1; clock_domain = at n.values 2 }

-- `OldRintcAffinity::get`
one-old-rintc : (a b : OldRintcAffinity) (n : Node) → old_rintc_node a ≡ n → old_rintc_node b ≡ n → a ≡ b
one-old-rintc = sole-meant old_rintc_node old_rintc_in (λ r. refl)

-- four values have an ACPI handle among them, six a PCI handle
abbrev initiator_of : List ℕ → GenericInitiator
initiator_of vs =
    pick (eqb (length vs) 4)
    (record { proximity_domain = at vs 0; handle = Acpi (at vs 1) (at vs 2); flags = at vs 3 })
    (record { proximity_domain = at vs 0; handle = Pci (at vs 1) (at vs 2) (at vs 3) (at vs 4); flags = at vs 5 })

initiator-back : (domain flags : ℕ) (h : Handle) → initiator_of (domain ∷ (handle_values h ++ (flags ∷ []))) ≡ record { proximity_domain = domain; handle = h; flags = flags }
initiator-back domain flags (Acpi hid uid) = refl
initiator-back domain flags (Pci segment bus device function) = refl

-- `GenericInitiator::get`
one-initiator : (a b : GenericInitiator) (n : Node) → initiator_node a ≡ n → initiator_node b ≡ n → a ≡ b
one-initiator = sole-meant initiator_node (λ (n : Node). initiator_of n.values) (λ i. initiator-back i.proximity_domain i.flags i.handle)

-- ---- the contracts

-- for each public function: what its contract fixes of the result `x` and of the parameters afterwards, `p`
pub record Unique : Type 0 where
  MemoryAffinity-new : Fixes MemoryAffinity-new.Learnt (λ k x p. x)
  MemoryAffinity-enabled : Fixes MemoryAffinity-enabled.Learnt (λ k x p. x)
  MemoryAffinity-hotpluggable : Fixes MemoryAffinity-hotpluggable.Learnt (λ k x p. x)
  MemoryAffinity-nonvolatile : Fixes MemoryAffinity-nonvolatile.Learnt (λ k x p. x)
  MemoryAffinity-len : Fixes MemoryAffinity-len.Learnt (λ k x p. x)
  MemoryAffinity-put : Fixes MemoryAffinity-put.Learnt (λ k x p. p.1.0.now)
  MemoryAffinity-get : Fixes MemoryAffinity-get.Learnt (λ k x p. x)
  MemoryAffinity-from-body : Fixes MemoryAffinity-from-body.Learnt (λ k x p. x)
  MemoryAffinity-put-body : Fixes {S = ℕ × List ℕ} MemoryAffinity-put-body.Learnt (λ k x p. (x, p.1.0.now))
  MemoryAffinity-put-fields : Fixes MemoryAffinity-put-fields.Learnt (λ k x p. p.1.0.now)
  MemoryAffinity-bad-field : Fixes MemoryAffinity-bad-field.Learnt (λ k x p. x)
  MemoryAffinity-is-sound : Fixes MemoryAffinity-is-sound.Learnt (λ k x p. x)
  Handle-new-acpi : Fixes Handle-new-acpi.Learnt (λ k x p. x)
  Handle-new-pci : Fixes Handle-new-pci.Learnt (λ k x p. x)
  GenericInitiator-new : Fixes GenericInitiator-new.Learnt (λ k x p. x)
  GenericInitiator-enabled : Fixes GenericInitiator-enabled.Learnt (λ k x p. x)
  GenericInitiator-architectural : Fixes GenericInitiator-architectural.Learnt (λ k x p. x)
  GenericInitiator-len : Fixes GenericInitiator-len.Learnt (λ k x p. x)
  GenericInitiator-put : Fixes GenericInitiator-put.Learnt (λ k x p. p.1.0.now)
  GenericInitiator-get : Fixes GenericInitiator-get.Learnt (λ k x p. x)
  GenericInitiator-from-acpi-body : Fixes GenericInitiator-from-acpi-body.Learnt (λ k x p. x)
  GenericInitiator-from-pci-body : Fixes GenericInitiator-from-pci-body.Learnt (λ k x p. x)
  GenericInitiator-put-body : Fixes {S = ℕ × List ℕ} GenericInitiator-put-body.Learnt (λ k x p. (x, p.1.0.now))
  GenericInitiator-fields-count : Fixes GenericInitiator-fields-count.Learnt (λ k x p. x)
  GenericInitiator-put-fields : Fixes GenericInitiator-put-fields.Learnt (λ k x p. p.1.0.now)
  GenericInitiator-bad-field : Fixes GenericInitiator-bad-field.Learnt (λ k x p. x)
  GenericInitiator-is-sound : Fixes GenericInitiator-is-sound.Learnt (λ k x p. x)
  RintcAffinity-new : Fixes RintcAffinity-new.Learnt (λ k x p. x)
  RintcAffinity-enabled : Fixes RintcAffinity-enabled.Learnt (λ k x p. x)
  RintcAffinity-len : Fixes RintcAffinity-len.Learnt (λ k x p. x)
  RintcAffinity-put : Fixes RintcAffinity-put.Learnt (λ k x p. p.1.0.now)
  RintcAffinity-get : Fixes RintcAffinity-get.Learnt (λ k x p. x)
  RintcAffinity-from-body : Fixes RintcAffinity-from-body.Learnt (λ k x p. x)
  RintcAffinity-put-body : Fixes {S = ℕ × List ℕ} RintcAffinity-put-body.Learnt (λ k x p. (x, p.1.0.now))
  RintcAffinity-put-fields : Fixes RintcAffinity-put-fields.Learnt (λ k x p. p.1.0.now)
  RintcAffinity-bad-field : Fixes RintcAffinity-bad-field.Learnt (λ k x p. x)
  RintcAffinity-is-sound : Fixes RintcAffinity-is-sound.Learnt (λ k x p. x)
  OldRintcAffinity-get : Fixes OldRintcAffinity-get.Learnt (λ k x p. x)
  OldRintcAffinity-put-fields : Fixes OldRintcAffinity-put-fields.Learnt (λ k x p. p.1.0.now)
  OldRintcAffinity-is-sound : Fixes OldRintcAffinity-is-sound.Learnt (λ k x p. x)

pub unique : Unique
unique =
    record {
      MemoryAffinity-new = λ k a x y p q. sole;
      MemoryAffinity-enabled = λ k a x y p q. sole;
      MemoryAffinity-hotpluggable = λ k a x y p q. sole;
      MemoryAffinity-nonvolatile = λ k a x y p q. sole;
      MemoryAffinity-len = λ k a x y p q. sole;
      MemoryAffinity-put = λ k a x y p q. sole;
      MemoryAffinity-get = λ k a x y p q. one-memory x y _;
      MemoryAffinity-from-body = λ k a x y p q. one-memory x y _;
      MemoryAffinity-put-body = λ k a x y p q l m. sole-pair (sole l.1 m.1) (sole l.0 m.0);
      MemoryAffinity-put-fields = λ k a x y p q. sole;
      MemoryAffinity-bad-field = λ k a x y p q. sole;
      MemoryAffinity-is-sound = λ k a x y p q. sole;
      Handle-new-acpi = λ k a x y p q. sole;
      Handle-new-pci = λ k a x y p q. sole;
      GenericInitiator-new = λ k a x y p q. sole;
      GenericInitiator-enabled = λ k a x y p q. sole;
      GenericInitiator-architectural = λ k a x y p q. sole;
      GenericInitiator-len = λ k a x y p q. sole;
      GenericInitiator-put = λ k a x y p q. sole;
      GenericInitiator-get = λ k a x y p q. one-initiator x y _;
      GenericInitiator-from-acpi-body = λ k a x y p q. one-initiator x y _;
      GenericInitiator-from-pci-body = λ k a x y p q. one-initiator x y _;
      GenericInitiator-put-body = λ k a x y p q l m. sole-pair (sole l.1 m.1) (sole l.0 m.0);
      GenericInitiator-fields-count = λ k a x y p q. sole;
      GenericInitiator-put-fields = λ k a x y p q. sole;
      GenericInitiator-bad-field = λ k a x y p q. sole;
      GenericInitiator-is-sound = λ k a x y p q. sole;
      RintcAffinity-new = λ k a x y p q. sole;
      RintcAffinity-enabled = λ k a x y p q. sole;
      RintcAffinity-len = λ k a x y p q. sole;
      RintcAffinity-put = λ k a x y p q. sole;
      RintcAffinity-get = λ k a x y p q. one-rintc x y _;
      RintcAffinity-from-body = λ k a x y p q. one-rintc x y _;
      RintcAffinity-put-body = λ k a x y p q l m. sole-pair (sole l.1 m.1) (sole l.0 m.0);
      RintcAffinity-put-fields = λ k a x y p q. sole;
      RintcAffinity-bad-field = λ k a x y p q. sole;
      RintcAffinity-is-sound = λ k a x y p q. sole;
      OldRintcAffinity-get = λ k a x y p q. one-old-rintc x y _;
      OldRintcAffinity-put-fields = λ k a x y p q. sole;
      OldRintcAffinity-is-sound = λ k a x y p q. sole;
    }
