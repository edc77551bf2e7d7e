-- Two answers that meet one contract are equal: what an answer stands for names the answer, and what is shown of a record is all of it.
use mathlib.Core.Path.{◌≡◌, refl, ap}
use Prim.Native.Nat.{ℕ}
use mathlib.Core.List.{List}
use mathlib.Core.Option.{none, some}
use mathlib.Core.Option as math
use Rattle.std.specs.Prelude.{Option, Some, None, Result, Ok, Err}
use lib.Dec.{eqb}
use Rattle.format.specs.Bytes.{pick, Answer, refused, given, at}
use Rattle.format.specs.Row.{Row, processors, caches, memories, initiators, old_rintcs, domains, matrices, sides, bridges, windows, xors, rintcs}
use Rattle.format.specs.Read.{reading}
use Rattle.format.specs.Read as format
use Rattle.laws.specs.Unique.{Fixes}
use Rattle.laws.proofs.Sole.{sole, sole-meant}
use Rattle.srat.specs.declared.Handle.{Handle}
use Rattle.srat.specs.declared.Handle.TheVariants.{Acpi, Pci}
use Rattle.frames.specs.declared.Refusal.{Refusal}
use Rattle.frames.proofs.Unique.{refusal_of, refusal-back}
use Rattle.read.specs.declared.Node.{Node}
use Rattle.read.specs.declared.Node.TheVariants as node
use Rattle.read.specs.declared.Shown.{Shown}
use Rattle.read.specs.declared.Reading.{Reading}
use Rattle.read.specs.Answers.{node_row, node_fields, row_in, fields_in, shown_as, accepted_as, shown}
use Rattle.read.proofs.accept.Reads as accept
use Rattle.read.proofs.first_place.Reads as first-place
use Rattle.read.proofs.record_at.Reads as record-at
use Rattle.read.proofs.part_at.Reads as part_at
use Rattle.read.proofs.read.Reads as read
use Rattle.read.proofs.part.Reads as part

-- ---- records

-- type 0 ACPI: hid, uid; else PCI: segment, bus, device, function
abbrev handle_of : List ℕ → Handle
handle_of vs = pick (eqb (at vs 0) 0) (Acpi (at vs 2) (at vs 3)) (Pci (at vs 2) (at vs 3) (at vs 4) (at vs 5))

abbrev named_node : Row → List ℕ → Node
named_node processors vs = node.Processor (record { flags = at vs 0; parent = record { 0 = at vs 1 }; acpi_processor_id = at vs 2; resources = at vs 3 })
named_node caches vs =
    node.Cache (record { flags = at vs 0; next_level = record { 0 = at vs 1 }; size = at vs 2; set_count = at vs 3; associativity = at vs 4; attributes = at vs 5; line_size = at vs 6; id = at vs 7 })
named_node memories vs = node.Memory (record { proximity_domain = at vs 0; base_address = at vs 1; length = at vs 2; flags = at vs 3 })
named_node initiators vs = node.Initiator (record { proximity_domain = at vs 1; handle = handle_of vs; flags = pick (eqb (at vs 0) 0) (at vs 4) (at vs 6) })
named_node old_rintcs vs = node.OldRintc (record { acpi_processor_uid = at vs 0; flags = at vs 1; clock_domain = at vs 2 })
named_node domains vs = node.Domain (record { proximity_domain_initiator = at vs 0; proximity_domain_memory = at vs 1 })
named_node (matrices w) vs =
    node.Matrix (record { flags = at vs 0; data_type = at vs 1; min_transfer_size = at vs 2; entry_base_unit = at vs 5; initiators = at vs 3; targets = at vs 4 })
named_node sides vs = node.Side (record { proximity_domain = at vs 0; cache_size = at vs 1; attributes = at vs 2; smbios_handles = at vs 3 })
named_node bridges vs = node.Bridge (record { host_bridge_uid = at vs 0; cxl_version = at vs 1; port_base = at vs 2 })
named_node windows vs =
    node.Window (record { base_addr = at vs 0; size = at vs 1; interleave_ways = at vs 2; interleave_arithmetic = at vs 3; interleave_granularity = at vs 4; window_restrictions = at vs 5; qtg_id = at vs 6 })
named_node xors vs = node.Xor (record { granularity = at vs 0; xormaps = at vs 1 })
named_node rintcs vs = node.Rintc (record { proximity_domain = at vs 0; acpi_processor_uid = at vs 1; flags = at vs 2; clock_domain = at vs 3 })

initiator-back : (d f : ℕ) (h : Handle) → named_node initiators (node_fields (node.Initiator (record { proximity_domain = d; handle = h; flags = f }))) ≡ node.Initiator (record { proximity_domain = d; handle = h; flags = f })
initiator-back d f (Acpi h u) = refl
initiator-back d f (Pci s b v k) = refl

node-back : (n : Node) → named_node (node_row n) (node_fields n) ≡ n
node-back (node.Processor n) = refl
node-back (node.Cache n) = refl
node-back (node.Memory n) = refl
node-back (node.Initiator n) = initiator-back n.proximity_domain n.flags n.handle
node-back (node.OldRintc n) = refl
node-back (node.Domain n) = refl
node-back (node.Matrix n) = refl
node-back (node.Side n) = refl
node-back (node.Bridge n) = refl
node-back (node.Window n) = refl
node-back (node.Xor n) = refl
node-back (node.Rintc n) = refl

abbrev node_of : math.Option Row → List ℕ → Option Node
node_of none vs = None
node_of (some r) vs = Some (named_node r vs)

node_back : (o : Option Node) → node_of (row_in o) (fields_in o) ≡ o
node_back None = refl
node_back (Some n) = ap (λ (m : Node). Some m) (node-back n)

abbrev record_of : format.Reading → Shown
record_of (reading count ty place length row fields) = record { ty = ty; place = place; length = length; node = node_of row fields }

record-back : (count : ℕ) (s : Shown) → record_of (shown_as count s) ≡ s
record-back count s = ap (λ (o : Option Node). record { ty = s.ty; place = s.place; length = s.length; node = o }) (node_back s.node)

-- ---- answers

abbrev accepted_of : Answer ℕ → Result ℕ Refusal
accepted_of (refused k p) = Err (refusal_of k p)
accepted_of (given n) = Ok n

accepted-back : (a : Result ℕ Refusal) → accepted_of (accepted_as a) ≡ a
accepted-back (Ok n) = refl
accepted-back (Err r) = ap (λ (q : Refusal). Err q) (refusal-back r)

abbrev count_of : format.Reading → ℕ
count_of (reading count ty place length row fields) = count

abbrev reply_of : Answer format.Reading → Result Reading Refusal
reply_of (refused k p) = Err (refusal_of k p)
reply_of (given r) = Ok (record { count = count_of r; «record» = record_of r })

reply-back : (a : Result Reading Refusal) → reply_of (shown a) ≡ a
reply-back (Ok r) = ap (λ (s : Shown). Ok (record { count = r.count; «record» = s })) (record-back r.count r.«record»)
reply-back (Err r) = ap (λ (q : Refusal). Err q) (refusal-back r)

-- `record_at`
one-record : (a b : Shown) (r : ℕ → format.Reading) → ((count : ℕ) → shown_as count a ≡ r count) → ((count : ℕ) → shown_as count b ≡ r count) → a ≡ b
one-record a b r e f = sole-meant (shown_as 0) record_of (record-back 0) a b (r 0) (e 0) (f 0)

-- `accept`
one-judgement : (a b : Result ℕ Refusal) (n : Answer ℕ) → accepted_as a ≡ n → accepted_as b ≡ n → a ≡ b
one-judgement = sole-meant accepted_as accepted_of accepted-back

-- `read`
one-reply : (a b : Result Reading Refusal) (r : Answer format.Reading) → shown a ≡ r → shown b ≡ r → a ≡ b
one-reply = sole-meant shown reply_of reply-back

-- ---- the contracts

-- for each public function: what its contract fixes of the result `x` and of the parameters afterwards, `p`
pub record Unique : Type 0 where
  accept : Fixes accept.Learnt (λ k x p. x)
  first-place : Fixes first-place.Learnt (λ k x p. x)
  record-at : Fixes record-at.Learnt (λ k x p. x)
  part_at : Fixes part_at.Learnt (λ k x p. x.now)
  read : Fixes read.Learnt (λ k x p. x)
  part : Fixes part.Learnt (λ k x p. x.now)

pub unique : Unique
unique =
    record {
      accept = λ k a x y p q. one-judgement x y _;
      first-place = λ k a x y p q. sole;
      record-at = λ k a x y p q. one-record x y _;
      part_at = λ k a x y p q. sole;
      read = λ k a x y p q. one-reply x y _;
      part = λ k a x y p q. sole;
    }
