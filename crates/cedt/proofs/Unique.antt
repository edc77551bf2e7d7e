-- Two records that meet one contract are equal: what the format shows of a node, its count among it, is all of the record.
use mathlib.Core.Path.{◌≡◌, refl}
use Prim.Native.Nat.{ℕ}
use mathlib.Core.List.{List}
use Rattle.format.specs.Bytes.{at}
use Rattle.format.specs.Node.{Node}
use Rattle.format.specs.Read.{shown}
use Rattle.laws.specs.Unique.{Fixes}
use Rattle.laws.proofs.Sole.{sole, sole-meant, sole-pair}
use Rattle.cedt.specs.declared.CxlHostBridge.{CxlHostBridge}
use Rattle.cedt.specs.declared.CxlFixedMemory.{CxlFixedMemory}
use Rattle.cedt.specs.declared.CxlTarget.{CxlTarget}
use Rattle.cedt.specs.declared.XorInterleaveMath.{XorInterleaveMath}
use Rattle.cedt.specs.declared.XorMap.{XorMap}
use Rattle.cedt.specs.Cedt.{bridge_shown, bridge_node, window_fields, window_node, target_fields, maths_head, map_fields}
use Rattle.cedt.proofs.U32FromCxlVersion.from.Reads as U32FromCxlVersion-from
use Rattle.cedt.proofs.CxlVersion.len.Reads as CxlVersion-len
use Rattle.cedt.proofs.CxlHostBridge.new.Reads as CxlHostBridge-new
use Rattle.cedt.proofs.CxlHostBridge.len.Reads as CxlHostBridge-len
use Rattle.cedt.proofs.CxlHostBridge.registers.Reads as CxlHostBridge-registers
use Rattle.cedt.proofs.CxlHostBridge.put.Reads as CxlHostBridge-put
use Rattle.cedt.proofs.CxlHostBridge.get.Reads as CxlHostBridge-get
use Rattle.cedt.proofs.CxlHostBridge.fits.Reads as CxlHostBridge-fits
use Rattle.cedt.proofs.CxlHostBridge.from_body.Reads as CxlHostBridge-from-body
use Rattle.cedt.proofs.CxlHostBridge.put_body.Reads as CxlHostBridge-put-body
use Rattle.cedt.proofs.CxlHostBridge.put_fields.Reads as CxlHostBridge-put-fields
use Rattle.cedt.proofs.CxlHostBridge.bad_field.Reads as CxlHostBridge-bad-field
use Rattle.cedt.proofs.CxlHostBridge.is_sound.Reads as CxlHostBridge-is-sound
use Rattle.cedt.proofs.U8FromInterleaveArithmetic.from.Reads as U8FromInterleaveArithmetic-from
use Rattle.cedt.proofs.U8FromInterleaveGranularity.from.Reads as U8FromInterleaveGranularity-from
use Rattle.cedt.proofs.U8FromInterleaveWays.from.Reads as U8FromInterleaveWays-from
use Rattle.cedt.proofs.CxlFixedMemory.new.Reads as CxlFixedMemory-new
use Rattle.cedt.proofs.CxlFixedMemory.cxl_type_2_memory.Reads as CxlFixedMemory-cxl-type-2-memory
use Rattle.cedt.proofs.CxlFixedMemory.cxl_type_3_memory.Reads as CxlFixedMemory-cxl-type-3-memory
use Rattle.cedt.proofs.CxlFixedMemory.volatile.Reads as CxlFixedMemory-volatile
use Rattle.cedt.proofs.CxlFixedMemory.persistent.Reads as CxlFixedMemory-persistent
use Rattle.cedt.proofs.CxlFixedMemory.fixed_configuration.Reads as CxlFixedMemory-fixed-configuration
use Rattle.cedt.proofs.CxlFixedMemory.num_interleaved_ways.Reads as CxlFixedMemory-num-interleaved-ways
use Rattle.cedt.proofs.CxlFixedMemory.len.Reads as CxlFixedMemory-len
use Rattle.cedt.proofs.CxlFixedMemory.put.Reads as CxlFixedMemory-put
use Rattle.cedt.proofs.CxlFixedMemory.add_target.Reads as CxlFixedMemory-add-target
use Rattle.cedt.proofs.CxlFixedMemory.get.Reads as CxlFixedMemory-get
use Rattle.cedt.proofs.CxlFixedMemory.target_place.Reads as CxlFixedMemory-target-place
use Rattle.cedt.proofs.CxlFixedMemory.interleave_target.Reads as CxlFixedMemory-interleave-target
use Rattle.cedt.proofs.CxlFixedMemory.fits.Reads as CxlFixedMemory-fits
use Rattle.cedt.proofs.CxlFixedMemory.from_body.Reads as CxlFixedMemory-from-body
use Rattle.cedt.proofs.CxlFixedMemory.put_body.Reads as CxlFixedMemory-put-body
use Rattle.cedt.proofs.CxlFixedMemory.put_fields.Reads as CxlFixedMemory-put-fields
use Rattle.cedt.proofs.CxlFixedMemory.bad_field.Reads as CxlFixedMemory-bad-field
use Rattle.cedt.proofs.CxlFixedMemory.is_sound.Reads as CxlFixedMemory-is-sound
use Rattle.cedt.proofs.CxlTarget.from_body.Reads as CxlTarget-from-body
use Rattle.cedt.proofs.CxlTarget.put_body.Reads as CxlTarget-put-body
use Rattle.cedt.proofs.XorInterleaveMath.new.Reads as XorInterleaveMath-new
use Rattle.cedt.proofs.XorInterleaveMath.len.Reads as XorInterleaveMath-len
use Rattle.cedt.proofs.XorInterleaveMath.put.Reads as XorInterleaveMath-put
use Rattle.cedt.proofs.XorInterleaveMath.is_full.Reads as XorInterleaveMath-is-full
use Rattle.cedt.proofs.XorInterleaveMath.add_xormap.Reads as XorInterleaveMath-add-xormap
use Rattle.cedt.proofs.XorInterleaveMath.get.Reads as XorInterleaveMath-get
use Rattle.cedt.proofs.XorInterleaveMath.xormap.Reads as XorInterleaveMath-xormap
use Rattle.cedt.proofs.XorInterleaveMath.fits.Reads as XorInterleaveMath-fits
use Rattle.cedt.proofs.XorInterleaveMath.from_body.Reads as XorInterleaveMath-from-body
use Rattle.cedt.proofs.XorInterleaveMath.put_body.Reads as XorInterleaveMath-put-body
use Rattle.cedt.proofs.XorInterleaveMath.put_fields.Reads as XorInterleaveMath-put-fields
use Rattle.cedt.proofs.XorInterleaveMath.bad_field.Reads as XorInterleaveMath-bad-field
use Rattle.cedt.proofs.XorInterleaveMath.is_sound.Reads as XorInterleaveMath-is-sound
use Rattle.cedt.proofs.XorMap.from_body.Reads as XorMap-from-body
use Rattle.cedt.proofs.XorMap.put_body.Reads as XorMap-put-body

abbrev bridge_in : List ℕ → CxlHostBridge
bridge_in vs = record { host_bridge_uid = at vs 0; cxl_version = at vs 1; port_base = at vs 2 }

-- `CxlHostBridge::get`
one-bridge : (a b : CxlHostBridge) (n : Node) → bridge_node a ≡ n → bridge_node b ≡ n → a ≡ b
one-bridge = sole-meant bridge_node (λ (n : Node). bridge_in n.values) (λ b. refl)

-- `CxlHostBridge::from_body`
one-bridge-body : (a b : CxlHostBridge) (vs : List ℕ) → bridge_shown a ≡ vs → bridge_shown b ≡ vs → a ≡ b
one-bridge-body = sole-meant bridge_shown bridge_in (λ b. refl)

abbrev window_in : List ℕ → CxlFixedMemory
window_in vs =
    record { base_addr = at vs 0; size = at vs 1; interleave_ways = at vs 2; interleave_arithmetic = at vs 3; interleave_granularity = at vs 4; window_restrictions = at vs 5; qtg_id = at vs 6 }

-- `CxlFixedMemory::get`
one-window : (a b : CxlFixedMemory) (n : Node) → window_node a ≡ n → window_node b ≡ n → a ≡ b
one-window = sole-meant window_node (λ (n : Node). window_in n.values) (λ w. refl)

-- `CxlFixedMemory::from_body`
one-window-body : (a b : CxlFixedMemory) (vs : List ℕ) → window_fields a ≡ vs → window_fields b ≡ vs → a ≡ b
one-window-body = sole-meant window_fields window_in (λ w. refl)

abbrev maths_in : List ℕ → XorInterleaveMath
maths_in vs = record { granularity = at vs 0; xormaps = at vs 1 }

-- `XorInterleaveMath::get`, `XorInterleaveMath::from_body`
one-maths : (a b : XorInterleaveMath) (n : Node) → maths_head a ≡ n → maths_head b ≡ n → a ≡ b
unfolding shown
one-maths = sole-meant maths_head (λ (n : Node). maths_in (shown n.form n.values)) (λ m. refl)

-- ---- what a record lists

abbrev target_from : ℕ → CxlTarget
target_from v = record { 0 = v }

-- `CxlFixedMemory::interleave_target`
one-target : (a b : CxlTarget) (n : ℕ) → a.0 ≡ n → b.0 ≡ n → a ≡ b
one-target = sole-meant (λ (t : CxlTarget). t.0) target_from (λ t. refl)

-- `CxlTarget::from_body`
one-target-body : (a b : CxlTarget) (vs : List ℕ) → target_fields a ≡ vs → target_fields b ≡ vs → a ≡ b
one-target-body = sole-meant target_fields (λ (vs : List ℕ). target_from (at vs 0)) (λ t. refl)

abbrev map_from : ℕ → XorMap
map_from v = record { 0 = v }

-- `XorInterleaveMath::xormap`
one_map : (a b : XorMap) (n : ℕ) → a.0 ≡ n → b.0 ≡ n → a ≡ b
one_map = sole-meant (λ (m : XorMap). m.0) map_from (λ m. refl)

-- `XorMap::from_body`
one-map-body : (a b : XorMap) (vs : List ℕ) → map_fields a ≡ vs → map_fields b ≡ vs → a ≡ b
one-map-body = sole-meant map_fields (λ (vs : List ℕ). map_from (at vs 0)) (λ m. refl)

-- ---- the contracts

-- for each public function: what its contract fixes of the result `x` and of the parameters afterwards, `p`
pub record Unique : Type 0 where
  U32FromCxlVersion-from : Fixes U32FromCxlVersion-from.Learnt (λ k x p. x)
  CxlVersion-len : Fixes CxlVersion-len.Learnt (λ k x p. x)
  CxlHostBridge-new : Fixes CxlHostBridge-new.Learnt (λ k x p. x)
  CxlHostBridge-len : Fixes CxlHostBridge-len.Learnt (λ k x p. x)
  CxlHostBridge-registers : Fixes CxlHostBridge-registers.Learnt (λ k x p. x)
  CxlHostBridge-put : Fixes CxlHostBridge-put.Learnt (λ k x p. p.1.0.now)
  CxlHostBridge-get : Fixes CxlHostBridge-get.Learnt (λ k x p. x)
  CxlHostBridge-fits : Fixes CxlHostBridge-fits.Learnt (λ k x p. x)
  CxlHostBridge-from-body : Fixes CxlHostBridge-from-body.Learnt (λ k x p. x)
  CxlHostBridge-put-body : Fixes {S = ℕ × List ℕ} CxlHostBridge-put-body.Learnt (λ k x p. (x, p.1.0.now))
  CxlHostBridge-put-fields : Fixes CxlHostBridge-put-fields.Learnt (λ k x p. p.1.0.now)
  CxlHostBridge-bad-field : Fixes CxlHostBridge-bad-field.Learnt (λ k x p. x)
  CxlHostBridge-is-sound : Fixes CxlHostBridge-is-sound.Learnt (λ k x p. x)
  U8FromInterleaveArithmetic-from : Fixes U8FromInterleaveArithmetic-from.Learnt (λ k x p. x)
  U8FromInterleaveGranularity-from : Fixes U8FromInterleaveGranularity-from.Learnt (λ k x p. x)
  U8FromInterleaveWays-from : Fixes U8FromInterleaveWays-from.Learnt (λ k x p. x)
  CxlFixedMemory-new : Fixes CxlFixedMemory-new.Learnt (λ k x p. x)
  CxlFixedMemory-cxl-type-2-memory : Fixes CxlFixedMemory-cxl-type-2-memory.Learnt (λ k x p. x)
  CxlFixedMemory-cxl-type-3-memory : Fixes CxlFixedMemory-cxl-type-3-memory.Learnt (λ k x p. x)
  CxlFixedMemory-volatile : Fixes CxlFixedMemory-volatile.Learnt (λ k x p. x)
  CxlFixedMemory-persistent : Fixes CxlFixedMemory-persistent.Learnt (λ k x p. x)
  CxlFixedMemory-fixed-configuration : Fixes CxlFixedMemory-fixed-configuration.Learnt (λ k x p. x)
  CxlFixedMemory-num-interleaved-ways : Fixes CxlFixedMemory-num-interleaved-ways.Learnt (λ k x p. x)
  CxlFixedMemory-len : Fixes CxlFixedMemory-len.Learnt (λ k x p. x)
  CxlFixedMemory-put : Fixes CxlFixedMemory-put.Learnt (λ k x p. p.1.0.now)
  CxlFixedMemory-add-target : Fixes CxlFixedMemory-add-target.Learnt (λ k x p. p.0.now)
  CxlFixedMemory-get : Fixes CxlFixedMemory-get.Learnt (λ k x p. x)
  CxlFixedMemory-target-place : Fixes CxlFixedMemory-target-place.Learnt (λ k x p. x)
  CxlFixedMemory-interleave-target : Fixes CxlFixedMemory-interleave-target.Learnt (λ k x p. x)
  CxlFixedMemory-fits : Fixes CxlFixedMemory-fits.Learnt (λ k x p. x)
  CxlFixedMemory-from-body : Fixes CxlFixedMemory-from-body.Learnt (λ k x p. x)
  CxlFixedMemory-put-body : Fixes {S = ℕ × List ℕ} CxlFixedMemory-put-body.Learnt (λ k x p. (x, p.1.0.now))
  CxlFixedMemory-put-fields : Fixes CxlFixedMemory-put-fields.Learnt (λ k x p. p.1.0.now)
  CxlFixedMemory-bad-field : Fixes CxlFixedMemory-bad-field.Learnt (λ k x p. x)
  CxlFixedMemory-is-sound : Fixes CxlFixedMemory-is-sound.Learnt (λ k x p. x)
  CxlTarget-from-body : Fixes CxlTarget-from-body.Learnt (λ k x p. x)
  CxlTarget-put-body : Fixes {S = ℕ × List ℕ} CxlTarget-put-body.Learnt (λ k x p. (x, p.1.0.now))
  XorInterleaveMath-new : Fixes XorInterleaveMath-new.Learnt (λ k x p. x)
  XorInterleaveMath-len : Fixes XorInterleaveMath-len.Learnt (λ k x p. x)
  XorInterleaveMath-put : Fixes XorInterleaveMath-put.Learnt (λ k x p. p.1.0.now)
  XorInterleaveMath-is-full : Fixes XorInterleaveMath-is-full.Learnt (λ k x p. x)
  XorInterleaveMath-add-xormap : Fixes XorInterleaveMath-add-xormap.Learnt (λ k x p. p.0.now)
  XorInterleaveMath-get : Fixes XorInterleaveMath-get.Learnt (λ k x p. x)
  XorInterleaveMath-xormap : Fixes XorInterleaveMath-xormap.Learnt (λ k x p. x)
  XorInterleaveMath-fits : Fixes XorInterleaveMath-fits.Learnt (λ k x p. x)
  XorInterleaveMath-from-body : Fixes XorInterleaveMath-from-body.Learnt (λ k x p. x)
  XorInterleaveMath-put-body : Fixes {S = ℕ × List ℕ} XorInterleaveMath-put-body.Learnt (λ k x p. (x, p.1.0.now))
  XorInterleaveMath-put-fields : Fixes XorInterleaveMath-put-fields.Learnt (λ k x p. p.1.0.now)
  XorInterleaveMath-bad-field : Fixes XorInterleaveMath-bad-field.Learnt (λ k x p. x)
  XorInterleaveMath-is-sound : Fixes XorInterleaveMath-is-sound.Learnt (λ k x p. x)
  XorMap-from-body : Fixes XorMap-from-body.Learnt (λ k x p. x)
  XorMap-put-body : Fixes {S = ℕ × List ℕ} XorMap-put-body.Learnt (λ k x p. (x, p.1.0.now))

pub unique : Unique
unique =
    record {
      U32FromCxlVersion-from = λ k a x y p q. sole;
      CxlVersion-len = λ k a x y p q. sole;
      CxlHostBridge-new = λ k a x y p q. sole;
      CxlHostBridge-len = λ k a x y p q. sole;
      CxlHostBridge-registers = λ k a x y p q. sole;
      CxlHostBridge-put = λ k a x y p q. sole;
      CxlHostBridge-get = λ k a x y p q. one-bridge x y _;
      CxlHostBridge-fits = λ k a x y p q. sole;
      CxlHostBridge-from-body = λ k a x y p q. one-bridge-body x y _;
      CxlHostBridge-put-body = λ k a x y p q l m. sole-pair (sole l.1 m.1) (sole l.0 m.0);
      CxlHostBridge-put-fields = λ k a x y p q. sole;
      CxlHostBridge-bad-field = λ k a x y p q. sole;
      CxlHostBridge-is-sound = λ k a x y p q. sole;
      U8FromInterleaveArithmetic-from = λ k a x y p q. sole;
      U8FromInterleaveGranularity-from = λ k a x y p q. sole;
      U8FromInterleaveWays-from = λ k a x y p q. sole;
      CxlFixedMemory-new = λ k a x y p q. sole;
      CxlFixedMemory-cxl-type-2-memory = λ k a x y p q. sole;
      CxlFixedMemory-cxl-type-3-memory = λ k a x y p q. sole;
      CxlFixedMemory-volatile = λ k a x y p q. sole;
      CxlFixedMemory-persistent = λ k a x y p q. sole;
      CxlFixedMemory-fixed-configuration = λ k a x y p q. sole;
      CxlFixedMemory-num-interleaved-ways = λ k a x y p q. sole;
      CxlFixedMemory-len = λ k a x y p q. sole;
      CxlFixedMemory-put = λ k a x y p q. sole;
      CxlFixedMemory-add-target = λ k a x y p q. sole;
      CxlFixedMemory-get = λ k a x y p q. one-window x y _;
      CxlFixedMemory-target-place = λ k a x y p q. sole;
      CxlFixedMemory-interleave-target = λ k a x y p q. one-target x y _;
      CxlFixedMemory-fits = λ k a x y p q. sole;
      CxlFixedMemory-from-body = λ k a x y p q. one-window-body x y _;
      CxlFixedMemory-put-body = λ k a x y p q l m. sole-pair (sole l.1 m.1) (sole l.0 m.0);
      CxlFixedMemory-put-fields = λ k a x y p q. sole;
      CxlFixedMemory-bad-field = λ k a x y p q. sole;
      CxlFixedMemory-is-sound = λ k a x y p q. sole;
      CxlTarget-from-body = λ k a x y p q. one-target-body x y _;
      CxlTarget-put-body = λ k a x y p q l m. sole-pair (sole l.1 m.1) (sole l.0 m.0);
      XorInterleaveMath-new = λ k a x y p q. sole;
      XorInterleaveMath-len = λ k a x y p q. sole;
      XorInterleaveMath-put = λ k a x y p q. sole;
      XorInterleaveMath-is-full = λ k a x y p q. sole;
      XorInterleaveMath-add-xormap = λ k a x y p q. sole;
      XorInterleaveMath-get = λ k a x y p q. one-maths x y _;
      XorInterleaveMath-xormap = λ k a x y p q. one_map x y _;
      XorInterleaveMath-fits = λ k a x y p q. sole;
      XorInterleaveMath-from-body = λ k a x y p q. one-maths x y _;
      XorInterleaveMath-put-body = λ k a x y p q l m. sole-pair (sole l.1 m.1) (sole l.0 m.0);
      XorInterleaveMath-put-fields = λ k a x y p q. sole;
      XorInterleaveMath-bad-field = λ k a x y p q. sole;
      XorInterleaveMath-is-sound = λ k a x y p q. sole;
      XorMap-from-body = λ k a x y p q. one-map-body x y _;
      XorMap-put-body = λ k a x y p q l m. sole-pair (sole l.1 m.1) (sole l.0 m.0);
    }
