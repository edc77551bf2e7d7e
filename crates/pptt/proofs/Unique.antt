-- Two nodes that meet one contract are equal: what is shown of a node is all of it.
use mathlib.Core.Path.{◌≡◌, refl}
use Prim.Native.Nat.{ℕ}
use mathlib.Core.List.{List, []}
use Rattle.format.specs.Bytes.{at}
use Rattle.format.specs.Node.{Node}
use Rattle.format.specs.Read.{shown}
use Rattle.laws.specs.Unique.{Fixes}
use Rattle.laws.proofs.Sole.{sole, sole-meant, sole-pair}
use Rattle.pptt.specs.declared.ProcessorHandle.{ProcessorHandle}
use Rattle.pptt.specs.declared.CacheHandle.{CacheHandle}
use Rattle.pptt.specs.declared.ProcessorNode.{ProcessorNode}
use Rattle.pptt.specs.declared.Resource.{Resource}
use Rattle.pptt.specs.declared.CacheNode.{CacheNode}
use Rattle.pptt.specs.Processor.{processor_shown, processor_node, processor_of, resource_fields}
use Rattle.pptt.specs.declared.CacheNodeBuilder.{CacheNodeBuilder}
use lib.ListN.{replicate}
use Rattle.pptt.specs.Cache.{cache_shown, cache_node, cache_of, made, builder_of}
use Rattle.pptt.proofs.ProcessorNode.new.Reads as ProcessorNode-new
use Rattle.pptt.proofs.ProcessorNode.physical.Reads as ProcessorNode-physical
use Rattle.pptt.proofs.ProcessorNode.valid.Reads as ProcessorNode-valid
use Rattle.pptt.proofs.ProcessorNode.thread.Reads as ProcessorNode-thread
use Rattle.pptt.proofs.ProcessorNode.leaf.Reads as ProcessorNode-leaf
use Rattle.pptt.proofs.ProcessorNode.identical.Reads as ProcessorNode-identical
use Rattle.pptt.proofs.ProcessorNode.named.Reads as ProcessorNode-named
use Rattle.pptt.proofs.ProcessorNode.len.Reads as ProcessorNode-len
use Rattle.pptt.proofs.ProcessorNode.resources_in.Reads as ProcessorNode-resources-in
use Rattle.pptt.proofs.ProcessorNode.fits.Reads as ProcessorNode-fits
use Rattle.pptt.proofs.ProcessorNode.is_fixed.Reads as ProcessorNode-is-fixed
use Rattle.pptt.proofs.ProcessorNode.parent_in.Reads as ProcessorNode-parent-in
use Rattle.pptt.proofs.ProcessorNode.from_body.Reads as ProcessorNode-from-body
use Rattle.pptt.proofs.ProcessorNode.put_body.Reads as ProcessorNode-put-body
use Rattle.pptt.proofs.ProcessorNode.put_fields.Reads as ProcessorNode-put-fields
use Rattle.pptt.proofs.ProcessorNode.put.Reads as ProcessorNode-put
use Rattle.pptt.proofs.ProcessorNode.is_full.Reads as ProcessorNode-is-full
use Rattle.pptt.proofs.ProcessorNode.add_cache.Reads as ProcessorNode-add-cache
use Rattle.pptt.proofs.ProcessorNode.get.Reads as ProcessorNode-get
use Rattle.pptt.proofs.ProcessorNode.parent_of.Reads as ProcessorNode-parent-of
use Rattle.pptt.proofs.ProcessorNode.resource.Reads as ProcessorNode-resource
use Rattle.pptt.proofs.Resource.from_body.Reads as Resource-from-body
use Rattle.pptt.proofs.Resource.put_body.Reads as Resource-put-body
use Rattle.pptt.proofs.CacheHandleDefault.default.Reads as CacheHandle-default
use Rattle.pptt.proofs.CacheNodeDefault.default.Reads as CacheNode-default
use Rattle.pptt.proofs.CacheNodeBuilderDefault.default.Reads as CacheNodeBuilder-default
use Rattle.pptt.proofs.CacheNodeBuilder.next_level.Reads as CacheNodeBuilder-next-level
use Rattle.pptt.proofs.CacheNodeBuilder.size.Reads as CacheNodeBuilder-size
use Rattle.pptt.proofs.CacheNodeBuilder.sets.Reads as CacheNodeBuilder-sets
use Rattle.pptt.proofs.CacheNodeBuilder.associativity.Reads as CacheNodeBuilder-associativity
use Rattle.pptt.proofs.CacheNodeBuilder.allocation_type.Reads as CacheNodeBuilder-allocation-type
use Rattle.pptt.proofs.CacheNodeBuilder.cache_type.Reads as CacheNodeBuilder-cache-type
use Rattle.pptt.proofs.CacheNodeBuilder.write_policy.Reads as CacheNodeBuilder-write-policy
use Rattle.pptt.proofs.CacheNodeBuilder.line_size.Reads as CacheNodeBuilder-line-size
use Rattle.pptt.proofs.CacheNodeBuilder.id.Reads as CacheNodeBuilder-id
use Rattle.pptt.proofs.CacheNodeBuilder.to_node.Reads as CacheNodeBuilder-to-node
use Rattle.pptt.proofs.CacheNode.named.Reads as CacheNode-named
use Rattle.pptt.proofs.CacheNode.len.Reads as CacheNode-len
use Rattle.pptt.proofs.CacheNode.put.Reads as CacheNode-put
use Rattle.pptt.proofs.CacheNode.get.Reads as CacheNode-get
use Rattle.pptt.proofs.CacheNode.next_level_of.Reads as CacheNode-next-level-of
use Rattle.pptt.proofs.CacheNode.next_level_in.Reads as CacheNode-next-level-in
use Rattle.pptt.proofs.CacheNode.from_body.Reads as CacheNode-from-body
use Rattle.pptt.proofs.CacheNode.put_body.Reads as CacheNode-put-body
use Rattle.pptt.proofs.CacheNode.put_fields.Reads as CacheNode-put-fields
use Rattle.pptt.proofs.CacheNode.allocation.Reads as CacheNode-allocation
use Rattle.pptt.proofs.CacheNode.cache_type.Reads as CacheNode-cache-type
use Rattle.pptt.proofs.CacheNode.write_policy.Reads as CacheNode-write-policy
use Rattle.pptt.proofs.CacheNode.bad_field.Reads as CacheNode-bad-field
use Rattle.pptt.proofs.CacheNode.is_sound.Reads as CacheNode-is-sound

abbrev processor_back : List ℕ → ProcessorNode
processor_back vs = processor_of (at vs 0) (record { 0 = at vs 1 }) (at vs 2) (at vs 3)

-- `ProcessorNode::get`
one-processor : (a b : ProcessorNode) (vs : List ℕ) → processor_shown a ≡ vs → processor_shown b ≡ vs → a ≡ b
one-processor = sole-meant processor_shown processor_back (λ p. refl)

-- `ProcessorNode::from_body`
one-alone : (a b : ProcessorNode) (n : Node) → processor_node a [] ≡ n → processor_node b [] ≡ n → a ≡ b
unfolding shown
one-alone = sole-meant (λ p. processor_node p []) (λ (n : Node). processor_back (shown n.form n.values)) (λ p. refl)

-- a handle is its number
one_parent : (a b : ProcessorHandle) (n : ℕ) → a.0 ≡ n → b.0 ≡ n → a ≡ b
one_parent = sole-meant (λ (h : ProcessorHandle). h.0) (λ n. record { 0 = n }) (λ h. refl)

one-level : (a b : CacheHandle) (n : ℕ) → a.0 ≡ n → b.0 ≡ n → a ≡ b
one-level = sole-meant (λ (h : CacheHandle). h.0) (λ n. record { 0 = n }) (λ h. refl)

-- `Resource::from_body`
one-resource : (a b : Resource) (vs : List ℕ) → resource_fields a ≡ vs → resource_fields b ≡ vs → a ≡ b
one-resource = sole-meant resource_fields (λ vs. record { cache = record { 0 = at vs 0 } }) (λ r. refl)

-- `CacheNodeBuilder::default`: each value is 0
one-builder : (a b : CacheNodeBuilder) (vs : List ℕ) → made a ≡ vs → made b ≡ vs → a ≡ b
one-builder = sole-meant made builder_of (λ b. refl)

-- `CacheNodeBuilder::to_node`
one-made : (a b : CacheNode) (vs : List ℕ) → cache_shown a ≡ vs → cache_shown b ≡ vs → a ≡ b
one-made = sole-meant cache_shown cache_of (λ c. refl)

-- `CacheNode::get`, `CacheNode::from_body`
one-cache : (a b : CacheNode) (n : Node) → cache_node a ≡ n → cache_node b ≡ n → a ≡ b
one-cache = sole-meant cache_node (λ (n : Node). cache_of n.values) (λ c. refl)

-- ---- the contracts

-- for each public function: what its contract fixes of the result `x` and of the parameters afterwards, `p`
pub record Unique : Type 0 where
  ProcessorNode-new : Fixes ProcessorNode-new.Learnt (λ k x p. x)
  ProcessorNode-physical : Fixes ProcessorNode-physical.Learnt (λ k x p. x)
  ProcessorNode-valid : Fixes ProcessorNode-valid.Learnt (λ k x p. x)
  ProcessorNode-thread : Fixes ProcessorNode-thread.Learnt (λ k x p. x)
  ProcessorNode-leaf : Fixes ProcessorNode-leaf.Learnt (λ k x p. x)
  ProcessorNode-identical : Fixes ProcessorNode-identical.Learnt (λ k x p. x)
  ProcessorNode-named : Fixes ProcessorNode-named.Learnt (λ k x p. x)
  ProcessorNode-len : Fixes ProcessorNode-len.Learnt (λ k x p. x)
  ProcessorNode-resources-in : Fixes ProcessorNode-resources-in.Learnt (λ k x p. x)
  ProcessorNode-fits : Fixes ProcessorNode-fits.Learnt (λ k x p. x)
  ProcessorNode-is-fixed : Fixes ProcessorNode-is-fixed.Learnt (λ k x p. x)
  ProcessorNode-parent-in : Fixes ProcessorNode-parent-in.Learnt (λ k x p. x)
  ProcessorNode-from-body : Fixes ProcessorNode-from-body.Learnt (λ k x p. x)
  ProcessorNode-put-body : Fixes {S = ℕ × List ℕ} ProcessorNode-put-body.Learnt (λ k x p. (x, p.1.0.now))
  ProcessorNode-put-fields : Fixes ProcessorNode-put-fields.Learnt (λ k x p. p.1.0.now)
  ProcessorNode-put : Fixes ProcessorNode-put.Learnt (λ k x p. p.1.0.now)
  ProcessorNode-is-full : Fixes ProcessorNode-is-full.Learnt (λ k x p. x)
  ProcessorNode-add-cache : Fixes ProcessorNode-add-cache.Learnt (λ k x p. p.0.now)
  ProcessorNode-get : Fixes ProcessorNode-get.Learnt (λ k x p. x)
  ProcessorNode-parent-of : Fixes ProcessorNode-parent-of.Learnt (λ k x p. x)
  ProcessorNode-resource : Fixes ProcessorNode-resource.Learnt (λ k x p. x)
  Resource-from-body : Fixes Resource-from-body.Learnt (λ k x p. x)
  Resource-put-body : Fixes {S = ℕ × List ℕ} Resource-put-body.Learnt (λ k x p. (x, p.1.0.now))
  CacheHandle-default : Fixes CacheHandle-default.Learnt (λ k x p. x)
  CacheNode-default : Fixes CacheNode-default.Learnt (λ k x p. x)
  CacheNodeBuilder-default : Fixes CacheNodeBuilder-default.Learnt (λ k x p. x)
  CacheNodeBuilder-next-level : Fixes CacheNodeBuilder-next-level.Learnt (λ k x p. x)
  CacheNodeBuilder-size : Fixes CacheNodeBuilder-size.Learnt (λ k x p. x)
  CacheNodeBuilder-sets : Fixes CacheNodeBuilder-sets.Learnt (λ k x p. x)
  CacheNodeBuilder-associativity : Fixes CacheNodeBuilder-associativity.Learnt (λ k x p. x)
  CacheNodeBuilder-allocation-type : Fixes CacheNodeBuilder-allocation-type.Learnt (λ k x p. x)
  CacheNodeBuilder-cache-type : Fixes CacheNodeBuilder-cache-type.Learnt (λ k x p. x)
  CacheNodeBuilder-write-policy : Fixes CacheNodeBuilder-write-policy.Learnt (λ k x p. x)
  CacheNodeBuilder-line-size : Fixes CacheNodeBuilder-line-size.Learnt (λ k x p. x)
  CacheNodeBuilder-id : Fixes CacheNodeBuilder-id.Learnt (λ k x p. x)
  CacheNodeBuilder-to-node : Fixes CacheNodeBuilder-to-node.Learnt (λ k x p. x)
  CacheNode-named : Fixes CacheNode-named.Learnt (λ k x p. x)
  CacheNode-len : Fixes CacheNode-len.Learnt (λ k x p. x)
  CacheNode-put : Fixes CacheNode-put.Learnt (λ k x p. p.1.0.now)
  CacheNode-get : Fixes CacheNode-get.Learnt (λ k x p. x)
  CacheNode-next-level-of : Fixes CacheNode-next-level-of.Learnt (λ k x p. x)
  CacheNode-next-level-in : Fixes CacheNode-next-level-in.Learnt (λ k x p. x)
  CacheNode-from-body : Fixes CacheNode-from-body.Learnt (λ k x p. x)
  CacheNode-put-body : Fixes {S = ℕ × List ℕ} CacheNode-put-body.Learnt (λ k x p. (x, p.1.0.now))
  CacheNode-put-fields : Fixes CacheNode-put-fields.Learnt (λ k x p. p.1.0.now)
  CacheNode-allocation : Fixes CacheNode-allocation.Learnt (λ k x p. x)
  CacheNode-cache-type : Fixes CacheNode-cache-type.Learnt (λ k x p. x)
  CacheNode-write-policy : Fixes CacheNode-write-policy.Learnt (λ k x p. x)
  CacheNode-bad-field : Fixes CacheNode-bad-field.Learnt (λ k x p. x)
  CacheNode-is-sound : Fixes CacheNode-is-sound.Learnt (λ k x p. x)

pub unique : Unique
unique =
    record {
      ProcessorNode-new = λ k a x y p q. sole;
      ProcessorNode-physical = λ k a x y p q. sole;
      ProcessorNode-valid = λ k a x y p q. sole;
      ProcessorNode-thread = λ k a x y p q. sole;
      ProcessorNode-leaf = λ k a x y p q. sole;
      ProcessorNode-identical = λ k a x y p q. sole;
      ProcessorNode-named = λ k a x y p q. sole;
      ProcessorNode-len = λ k a x y p q. sole;
      ProcessorNode-resources-in = λ k a x y p q. sole;
      ProcessorNode-fits = λ k a x y p q. sole;
      ProcessorNode-is-fixed = λ k a x y p q. sole;
      ProcessorNode-parent-in = λ k a x y p q. one_parent x y _;
      ProcessorNode-from-body = λ k a x y p q. one-alone x y _;
      ProcessorNode-put-body = λ k a x y p q l m. sole-pair (sole l.1 m.1) (sole l.0 m.0);
      ProcessorNode-put-fields = λ k a x y p q. sole;
      ProcessorNode-put = λ k a x y p q. sole;
      ProcessorNode-is-full = λ k a x y p q. sole;
      ProcessorNode-add-cache = λ k a x y p q. sole;
      ProcessorNode-get = λ k a x y p q. one-processor x y _;
      ProcessorNode-parent-of = λ k a x y p q. one_parent x y _;
      ProcessorNode-resource = λ k a x y p q. sole;
      Resource-from-body = λ k a x y p q. one-resource x y _;
      Resource-put-body = λ k a x y p q l m. sole-pair (sole l.1 m.1) (sole l.0 m.0);
      CacheHandle-default = λ k a x y p q l m. one-level x y 0 (cc) (cc);
      CacheNode-default = λ k a x y p q l m. one-made x y (replicate 8 0) (cc) (cc);
      CacheNodeBuilder-default = λ k a x y p q l m. one-builder x y (replicate 8 0) (cc) (cc);
      CacheNodeBuilder-next-level = λ k a x y p q. sole;
      CacheNodeBuilder-size = λ k a x y p q. sole;
      CacheNodeBuilder-sets = λ k a x y p q. sole;
      CacheNodeBuilder-associativity = λ k a x y p q. sole;
      CacheNodeBuilder-allocation-type = λ k a x y p q. sole;
      CacheNodeBuilder-cache-type = λ k a x y p q. sole;
      CacheNodeBuilder-write-policy = λ k a x y p q. sole;
      CacheNodeBuilder-line-size = λ k a x y p q. sole;
      CacheNodeBuilder-id = λ k a x y p q. sole;
      CacheNodeBuilder-to-node = λ k a x y p q. one-made x y _;
      CacheNode-named = λ k a x y p q. sole;
      CacheNode-len = λ k a x y p q. sole;
      CacheNode-put = λ k a x y p q. sole;
      CacheNode-get = λ k a x y p q. one-cache x y _;
      CacheNode-next-level-of = λ k a x y p q. one-level x y _;
      CacheNode-next-level-in = λ k a x y p q. one-level x y _;
      CacheNode-from-body = λ k a x y p q. one-cache x y _;
      CacheNode-put-body = λ k a x y p q l m. sole-pair (sole l.1 m.1) (sole l.0 m.0);
      CacheNode-put-fields = λ k a x y p q. sole;
      CacheNode-allocation = λ k a x y p q. sole;
      CacheNode-cache-type = λ k a x y p q. sole;
      CacheNode-write-policy = λ k a x y p q. sole;
      CacheNode-bad-field = λ k a x y p q. sole;
      CacheNode-is-sound = λ k a x y p q. sole;
    }
