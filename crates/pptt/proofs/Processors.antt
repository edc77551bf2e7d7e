-- The record of a processor: its fixed part with its resources behind, how it grows, what has to be fixed in it, where its parent stands, and what it shows.
use mathlib.Core.Path.{◌≡◌, refl, sym, ◌∙◌}
use Prim.Native.Nat.{ℕ, zero, suc, ◌+◌, ◌*◌, ◌≤◌, ◌<◌}
use mathlib.Core.List.{List, [], ◌∷◌, ◌++◌, append_assoc}
use mathlib.Core.Bool.{Bool, true}
use native.Mathlib.Nat.{add-zero}
use native.Mathlib.Numerals.{add-one}
use native.Mathlib.Omega.{arith}
use borrow.Author.Tests.{eqb-true}
use lib.ListN.{length, take, replicate, length-append}
use lib.Seq.{get_or-append-add}
use lib.Dec.{eqb}
use Rattle.format.specs.Bytes.{both, all, at, le, value, part, join, over}
use Rattle.format.specs.Layout.{to, as_is, lay_with, lay, width, fields, fixed_ok}
use Rattle.format.specs.Form.{processor, size, layout}
use Rattle.format.specs.Node.{node, bytes}
use Rattle.format.specs.Kind.{Processor, body}
use Rattle.format.specs.Read.{shown}
use Rattle.laws.specs.Offsets.{fields_at}
use Rattle.laws.proofs.Bytes.{length-le, length_over, part-take, over-over, over-past}
use Rattle.laws.proofs.Tests.{both_right}
use Rattle.laws.proofs.Lays.{both_true, length-lay}
use Rattle.laws.proofs.Over.{over-within-first}
use Rattle.laws.proofs.Joins.{lay-append, join_more}
use Rattle.laws.proofs.Nodes.{length-bytes}
use Rattle.laws.proofs.Offsets.{fields-at, fixed-list}
use Rattle.laws.proofs.Fields.{fixed-now, fields-now}
use Rattle.pptt.specs.declared.CacheHandle.{CacheHandle}
use Rattle.pptt.specs.declared.ProcessorNode.{ProcessorNode}
use Rattle.pptt.specs.Processor.{processor_shown, processor_node, fixed_part, grown, processor_in, resource_in}

-- ---- writing

lay-resources : (n : ℕ) (ws : List ℕ) → length ws ≡ n → lay (replicate n (to 1)) ws ≡ join (replicate n 4) ws
unfolding lay_with join
lay-resources zero ws l = refl
lay-resources (suc n) [] l = absurd (omega arith)
lay-resources (suc n) (w ∷ ws) l = rw (lay-resources n ws (omega arith))

pub length-fixed : (n : ℕ) (vs : List ℕ) → length (fixed_part n vs) ≡ 20
unfolding fixed_part layout width
length-fixed n vs = length-lay as_is (take 7 (layout (processor n))) vs

pub grown-past : (bs : List ℕ) (p n : ℕ) (h : CacheHandle) → length bs ≤ p → grown bs p n h ≡ bs
unfolding grown
grown-past bs p n h l =
    rw (over-past bs (p + 1) _ (omega arith), over-past bs (p + 16) _ (omega arith), over-past bs (p + size (processor n)) _ (omega arith))

module _ (a b c : ℕ) where
  -- the fixed part, and each resource in four bytes
  pub record_is : (n : ℕ) (ws : List ℕ) → length ws ≡ n
      → bytes as_is (node (processor n) (a ∷ b ∷ c ∷ ws)) ≡ fixed_part n (a ∷ b ∷ c ∷ []) ++ join (replicate n 4) ws
  unfolding bytes fixed_part layout
  record_is n ws l =
      lay-append as_is (take 7 (layout (processor n))) (replicate n (to 1)) (a ∷ b ∷ c ∷ []) ws refl ∙ rw (lay-resources n ws l)

  -- without resources the fixed part is the record
  pub record-alone : bytes as_is (node (processor 0) (a ∷ b ∷ c ∷ [])) ≡ fixed_part 0 (a ∷ b ∷ c ∷ [])
  unfolding bytes fixed_part layout
  record-alone = refl

  fixed-grown : (n : ℕ) → over (over (fixed_part n (a ∷ b ∷ c ∷ [])) 1 (le 1 (size (processor (suc n))))) 16 (le 4 (suc n)) ≡ fixed_part (suc n) (a ∷ b ∷ c ∷ [])
  unfolding fixed_part layout lay_with over le
  fixed-grown n = refl

  -- where the record of n resources was, there is the record of one more
  pub record-grown : (bs : List ℕ) (p n : ℕ) (ws : List ℕ) (h : CacheHandle) → length ws ≡ n
      → grown (over bs p (bytes as_is (node (processor n) (a ∷ b ∷ c ∷ ws)))) p n h ≡ over bs p (bytes as_is (node (processor (suc n)) (a ∷ b ∷ c ∷ (ws ++ (h.0 ∷ [])))))
  unfolding grown
  record-grown bs p n ws h l =
      let vs = a ∷ b ∷ c ∷ [] in
      let js = join (replicate n 4) ws in
      let len = le 1 (size (processor (suc n))) in
      let k : length (fixed_part n vs ++ js) ≡ size (processor n) = rw (record_is n ws l) at (length-bytes as_is (node (processor n) (vs ++ ws))) in
      let e : length (fixed_part (suc n) vs ++ js) ≡ size (processor n) = simp (length-append, length-fixed) (omega (arith, simp (length-append, length-fixed) at k)) in
      rw (add-one n, record_is n ws l)
      (rw (over-within-first bs p (fixed_part n vs) js 1 len (rw (length-le, length-fixed) (omega arith)))
      (rw (over-within-first bs p (over (fixed_part n vs) 1 len) js 16 (le 4 (suc n)) (rw (length_over, length-le, length-fixed) (omega arith)), fixed-grown n, ← e, over-over)
      (rw (append_assoc, ← join_more n 4 ws h.0 l, record_is (suc n) (ws ++ (h.0 ∷ [])) (simp length-append (omega arith))))))

-- ---- reading

-- the parent is the second field of a record, whatever its resources, and of a body
pub parent-record : (bs : List ℕ) → at (fields (layout (processor 0)) bs) 1 ≡ value (part bs 8 4)
unfolding layout
parent-record bs = rw (fields-at as_is (layout (processor 0)) bs 0)

pub parent-body : (bs : List ℕ) → at (fields (body Processor) bs) 1 ≡ value (part bs 4 4)
unfolding body
parent-body bs = rw (fields-now Processor bs)

-- the values of a node, as the format shows them
pub processor-shown : (p : ProcessorNode) (ws : List ℕ) → processor_shown p ≡ shown (processor p.resources) (processor_node p ws).values
unfolding shown
processor-shown p ws = refl

-- type, length, zeros and the number of resources
pub processor-fixed : (n : ℕ) (bs : List ℕ)
    → fixed_ok (layout (processor n)) bs ≡ all (eqb (value (part bs 0 1)) 0 ∷ eqb (value (part bs 1 1)) (size (processor n)) ∷ eqb (value (part bs 2 2)) 0 ∷ eqb (value (part bs 16 4)) n ∷ [])
unfolding layout
processor-fixed n bs = rw (fixed-now, fixed-list (to 1) (λ x. refl), both_right)

-- these stand in the first 20 bytes
pub fixed-window : (n : ℕ) (bs : List ℕ) → fixed_ok (layout (processor n)) (take 20 bs) ≡ fixed_ok (layout (processor n)) bs
fixed-window n bs =
    rw (processor-fixed n (take 20 bs), processor-fixed n bs, part-take bs 20 0 1 (omega arith), part-take bs 20 1 1 (omega arith), part-take bs 20 2 2 (omega arith), part-take bs 20 16 4 (omega arith))

-- what is shown of a record: its fields before the resources, and their number
shown-now : (bs : List ℕ) → processor_in bs ≡ value (part bs 4 4) ∷ value (part bs 8 4) ∷ value (part bs 12 4) ∷ value (part bs 16 4) ∷ []
unfolding processor_in shown layout
shown-now bs = rw (fields-at as_is (layout (processor (value (part bs 16 4)))) bs 0)

-- this too stands in the first 20 bytes
pub shown-window : (bs : List ℕ) → processor_in (take 20 bs) ≡ processor_in bs
shown-window bs =
    rw (shown-now (take 20 bs), shown-now bs, part-take bs 20 4 4 (omega arith), part-take bs 20 8 4 (omega arith), part-take bs 20 12 4 (omega arith), part-take bs 20 16 4 (omega arith))

fourth : (a b c d : Bool) → all (a ∷ b ∷ c ∷ d ∷ []) ≡ true → d ≡ true
fourth a b c d h = (both_true c d (both_true b (both c d) (both_true a (both b (both c d)) h).1).1).1

-- of a record with the fixed values of n resources these are the values that the format shows
pub record-shown : (n : ℕ) (bs : List ℕ) → fixed_ok (layout (processor n)) bs ≡ true → processor_in bs ≡ shown (processor n) (fields (layout (processor n)) bs)
unfolding processor_in
record-shown n bs e =
    let count = fourth (eqb (value (part bs 0 1)) 0) (eqb (value (part bs 1 1)) (size (processor n))) (eqb (value (part bs 2 2)) 0) (eqb (value (part bs 16 4)) n) (sym (processor-fixed n bs) ∙ e) in
    rw (eqb-true (value (part bs 16 4)) n count)

at_offset : (n p i : ℕ) (bs : List ℕ) → i < n → at (fields_at as_is (replicate n (to 1)) bs p) i ≡ value (part bs (p + 4 * i) 4)
at_offset zero p i bs h = absurd (omega arith)
at_offset (suc n) p zero bs h = rw add-zero
at_offset (suc n) p (suc i) bs h = let e : p + 4 * suc i ≡ p + 4 + 4 * i = omega arith in rw e (at_offset n (p + 4) i bs (omega arith))

-- the resources are the fields behind the first three
pub resource-field : (n i : ℕ) (bs : List ℕ) → i < n → at (fields (layout (processor n)) bs) (3 + i) ≡ (resource_in bs i).0
unfolding layout
resource-field n i bs h =
    rw (fields-at as_is (layout (processor n)) bs 0)
    (get_or-append-add (value (part bs 4 4) ∷ value (part bs 8 4) ∷ value (part bs 12 4) ∷ []) (fields_at as_is (replicate n (to 1)) bs 20) i 0 ∙ at_offset n 20 i bs h)
