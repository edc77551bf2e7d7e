-- No version that document 01 wants tried meets the contract: the definitions are computed on a few small cases, and the version's answer there differs.
use mathlib.Core.Path.{◌≡◌, refl, sym, ap, ◌∙◌}
use Prim.Native.Nat.{ℕ, ◌+◌}
use mathlib.Core.List.{List, [], ◌∷◌}
use mathlib.Core.Option.{none, some}
use native.Mathlib.Omega.{arith}
use lib.ListN.{replicate}
use Rattle.format.specs.Bytes.{Answer, given, at, le, value, part, over, sum, same}
use Rattle.format.specs.Layout.{width, lay_with, fields_with, fixed_ok, refs_good}
use Rattle.format.specs.Table.{pptt, srat}
use Rattle.format.specs.Form.{layout, cache_attributes, ranges}
use Rattle.format.specs.Row.{processors, caches, column, matches, row_of, form_in}
use Rattle.format.specs.Kind.{kind_of, no_kind, body}
use Rattle.format.specs.Node.{bytes, node_at, sizes, starts, at_place, is_ordinal, at_ordinal, place_of, ordinal_of}
use Rattle.format.specs.Recipe.{cut_as, cut, joined, step, fault, lacking, fault_at, run, headed, meaning}
use Rattle.format.specs.Build.{records, header, summed, table_from, build, table, written, built}
use Rattle.format.specs.Normal.{each, calls, calls_of, recipe_of}
use Rattle.format.specs.Read.{head_fault, judge_head, framed, frames, sound, record_fault, walk, walked, accept, shown, fields_of, reading, read}
use Rattle.format.specs.Out.{every, nodes_from, old, out_of, meaning_of, read_out, recipe, out_written}
use Rattle.laws.specs.Cases.{head, with_resources}
use Rattle.laws.specs.Versions.{Refusal, first_alone_bytes, one_processor, Excluded}
use Rattle.laws.proofs.Cases.{checked}

-- what the definitions say on these cases, beside what `checked` has
record Computed : Type 0 where
  c1-room : build (head pptt) 48 ≡ given 36
  c1-sign : at (built (head pptt) (replicate 48 0)) 0 ≡ 80
  c4-sign : at (built (head srat) (replicate 48 0)) 0 ≡ 83
  c3-second : at (built (with_resources 1) (replicate 88 0)) 65 ≡ 24
  c3-alone : at (over (replicate 88 0) 0 (first_alone_bytes (with_resources 1))) 65 ≡ 0
  c1-out : read_out (table (head pptt)) 28 ≡ given 28
  c1-recipe : at (out_written (table (head pptt)) (replicate 28 0)) 0 ≡ 1
  c1-table : at (out_written (table (head pptt)) (replicate 28 0)) 1 ≡ 0
  c4-out : read_out (table (head srat)) 28 ≡ given 28
  c4-table : at (out_written (table (head srat)) (replicate 28 0)) 1 ≡ 1
  c2-read : read (table one_processor) every 0 ≡ given (reading 1 0 36 20 (some processors) (0 ∷ 0 ∷ 7 ∷ 0 ∷ []))
  c3-read : read (table (with_resources 1)) every 0 ≡ given (reading 2 1 36 28 (some caches) (replicate 8 0))

computed : Computed
unfolding le value part over sum same width lay_with fields_with fixed_ok refs_good layout cache_attributes ranges column matches row_of form_in kind_of no_kind body bytes node_at sizes starts at_place is_ordinal at_ordinal place_of ordinal_of cut_as cut joined step fault fault_at lacking run headed meaning records header summed table_from build table written built each calls calls_of recipe_of head_fault judge_head framed frames sound record_fault walk walked accept shown fields_of read nodes_from old out_of meaning_of read_out recipe out_written
computed =
    record {
      c1-room = refl;
      c1-sign = refl;
      c4-sign = refl;
      c3-second = refl;
      c3-alone = refl;
      c1-out = refl;
      c1-recipe = refl;
      c1-table = refl;
      c4-out = refl;
      c4-table = refl;
      c2-read = refl;
      c3-read = refl;
    }

no-refusal : {A : Type 0} (x : Answer A) (a : A) → Refusal x → x ≡ given a → ⊥
no-refusal x a h e = rw e at h

-- of two equal buffers the bytes at a place are equal
same_at : (i : ℕ) {xs ys : List ℕ} {m n : ℕ} → xs ≡ ys → at xs i ≡ m → at ys i ≡ n → m ≡ n
same_at i e a b = sym a ∙ ap (λ zs. at zs i) e ∙ b

pub excluded : Excluded
excluded =
    record {
      refusing = λ v w e. no-refusal _ 36 (w (head pptt) (replicate 36 0)) (e.0 ∙ checked.c1.0);
      constant = λ v bs w e f.
          let one = sym (w (head pptt) (replicate 48 0) 36 (e.0 ∙ computed.c1-room)) ∙ e.1 in
          let other = sym (w (head srat) (replicate 48 0) 48 (f.0 ∙ checked.c4.0)) ∙ f.1 in
          let z : ◌≡◌ {A = ℕ} 80 83 = same_at 0 (sym one ∙ other) computed.c1-sign computed.c4-sign in
          omega arith;
      idle = λ v w e.
          let z : ◌≡◌ {A = ℕ} 0 80 = same_at 0 (sym (w (head pptt) (replicate 48 0)) ∙ e.1) refl computed.c1-sign in
          omega arith;
      first_alone = λ v w e.
          let one = sym (w (with_resources 1) (replicate 88 0) 88 (e.0 ∙ checked.c3.0)) ∙ e.1 in
          let z : ◌≡◌ {A = ℕ} 0 24 = same_at 65 one computed.c3-alone computed.c3-second in
          omega arith;
      out-refusing = λ v w e. no-refusal _ 28 (w (table (head pptt)) (replicate 28 0)) (e.0 ∙ computed.c1-out);
      out-constant = λ v bs w e f.
          let one = sym (w (table (head pptt)) (replicate 28 0) 28 (e.0 ∙ computed.c1-out)) ∙ e.1 in
          let other = sym (w (table (head srat)) (replicate 28 0) 28 (f.0 ∙ computed.c4-out)) ∙ f.1 in
          let z : ◌≡◌ {A = ℕ} 0 1 = same_at 1 (sym one ∙ other) computed.c1-table computed.c4-table in
          omega arith;
      out-idle = λ v w e.
          let z : ◌≡◌ {A = ℕ} 0 1 = same_at 0 (sym (w (table (head pptt)) (replicate 28 0)) ∙ e.1) refl computed.c1-recipe in
          omega arith;
      never-reads = λ v w e. no-refusal _ _ (w (table one_processor) every 0) (e ∙ computed.c2-read);
      counts-alike = λ v c w e f.
          let one : 1 ≡ c = w (table one_processor) every 0 _ (e ∙ computed.c2-read) in
          let two : 2 ≡ c = w (table (with_resources 1)) every 0 _ (f ∙ computed.c3-read) in
          omega arith;
      counts-on = λ v k p w e.
          let one : 1 ≡ 1 + k = w (table one_processor) every 0 _ _ (e ∙ computed.c2-read) computed.c2-read in
          omega arith;
      all-unknown = λ v w e.
          let one : some caches ≡ none = w (table (with_resources 1)) every 0 _ (e ∙ computed.c3-read) in
          let z : ◌≡◌ {A = ℕ} 0 1 = cc in
          omega arith;
    }
