-- What order 7 does not claim, and neighbours of its theorems that do not hold: each on a recipe that is computed.
use mathlib.Core.Path.{◌≡◌, refl, ap, ◌∙◌}
use Prim.Native.Nat.{ℕ, zero, suc, ◌+◌, ◌<◌}
use mathlib.Core.List.{List, [], ◌∷◌, ◌++◌}
use native.Mathlib.Omega.{arith}
use lib.ListN.{length, get_elem?, replicate, length-append}
use Rattle.format.specs.Bytes.{le, value, part, sum, same, at, Answer, refused}
use Rattle.format.specs.Layout.{width, lay_with, fields_with, refs_good}
use Rattle.format.specs.Table.{hmat, code}
use Rattle.format.specs.Form.{Width, byte, pair, octets, layout, matrix_flags, ranges}
use Rattle.format.specs.Kind.{Kind, Processor, Resource, Domain, Matrix, Cell, kind_of, no_kind, body}
use Rattle.format.specs.Node.{bytes, sizes, starts, is_ordinal, at_ordinal, place_of}
use Rattle.format.specs.Field.{first_bad}
use Rattle.format.specs.Recipe.{cut_as, cut, setting, unset, step, fault, lacking, fault_at, run, headed, meaning}
use Rattle.format.specs.Build.{records, header, summed, table_from, build, table}
use Rattle.laws.specs.Cases.{head}
use Rattle.laws.specs.AnyOrder.{Each, Pairs, Rearranged, Rec, Whole, bytes_of, flat, Cut, Builds, SetsAs, Sets, Opens, Agree, Apart, times, AsOften, Same, Exchange, NotClaimed, Refuted}
use Rattle.laws.proofs.Shuffles.{drawn-rearranged}

pub not-claimed : (w : Width) → NotClaimed w
unfolding le value part sum width lay_with fields_with refs_good layout matrix_flags ranges kind_of no_kind body bytes sizes starts is_ordinal at_ordinal place_of cut_as cut setting unset step fault first_bad fault_at lacking run headed meaning records header summed table_from build table
not-claimed byte = record { builds = (refl, refl); cells = (refl, refl); moves = (λ room. refl, λ room. refl) }
not-claimed pair = record { builds = (refl, refl); cells = (refl, refl); moves = (λ room. refl, λ room. refl) }

-- ---- records

-- a 1 by T matrix
abbrev matrix_of : ℕ → Rec
matrix_of t = record { kind = Matrix byte; bytes = replicate 11 0 ++ (1 ∷ t ∷ []) }

-- its cell of an initiator and a target
abbrev cell_of : ℕ → ℕ → ℕ → Rec
cell_of i t v = record { kind = Cell byte; bytes = i ∷ t ∷ v ∷ 0 ∷ [] }

-- a domain without memory
abbrev domain_of : ℕ → Rec
domain_of d = record { kind = Domain; bytes = d ∷ replicate 7 0 }

-- lists that hold two numbers at a place
differs : {x y : List ℕ} (p m n : ℕ) → at x p ≡ m → at y p ≡ n → (m ≡ n → ⊥) → x ≡ y → ⊥
differs p m n a b d e = d (rw (← a, ← b, e))

-- different cells of a row
row_apart : (v : ℕ) → Apart (cell_of 0 0 1) (cell_of 0 1 v)
unfolding body fields_with value
row_apart v e = let z : ◌≡◌ {A = ℕ} 0 1 = ap (λ (x : Kind × List ℕ). at x.1 1) e in omega arith

numbers : ((a b : Rec) → Sets a → Sets b → Exchange (a ∷ b ∷ []) (b ∷ a ∷ [])) → ⊥
unfolding le value part sum width lay_with fields_with refs_good layout matrix_flags ranges kind_of no_kind body bytes sizes starts is_ordinal at_ordinal place_of cut_as cut setting unset step fault first_bad fault_at lacking run headed meaning records header summed table_from build table flat
numbers f =
    let s = f (cell_of 0 0 1) (cell_of 0 0 2) (byte, refl) (byte, refl) (head hmat) (matrix_of 1 ∷ []) [] (refl, (refl, (refl, (refl, tt)))) (82, 82, refl) in
    differs 80 1 2 refl refl (λ e. omega arith) s.tabled

others : ((a b : Rec) → Agree a b → Exchange (a ∷ b ∷ []) (b ∷ a ∷ [])) → ⊥
unfolding le value part sum width lay_with fields_with refs_good layout matrix_flags ranges kind_of no_kind body bytes sizes starts is_ordinal at_ordinal place_of cut_as cut setting unset step fault first_bad fault_at lacking run headed meaning records header summed table_from build table flat
others f =
    let s = f (domain_of 1) (domain_of 2) (λ e. refl) (head hmat) [] [] (refl, (refl, (refl, tt))) (120, 120, refl) in
    differs 52 2 1 refl refl (λ e. omega arith) s.tabled

across : ((a m b : Rec) (w : Width) → Sets a → Opens w m → Sets b → Apart a b → Exchange (a ∷ m ∷ b ∷ []) (b ∷ m ∷ a ∷ [])) → ⊥
unfolding le value part sum width lay_with fields_with refs_good layout matrix_flags ranges kind_of no_kind body bytes sizes starts is_ordinal at_ordinal place_of cut_as cut setting unset step fault first_bad fault_at lacking run headed meaning records header summed table_from build table flat
across f =
    let s = f (cell_of 0 0 1) (matrix_of 2) (cell_of 0 1 2) byte (byte, refl) refl (byte, refl) (row_apart 2) (head hmat) (matrix_of 2 ∷ []) [] (refl, (refl, (refl, (refl, (refl, tt))))) (136, 136, refl) in
    differs 84 255 1 refl refl (λ e. omega arith) s.tabled

unbuilt : ((a b : Rec) → Sets a → Sets b → Apart a b → (front : List ℕ) (xs : List Rec) → Cut front (xs ++ (a ∷ b ∷ []))
    → Same (front ++ flat (xs ++ (a ∷ b ∷ []))) (front ++ flat (xs ++ (b ∷ a ∷ [])))) → ⊥
unfolding le value part sum width lay_with fields_with refs_good layout matrix_flags ranges kind_of no_kind body bytes sizes starts is_ordinal at_ordinal place_of cut_as cut setting unset step fault first_bad fault_at lacking run headed meaning records header summed table_from build table flat
unbuilt f =
    let s = f (cell_of 0 0 1) (cell_of 0 1 2) (byte, refl) (byte, refl) (row_apart 2) (head hmat) (matrix_of 1 ∷ []) (refl, (refl, (refl, (refl, tt)))) in
    let e : ◌≡◌ {A = Answer ℕ} (refused 5 44) (refused 5 49) = s.answer 0 in
    let z : ◌≡◌ {A = ℕ} 44 49 = cc in
    omega arith

inside : ((a b : Rec) → Sets a → Sets b → Whole a → Whole b → Apart a b → (xs ys : List ℕ) → Builds (xs ++ (bytes_of a ++ (bytes_of b ++ ys)))
    → Same (xs ++ (bytes_of a ++ (bytes_of b ++ ys))) (xs ++ (bytes_of b ++ (bytes_of a ++ ys)))) → ⊥
unfolding le value part sum width lay_with fields_with refs_good layout matrix_flags ranges kind_of no_kind body bytes sizes starts is_ordinal at_ordinal place_of cut_as cut setting unset step fault first_bad fault_at lacking run headed meaning records header summed table_from build table flat
inside f =
    let s = f (cell_of 0 0 1) (cell_of 0 1 2) (byte, refl) (byte, refl) refl refl (row_apart 2) (1 ∷ code hmat ∷ []) (replicate 16 0) (40, 40, refl) in
    differs 12 1 0 refl refl (λ e. omega arith) s.tabled

twofold : ((cs ds : List Rec) → Each Sets cs → Rearranged cs ds → Exchange cs ds) → ⊥
unfolding le value part sum width lay_with fields_with refs_good layout matrix_flags ranges kind_of no_kind body bytes sizes starts is_ordinal at_ordinal place_of cut_as cut setting unset step fault first_bad fault_at lacking run headed meaning records header summed table_from build table flat
twofold f =
    let a = cell_of 0 0 1 in
    let b = cell_of 0 0 2 in
    let s = f (a ∷ b ∷ []) (b ∷ a ∷ []) ((byte, refl), ((byte, refl), tt)) (drawn-rearranged (a ∷ b ∷ []) (b ∷ a ∷ []) (a ∷ [], [], refl, ([], [], refl, refl))) (head hmat) (matrix_of 1 ∷ []) [] (refl, (refl, (refl, (refl, tt)))) (82, 82, refl) in
    differs 80 1 2 refl refl (λ e. omega arith) s.tabled

drawn : ((cs ds : List Rec) → Each Sets cs → Pairs Apart cs → length ds ≡ length cs → Each (λ d. 0 < times (bytes_of d) cs) ds → Exchange cs ds) → ⊥
unfolding le value part sum width lay_with fields_with refs_good layout matrix_flags ranges kind_of no_kind body bytes sizes starts is_ordinal at_ordinal place_of cut_as cut setting unset step fault first_bad fault_at lacking run headed meaning records header summed table_from build table flat same
drawn f =
    let a = cell_of 0 0 1 in
    let b = cell_of 0 1 2 in
    let s = f (a ∷ b ∷ []) (a ∷ a ∷ []) ((byte, refl), ((byte, refl), tt)) ((row_apart 2, tt), (tt, tt)) refl (omega arith, (omega arith, tt)) (head hmat) (matrix_of 2 ∷ []) [] (refl, (refl, (refl, (refl, tt)))) (88, 88, refl) in
    differs 86 255 2 refl refl (λ e. omega arith) s.tabled

again : ((cs ds : List Rec) (from : ℕ → ℕ) → length ds ≡ length cs → ((p : ℕ) → p < length ds → get_elem? ds p ≡ get_elem? cs (from p)) → AsOften cs ds) → ⊥
unfolding same
again f =
    let a = cell_of 0 0 1 in
    let b = cell_of 0 1 2 in
    let e : ◌≡◌ {A = ℕ} 1 0 = f (a ∷ b ∷ []) (a ∷ a ∷ []) (λ p. 0) refl taken (bytes_of b) in
    omega arith
  where
    taken : (p : ℕ) → p < 2 → get_elem? (cell_of 0 0 1 ∷ cell_of 0 0 1 ∷ []) p ≡ get_elem? (cell_of 0 0 1 ∷ cell_of 0 1 2 ∷ []) 0
    taken zero l = refl
    taken (suc zero) l = refl
    taken (suc (suc p)) l = absurd (omega arith)

uncut : ((r : List ℕ) → (front : List ℕ) × (cs : List Rec) × Cut front cs × (r ≡ front ++ flat cs)) → ⊥
uncut f =
    let (front, cs, c, is) = f [] in
    let n : 0 ≡ length front + length (flat cs) = ap length is ∙ length-append front (flat cs) in
    omega (arith, c.0)

parted : ((cs ds : List Rec) → flat cs ≡ flat ds → cs ≡ ds) → ⊥
unfolding flat
parted f =
    let e = f (record { kind = Processor; bytes = 17 ∷ [] } ∷ []) (record { kind = Processor; bytes = [] } ∷ record { kind = Resource; bytes = [] } ∷ []) refl in
    let z : ◌≡◌ {A = ℕ} 1 2 = ap length e in
    omega arith

-- a wide matrix of 1 by 1, and a setting of its cell
abbrev wide_matrix : Rec
wide_matrix = record { kind = Matrix pair; bytes = replicate 11 0 ++ (1 ∷ 0 ∷ 1 ∷ 0 ∷ []) }

abbrev wide_cell : Rec
wide_cell = record { kind = Cell pair; bytes = replicate 6 0 }

widths : ((front : List ℕ) (xs : List Rec) (a m b : Rec) (v w : Width) → Cut front (xs ++ (a ∷ m ∷ b ∷ [])) → Builds (front ++ flat (xs ++ (a ∷ m ∷ b ∷ [])))
    → SetsAs v a → SetsAs w b → v ≡ w) → ⊥
unfolding le value part sum width lay_with fields_with refs_good layout matrix_flags ranges kind_of no_kind body bytes sizes starts is_ordinal at_ordinal place_of cut_as cut setting unset step fault first_bad fault_at lacking run headed meaning records header summed table_from build table flat
widths f =
    let e = f (head hmat) (matrix_of 1 ∷ []) (cell_of 0 0 1) wide_matrix wide_cell byte pair (refl, (refl, (refl, (refl, (refl, tt))))) (124, 124, refl) refl refl in
    let z : ◌≡◌ {A = ℕ} 1 2 = ap octets e in
    omega arith

pub refuted : Refuted
refuted =
    record {
      numbers = numbers;
      others = others;
      across = across;
      unbuilt = unbuilt;
      inside = inside;
      twofold = twofold;
      drawn = drawn;
      again = again;
      uncut = uncut;
      parted = parted;
      widths = widths;
    }
