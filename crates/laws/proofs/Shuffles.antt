-- Lists drawn from one another: what is drawn is just what is a permutation, and just what has the same records, each as often; what commutes may be done in any order.
use mathlib.Core.Path.{◌≡◌, refl, sym, ap, ◌∙◌}
use mathlib.Core.Logic.{◌↔◌}
use Prim.Native.Nat.{ℕ, zero, suc, ◌+◌, ◌<◌}
use mathlib.Core.List.{List, [], ◌∷◌, ◌++◌}
use mathlib.Core.Bool.{Bool, true, false}
use mathlib.Core.Option.{some}
use native.Mathlib.Omega.{arith}
use lib.ListN.{length, get_elem?, length-append}
use borrow.Author.Tests.{eq-eqb}
use Rattle.format.specs.Bytes.{pick, same}
use Rattle.format.specs.Kind.{Kind, kind_number}
use Rattle.laws.specs.AnyOrder.{Each, Pairs, Rearranged, Rec, bytes_of, times, AsOften}
use Rattle.laws.proofs.Grows.{kind-number}
use Rattle.laws.proofs.Trips.{same_true}

-- the second list is the first, drawn one by one from anywhere in what is left
abbrev pub Drawn : {A : Type 0} → List A → List A → Type 0
Drawn xs [] = xs ≡ []
Drawn {A} xs (y ∷ ys) = (before : List A) × (behind : List A) × (xs ≡ before ++ (y ∷ behind)) × Drawn (before ++ behind) ys

-- ---- each of them

module _ {A : Type 0} (P : A → Type 0) where
  pub each-front : (xs ys : List A) → Each P (xs ++ ys) → Each P xs
  each-front [] ys e = tt
  each-front (x ∷ xs) ys (p, e) = (p, each-front xs ys e)

  pub each_back : (xs ys : List A) → Each P (xs ++ ys) → Each P ys
  each_back [] ys e = e
  each_back (x ∷ xs) ys (p, e) = each_back xs ys e

  pub each-join : (xs ys : List A) → Each P xs → Each P ys → Each P (xs ++ ys)
  each-join [] ys e f = f
  each-join (x ∷ xs) ys (p, e) f = (p, each-join xs ys e f)

  pub each-drawn : (xs ys : List A) → Drawn xs ys → Each P xs → Each P ys
  each-drawn xs [] d e = tt
  each-drawn xs (y ∷ ys) (before, behind, is, d) e =
      let f : Each P (before ++ (y ∷ behind)) = rw is at e in
      let g : Each P (y ∷ behind) = each_back before (y ∷ behind) f in
      (g.0, each-drawn (before ++ behind) ys d (each-join before behind (each-front before (y ∷ behind) f) g.1))

-- what holds of each may be weakened, where something else holds of each
each_map : {A : Type 0} (P Q R : A → Type 0) → ((x : A) → P x → Q x → R x) → (xs : List A) → Each P xs → Each Q xs → Each R xs
each_map P Q R f [] p q = tt
each_map P Q R f (x ∷ xs) (p, ps) (q, qs) = (f x p q, each_map P Q R f xs ps qs)

pub each_both : {A : Type 0} (P Q : A → Type 0) (xs : List A) → Each P xs → Each Q xs → Each (λ x. P x × Q x) xs
each_both P Q xs p q = each_map P Q (λ x. P x × Q x) (λ x a b. (a, b)) xs p q

pub pairs-map : {A : Type 0} (P : A → Type 0) (R S : A → A → Type 0) → ((x y : A) → P x → P y → R x y → S x y) → (xs : List A) → Each P xs → Pairs R xs → Pairs S xs
pairs-map P R S f [] p r = tt
pairs-map P R S f (x ∷ xs) (p, ps) (r, rs) = (each_map P (R x) (S x) (λ y q. f x y p q) xs ps r, pairs-map P R S f xs ps rs)

-- one of them out of a list
pairs-out : {A : Type 0} (R : A → A → Type 0) (before : List A) (y : A) (behind : List A) → Pairs R (before ++ (y ∷ behind))
    → Each (λ x. R x y) before × Pairs R (before ++ behind)
pairs-out R [] y behind (r, rs) = (tt, rs)
pairs-out R (x ∷ before) y behind (r, rs) =
    let (e, p) = pairs-out R before y behind rs in
    let b = each_back (R x) before (y ∷ behind) r in
    ((b.0, e), (each-join (R x) before behind (each-front (R x) before (y ∷ behind) r) b.1, p))

-- ---- what is done one by one

module _ {A S : Type 0} (does : A → S → S) where
  -- what all of them make of s
  abbrev pub after : List A → S → S
  after [] s = s
  after (x ∷ xs) s = after xs (does x s)

  abbrev pub Commute : A → A → Type 0
  Commute x y = (s : S) → does y (does x s) ≡ does x (does y s)

  first_done : (before : List A) (y : A) (behind : List A) (s : S) → Each (λ x. Commute x y) before → after (before ++ (y ∷ behind)) s ≡ after (before ++ behind) (does y s)
  first_done [] y behind s e = refl
  first_done (x ∷ before) y behind s (c, e) = first_done before y behind (does x s) e ∙ ap (after (before ++ behind)) (c s)

  pub drawn-after : (xs ys : List A) (s : S) → Pairs Commute xs → Drawn xs ys → after xs s ≡ after ys s
  drawn-after xs [] s p d = rw d
  drawn-after xs (y ∷ ys) s p (before, behind, is, d) =
      let (e, q) = pairs-out Commute before y behind (rw is at p) in
      rw is (first_done before y behind s e ∙ drawn-after (before ++ behind) ys (does y s) q d)

-- ---- the same records, each as often

same_refl : (xs : List ℕ) → same xs xs ≡ true
unfolding same
same_refl [] = refl
same_refl (x ∷ xs) = rw (eq-eqb x x refl) (same_refl xs)

pub alike : (j k : Kind) (xs ys : List ℕ) → j ≡ k → xs ≡ ys → ◌≡◌ {A = Rec} (record { kind = j; bytes = xs }) (record { kind = k; bytes = ys })
alike j k xs ys e f = rw (e, f)

bytes-sole : (a b : Rec) → bytes_of a ≡ bytes_of b → a ≡ b
bytes-sole a b e =
    let n : kind_number a.kind ≡ kind_number b.kind = cc in
    let k : a.kind ≡ b.kind = kind-number a.kind b.kind n in
    let s : a.bytes ≡ b.bytes = cc in
    alike a.kind b.kind a.bytes b.bytes k s

times-out : (xs : List ℕ) (before : List Rec) (b : Rec) (behind : List Rec) → times xs (before ++ (b ∷ behind)) ≡ pick (same xs (bytes_of b)) 1 0 + times xs (before ++ behind)
times-out xs [] b behind = refl
times-out xs (a ∷ before) b behind =
    let e = times-out xs before b behind in
    let k : ℕ = pick (same xs (bytes_of a)) 1 0 in
    let n : ℕ = pick (same xs (bytes_of b)) 1 0 in
    let m : ℕ = times xs (before ++ behind) in
    let g : k + (n + m) ≡ n + (k + m) = omega arith in
    rw e g

-- one that occurs stands somewhere
found : (b : Rec) (cs : List Rec) → 0 < times (bytes_of b) cs → (before : List Rec) × (behind : List Rec) × (cs ≡ before ++ (b ∷ behind))
found b [] l = absurd (omega arith)
found b (a ∷ cs) l = by (same (bytes_of b) (bytes_of a)) refl (found b cs) l
  where
    by : (x : Bool) → same (bytes_of b) (bytes_of a) ≡ x → (0 < times (bytes_of b) cs → (before : List Rec) × (behind : List Rec) × (cs ≡ before ++ (b ∷ behind)))
        → 0 < pick x 1 0 + times (bytes_of b) cs → (before : List Rec) × (behind : List Rec) × (a ∷ cs ≡ before ++ (b ∷ behind))
    by true e ih l =
        let s : b ≡ a = bytes-sole b a (same_true (bytes_of b) (bytes_of a) e) in
        ([], cs, rw s)
    by false e ih l =
        let (before, behind, is) = ih (omega arith) in
        (a ∷ before, behind, ap (λ (l : List Rec). a ∷ l) is)

occurs : (b : Rec) (cs : List Rec) → 0 < times (bytes_of b) (b ∷ cs)
occurs b cs = rw (same_refl (bytes_of b)) (omega arith)

drawn : (cs ds : List Rec) → AsOften cs ds → Drawn cs ds
drawn [] [] r = refl
drawn (c ∷ cs) [] r = let l : 0 < times (bytes_of c) (c ∷ cs) = occurs c cs in absurd (omega (arith, r (bytes_of c)))
drawn cs (d ∷ ds) r =
    let l : 0 < times (bytes_of d) cs = rw (r (bytes_of d)) (occurs d ds) in
    let (before, behind, is) = found d cs l in (
      before,
      behind,
      is,
      drawn (before ++ behind) ds (λ xs. (let e : times xs cs ≡ pick (same xs (bytes_of d)) 1 0 + times xs (before ++ behind) = ap (times xs) is ∙ times-out xs before d behind in
          let f : times xs cs ≡ pick (same xs (bytes_of d)) 1 0 + times xs ds = r xs in
          omega arith)),
    )

arranged : (cs ds : List Rec) → Drawn cs ds → AsOften cs ds
arranged cs [] d xs = rw d
arranged cs (y ∷ ds) (before, behind, is, d) xs = rw (is, times-out xs before y behind, arranged (before ++ behind) ds d xs)

-- ---- by positions

-- where position n is, once position j is gone
abbrev closer : ℕ → ℕ → ℕ
closer j zero = zero
closer zero (suc n) = n
closer (suc j) (suc n) = suc (closer j n)

closer-sole : (j m n : ℕ) → (m ≡ j → ⊥) → (n ≡ j → ⊥) → closer j m ≡ closer j n → m ≡ n
closer-sole j zero zero v w e = refl
closer-sole zero zero (suc n) v w e = absurd (v refl)
closer-sole (suc j) zero (suc n) v w e = absurd (omega arith)
closer-sole zero (suc m) zero v w e = absurd (w refl)
closer-sole (suc j) (suc m) zero v w e = absurd (omega arith)
closer-sole zero (suc m) (suc n) v w e = ap suc e
closer-sole (suc j) (suc m) (suc n) v w e = ap suc (closer-sole j m n (λ f. v (ap suc f)) (λ f. w (ap suc f)) (omega arith))

module _ {A : Type 0} where
  split : (xs : List A) (j : ℕ) (y : A) → get_elem? xs j ≡ some y → (before : List A) × (behind : List A) × (length before ≡ j) × (xs ≡ before ++ (y ∷ behind))
  split [] j y e = absurd (let z : ◌≡◌ {A = ℕ} 0 1 = cc in omega arith)
  split (x ∷ xs) zero y e = let s : x ≡ y = cc in ([], xs, refl, rw s)
  split (x ∷ xs) (suc j) y e =
      let (before, behind, l, is) = split xs j y e in
      (x ∷ before, behind, ap suc l, ap (λ (l : List A). x ∷ l) is)

  without : (before : List A) (y : A) (behind : List A) (n : ℕ) → (n ≡ length before → ⊥)
      → get_elem? (before ++ (y ∷ behind)) n ≡ get_elem? (before ++ behind) (closer (length before) n)
  without [] y behind zero d = absurd (d refl)
  without [] y behind (suc n) d = refl
  without (x ∷ before) y behind zero d = refl
  without (x ∷ before) y behind (suc n) d = without before y behind n (λ e. d (ap suc e))

  moved-drawn : (xs ys : List A) (from : ℕ → ℕ) → length ys ≡ length xs → ((p : ℕ) → p < length ys → get_elem? ys p ≡ get_elem? xs (from p))
      → ((p q : ℕ) → p < length ys → q < length ys → from p ≡ from q → p ≡ q) → Drawn xs ys
  moved-drawn [] [] from l at sole = refl
  moved-drawn (x ∷ xs) [] from l at sole = absurd (omega arith)
  moved-drawn xs (y ∷ ys) from l at sole =
      let (before, behind, n, is) = split xs (from 0) y (sym (at 0 (omega arith))) in
      let k : length xs ≡ length before + suc (length behind) = ap length is ∙ length-append before (y ∷ behind) in
      let m : length ys ≡ length (before ++ behind) = rw length-append (omega arith) in
      let other : (p : ℕ) → p < length ys → from (suc p) ≡ length before → ⊥ = λ p o e. (let z : suc p ≡ 0 = sole (suc p) 0 (omega arith) (omega arith) (e ∙ n) in omega arith) in (
        before,
        behind,
        is,
        moved-drawn (before ++ behind) ys (λ p. closer (length before) (from (suc p))) m
            (λ p o. at (suc p) (omega arith) ∙ (ap (λ (l : List A). get_elem? l (from (suc p))) is ∙ without before y behind (from (suc p)) (other p o)))
            (λ p q o u e. (let z : suc p ≡ suc q = sole (suc p) (suc q) (omega arith) (omega arith) (closer-sole (length before) (from (suc p)) (from (suc q)) (other p o) (other q u) e) in omega arith)),
      )

  pub rearranged-drawn : (xs ys : List A) → Rearranged xs ys → Drawn xs ys
  rearranged-drawn xs ys r = moved-drawn xs ys r.from r.long r.taken r.sole

-- where position n is, once a position j is put before it or behind
abbrev further : ℕ → ℕ → ℕ
further zero n = suc n
further (suc j) zero = zero
further (suc j) (suc n) = suc (further j n)

further-other : (j n : ℕ) → further j n ≡ j → ⊥
further-other zero n e = omega arith
further-other (suc j) zero e = omega arith
further-other (suc j) (suc n) e = further-other j n (omega arith)

further-sole : (j m n : ℕ) → further j m ≡ further j n → m ≡ n
further-sole zero m n e = omega arith
further-sole (suc j) zero zero e = refl
further-sole (suc j) zero (suc n) e = absurd (omega arith)
further-sole (suc j) (suc m) zero e = absurd (omega arith)
further-sole (suc j) (suc m) (suc n) e = ap suc (further-sole j m n (omega arith))

-- j first, then where f has the others
abbrev first : ℕ → (ℕ → ℕ) → ℕ → ℕ
first j f zero = j
first j f (suc p) = further j (f p)

module _ {A : Type 0} where
  there : (before : List A) (y : A) (behind : List A) → get_elem? (before ++ (y ∷ behind)) (length before) ≡ some y
  there [] y behind = refl
  there (x ∷ before) y behind = there before y behind

  others : (before : List A) (y : A) (behind : List A) (n : ℕ) → get_elem? (before ++ behind) n ≡ get_elem? (before ++ (y ∷ behind)) (further (length before) n)
  others [] y behind n = refl
  others (x ∷ before) y behind zero = refl
  others (x ∷ before) y behind (suc n) = others before y behind n

  pub drawn-rearranged : (xs ys : List A) → Drawn xs ys → Rearranged xs ys
  drawn-rearranged xs [] d = record { long = rw d; from = λ p. p; taken = λ p l. absurd (omega arith); sole = λ p q l m e. e }
  drawn-rearranged xs (y ∷ ys) (before, behind, is, d) =
      let r = drawn-rearranged (before ++ behind) ys d in
      let j = length before in
      let k : suc (length ys) ≡ length xs = ap suc (r.long ∙ length-append before behind) ∙ sym (ap length is ∙ (length-append before (y ∷ behind) ∙ omega arith)) in
      record { long = k; from = first j r.from; taken = taken r; sole = sole r }
    where
      taken : (r : Rearranged (before ++ behind) ys) (p : ℕ) → p < suc (length ys) → get_elem? (y ∷ ys) p ≡ get_elem? xs (first (length before) r.from p)
      taken r zero l = sym (ap (λ (l : List A). get_elem? l (length before)) is ∙ there before y behind)
      taken r (suc p) l = r.taken p (omega arith) ∙ (others before y behind (r.from p) ∙ sym (ap (λ (l : List A). get_elem? l (further (length before) (r.from p))) is))

      sole : (r : Rearranged (before ++ behind) ys) (p q : ℕ) → p < suc (length ys) → q < suc (length ys) → first (length before) r.from p ≡ first (length before) r.from q → p ≡ q
      sole r zero zero l m e = refl
      sole r zero (suc q) l m e = absurd (further-other (length before) (r.from q) (sym e))
      sole r (suc p) zero l m e = absurd (further-other (length before) (r.from p) e)
      sole r (suc p) (suc q) l m e = ap suc (r.sole p q (omega arith) (omega arith) (further-sole (length before) (r.from p) (r.from q) e))

pub often : (cs ds : List Rec) → Rearranged cs ds ↔ AsOften cs ds
often cs ds = (λ r. arranged cs ds (rearranged-drawn cs ds r), λ o. drawn-rearranged cs ds (drawn cs ds o))
