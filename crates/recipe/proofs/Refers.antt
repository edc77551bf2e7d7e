-- References: the bit of a node says what the entries of the nodes so far say, by induction over the nodes.
use mathlib.Core.Path.{◌≡◌, refl}
use Prim.Native.Nat.{ℕ, zero, suc, ◌+◌, ◌-◌}
use mathlib.Core.List.{List, [], ◌∷◌, ◌++◌, append_assoc, append-nil}
use mathlib.Core.Bool.{Bool, true, false, not}
use native.Mathlib.Omega.{arith}
use native.Mathlib.Numerals.{add-one}
use lib.ListN.{length, length-append}
use lib.Seq.{get_or_at}
use lib.Dec.{eqb, leb, ltb}
use borrow.Author.Tests.{lt-ltb, le-ltb, le-leb, lt-leb, ltb-true, ltb-false, eqb-true, eqb-false, ne_eqb}
use Rattle.format.specs.Bytes.{pick, at}
use Rattle.format.specs.Table.{Table}
use Rattle.format.specs.Form.{Width, type_of}
use Rattle.format.specs.Node.{Node, starts, is_ordinal, at_ordinal}
use Rattle.recipe.specs.Machine.{Counts, state_of, types_of, of_type, Typed}
use Rattle.laws.proofs.Links.{length-starts}
use Rattle.recipe.proofs.Types.{read-type}

pub length_types : (ns : List Node) → length (types_of ns) ≡ length ns
unfolding types_of
length_types [] = refl
length_types (n ∷ ns) = rw length-append (omega (arith, length_types ns))

-- an ordinal is not 0 and below own
abbrev earlier : ℕ → ℕ → Bool
earlier own to = pick (eqb to 0) false (ltb to own)

-- it is, of one of the nodes that are there
ordinal-earlier : (n to ty : ℕ) → is_ordinal n to ty ≡ earlier (suc n) to
unfolding is_ordinal
ordinal-earlier n zero ty = refl
ordinal-earlier n (suc to) ty = rw (le-leb 1 (suc to) (omega arith), ne_eqb (suc to) 0 (λ z. omega arith)) (by (ltb (suc to) (suc n)) refl)
  where
    by : (x : Bool) → ltb (suc to) (suc n) ≡ x → leb (suc to) n ≡ x
    by true l = le-leb (suc to) n (omega (arith, ltb-true (suc to) (suc n) l))
    by false l = lt-leb (suc to) n (omega (arith, ltb-false (suc to) (suc n) l))

-- and the type of that node, in a list of types, is ty
abbrev names_in : List ℕ → ℕ → ℕ → ℕ → Bool
names_in ts own to ty = pick (eqb to 0) false (pick (ltb to own) (eqb (at ts (to - 1)) ty) false)

-- one ordinal more
names_more : (ts : List ℕ) (own to ty : ℕ) → names_in ts (suc (suc own)) to ty ≡ pick (eqb (suc own) to) (eqb (at ts own) ty) (names_in ts (suc own) to ty)
names_more ts own to ty = split (eqb (suc own) to) (ltb to (suc own)) refl refl
  where
    split : (x y : Bool) → eqb (suc own) to ≡ x → ltb to (suc own) ≡ y → names_in ts (suc (suc own)) to ty ≡ pick x (eqb (at ts own) ty) (names_in ts (suc own) to ty)
    split true y q l =
        let e : to - 1 ≡ own = omega (arith, eqb-true (suc own) to q) in
        rw (ne_eqb to 0 (λ z. omega (arith, eqb-true (suc own) to q)), lt-ltb to (suc (suc own)) (omega (arith, eqb-true (suc own) to q)), e)
    split false true q l = rw (lt-ltb to (suc (suc own)) (omega (arith, ltb-true to (suc own) l)), l)
    split false false q l = rw (le-ltb to (suc (suc own)) (omega (arith, ltb-false to (suc own) l, eqb-false (suc own) to q)), l)

names-below : (t : Table) (ns : List Node) (rest : List ℕ) (to ty : ℕ) → names_in (types_of ns ++ rest) (suc (length ns)) to ty ≡ at_ordinal (starts t ns) to ty
unfolding types_of starts at_ordinal
names-below t [] rest zero ty = refl
names-below t [] rest (suc to) ty = rw (ne_eqb (suc to) 0 (λ z. omega arith), le-ltb (suc to) 1 (omega arith))
names-below t (n ∷ ns) rest to ty =
    let ts = types_of ns ++ (type_of n.form ∷ rest) in
    let a : (types_of ns ++ (type_of n.form ∷ [])) ++ rest ≡ ts = append_assoc (types_of ns) (type_of n.form ∷ []) rest in
    let g : at ts (length ns) ≡ type_of n.form = get_or_at (types_of ns) (type_of n.form) rest 0 (length ns) (length_types ns) in
    rw (a, names_more ts (length ns) to ty, g, names-below t ns (type_of n.form ∷ rest) to ty, length-starts t ns)

-- the two tests of a reference, of a record that makes a node; the second does not ask again what the first has asked
module _ {A : Type 0} (a b c : A) where
  once : (z l o : Bool) → (z ≡ true → l ≡ true) → pick (not (pick z true (pick z false l))) a (pick (not (pick z true (pick z false (pick l o false)))) b c)
      ≡ pick (not l) a (pick (not (pick z true o)) b c)
  once true l o h = rw (h refl)
  once false true o h = refl
  once false false o h = refl

  once-joined : (z l o : Bool) → pick (not (pick z false l)) a (pick (not (pick z false (pick l o false))) b c) ≡ pick z a (pick (not l) a (pick (not o) b c))
  once-joined true l o = refl
  once-joined false true o = refl
  once-joined false false o = refl

  module _ (ws : List ℕ) (t : Table) (u : Width) (s : Counts) (to ty : ℕ) where
    pub refers-new : (ns : List Node) → s ≡ state_of t u ns → Typed ws (types_of ns)
        → pick (not (pick (eqb to 0) true (is_ordinal (length ns) to ty))) a (pick (not (pick (eqb to 0) true (at_ordinal (starts t ns) to ty))) b c)
        ≡ pick (not (ltb to (s.nodes + 1))) a (pick (not (pick (eqb to 0) true (of_type ws to ty))) b c)
    refers-new ns e w =
        let q : names_in (types_of ns) (suc (length ns)) to ty ≡ at_ordinal (starts t ns) to ty = rw append-nil at (names-below t ns [] to ty) in
        rw (ordinal-earlier (length ns) to ty, ← q, e, add-one, read-type ws (types_of ns) w (to - 1))
        (once (eqb to 0) (ltb to (suc (length ns))) (eqb (at (types_of ns) (to - 1)) ty) (λ z. lt-ltb to (suc (length ns)) (omega (arith, eqb-true to 0 z))))

    -- of one that joins the newest node
    pub refers-joined : (n : Node) (ns : List Node) → s ≡ state_of t u (n ∷ ns) → Typed ws (types_of (n ∷ ns))
        → pick (not (is_ordinal (length ns) to ty)) a (pick (not (at_ordinal (starts t ns) to ty)) b c)
        ≡ pick (eqb to 0) a (pick (not (ltb to s.nodes)) a (pick (not (of_type ws to ty)) b c))
    unfolding types_of
    refers-joined n ns e w =
        rw (ordinal-earlier (length ns) to ty, ← names-below t ns (type_of n.form ∷ []) to ty, e, read-type ws (types_of (n ∷ ns)) w (to - 1))
        (once-joined (eqb to 0) (ltb to (suc (length ns))) (eqb (at (types_of (n ∷ ns)) (to - 1)) ty))
