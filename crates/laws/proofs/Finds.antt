-- What a search finds and what an answer gives: each by cases on the test or on the answer, for any type.
use mathlib.Core.Path.{◌≡◌, refl}
use Prim.Native.Nat.{ℕ, zero, suc, ◌≤◌, ◌<◌}
use mathlib.Core.List.{List, [], ◌∷◌, map}
use mathlib.Core.Bool.{Bool, true, false}
use mathlib.Core.Option
use mathlib.Core.Option.{Option, none, some}
use native.Mathlib.Omega.{arith}
use lib.ListN.{get_elem?}
use lib.Dec.{eqb, lit≤}
use borrow.Author.Tests.{eqb-true}
use Rattle.format.specs.Bytes.{pick, first_of, find, Answer, refused, given, and_then, or_refused, unless, unless_found}

-- a test cannot fail and pass
pub never : {A : Type 0} → false ≡ true → A
never h = absurd (let z : ◌≡◌ {A = ℕ} 0 1 = cc in omega arith)

-- ---- lists

-- P holds of every element
abbrev pub All : {A : Type 0} → (A → Type 0) → List A → Type 0
All P [] = Unit
All P (x ∷ xs) = P x × All P xs

module _ {A : Type 0} where
  -- what is found passes the test
  pub found-test : (p : A → Bool) (xs : List A) (x : A) → find p xs ≡ some x → p x ≡ true
  found-test p [] x e = cc
  found-test p (y ∷ ys) x e = split (p y) refl (found-test p ys x) e
    where
      split : (b : Bool) → p y ≡ b → (find p ys ≡ some x → p x ≡ true) → pick b (some y) (find p ys) ≡ some x → p x ≡ true
      split true q ih e = cc
      split false q ih e = ih e

  -- what is found has what all have
  pub found_in : (P : A → Type 0) (p : A → Bool) (xs : List A) (x : A) → All P xs → find p xs ≡ some x → P x
  found_in P p [] x a e = absurd (let z : ◌≡◌ {A = ℕ} 0 1 = cc in omega arith)
  found_in P p (y ∷ ys) x a e = split (p y) (found_in P p ys x a.1) e
    where
      split : (b : Bool) → (find p ys ≡ some x → P x) → pick b (some y) (find p ys) ≡ some x → P x
      split true ih e = let z : y ≡ x = cc in rw z at a.0
      split false ih e = ih e

  -- what is found by p and passes q is found by q, if p passes all that q passes
  pub found-closer : (p q : A → Bool) → ((y : A) → q y ≡ true → p y ≡ true) → (xs : List A) (x : A) → find p xs ≡ some x → q x ≡ true → find q xs ≡ some x
  found-closer p q h [] x e g = e
  found-closer p q h (y ∷ ys) x e g = split (p y) (q y) refl (h y) (λ d. found-closer p q h ys x d g) e
    where
      split : (a b : Bool) → q y ≡ b → (b ≡ true → a ≡ true) → (find p ys ≡ some x → find q ys ≡ some x)
          → pick a (some y) (find p ys) ≡ some x → pick b (some y) (find q ys) ≡ some x
      split true true k w ih e = e
      split true false k w ih e = cc
      split false true k w ih e = let z : false ≡ true = w refl in cc
      split false false k w ih e = ih e

pub at_map : {A B : Type 0} (f : A → B) (xs : List A) (n : ℕ) → get_elem? (map f xs) n ≡ Option.map f (get_elem? xs n)
at_map f [] n = refl
at_map f (x ∷ xs) zero = refl
at_map f (x ∷ xs) (suc n) = at_map f xs n

-- where no number comes first, no test is true
pub none_first : (ts : List (Bool × ℕ)) → All (λ t. 0 < t.1) ts → first_of ts ≡ 0 → All (λ t. t.0 ≡ false) ts
none_first [] a e = tt
none_first (t ∷ ts) a e = split t.0 refl (none_first ts a.1) e
  where
    split : (b : Bool) → t.0 ≡ b → (first_of ts ≡ 0 → All (λ t. t.0 ≡ false) ts) → pick b t.1 (first_of ts) ≡ 0 → All (λ t. t.0 ≡ false) (t ∷ ts)
    split true q ih e = absurd (let l : 0 < t.1 = a.0 in omega arith)
    split false q ih e = (q, ih e)

-- ---- answers

module _ {A : Type 0} where
  pub then-given : {B : Type 0} (a : Answer A) (f : A → Answer B) {y : B} → and_then a f ≡ given y → (x : A) × (a ≡ given x) × (f x ≡ given y)
  then-given (refused n p) f e = absurd (let z : ◌≡◌ {A = ℕ} 0 1 = cc in omega arith)
  then-given (given x) f e = (x, refl, e)

  pub or-given : (n p : ℕ) (o : Option A) {x : A} → or_refused n p o ≡ given x → o ≡ some x
  or-given n p none e = cc
  or-given n p (some y) e = cc

  pub unless-given : (f p : ℕ) (a : Answer A) {x : A} → unless f p a ≡ given x → (f ≡ 0) × (a ≡ given x)
  unless-given f p a {x} e = split (eqb f 0) refl e
    where
      split : (b : Bool) → eqb f 0 ≡ b → pick b a (refused f p) ≡ given x → (f ≡ 0) × (a ≡ given x)
      split true q e = (eqb-true f 0 q, e)
      split false q e = (cc, cc)

  pub found-given : {B : Type 0} (n : ℕ) (place : A → ℕ) (o : Option A) (a : Answer B) {x : B} → unless_found n place o a ≡ given x → (o ≡ none) × (a ≡ given x)
  found-given n place none a e = (refl, e)
  found-given n place (some y) a e = absurd (let z : ◌≡◌ {A = ℕ} 0 1 = cc in omega arith)

-- ---- the numbers of refusals

-- a refusal's number is at most k
abbrev pub UpTo : {A : Type 0} → ℕ → Answer A → Type 0
UpTo k (refused n p) = n ≤ k
UpTo k (given x) = Unit

module _ (k : ℕ) where
  pub upto-choice : (b : Bool) (m n : ℕ) → m ≤ k → n ≤ k → pick b m n ≤ k
  upto-choice true m n h i = h
  upto-choice false m n h i = i

  module _ {A : Type 0} where
    pub upto-pick : (b : Bool) (x y : Answer A) → UpTo k x → UpTo k y → UpTo k (pick b x y)
    upto-pick true x y h i = h
    upto-pick false x y h i = i

    pub upto-or : (n p : ℕ) (o : Option A) → n ≤ k → UpTo k (or_refused n p o)
    upto-or n p none h = h
    upto-or n p (some x) h = tt

    pub upto-unless : (f p : ℕ) (a : Answer A) → f ≤ k → UpTo k a → UpTo k (unless f p a)
    upto-unless f p a h i = upto-pick (eqb f 0) a (refused f p) i h

    pub upto-then : {B : Type 0} (a : Answer A) (f : A → Answer B) → UpTo k a → ((x : A) → UpTo k (f x)) → UpTo k (and_then a f)
    upto-then (refused n p) f h i = h
    upto-then (given x) f h i = i x

    -- a refusal with a higher number comes from behind what was given
    pub then-refused : {B : Type 0} (a : Answer A) (f : A → Answer B) {n p : ℕ} → UpTo k a → k < n → and_then a f ≡ refused n p
        → (x : A) × (a ≡ given x) × (f x ≡ refused n p)
    then-refused (refused m q) f {n} h l e = absurd (let z : m ≡ n = cc in omega arith)
    then-refused (given x) f h l e = (x, refl, e)

pub ruleset upto = (upto-choice, upto-pick, upto-or, upto-unless, upto-then, lit≤, tt)
