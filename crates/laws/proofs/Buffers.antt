-- What build and reading out leave in a buffer, for every recipe, table and buffer: a length that is given is that of what is laid down, by cases on the answer.
use mathlib.Core.Path.{◌≡◌, refl, ◌∙◌}
use Prim.Native.Nat.{ℕ, ◌≤◌}
use native.Mathlib.Nat.{zero-add}
use mathlib.Core.List.{List, ◌++◌}
use mathlib.Core.Bool.{Bool, true, false}
use native.Mathlib.Omega.{arith}
use lib.ListN.{length, drop}
use lib.Seq.{take_at, drop_at}
use lib.Dec.{ltb}
use borrow.Author.Tests.{ltb-false}
use Rattle.format.specs.Bytes.{pick, over, Answer, refused, given}
use Rattle.format.specs.Recipe.{Meaning, meaning}
use Rattle.format.specs.Build.{length_of, fitting, build, table, written, built}
use Rattle.format.specs.Normal.{recipe_of}
use Rattle.format.specs.Out.{meaning_of, read_out, recipe, out_written}
use Rattle.laws.specs.Buffers.{Front, Leaves}
use Rattle.laws.proofs.Bytes.{over-fits, length_over, length_part}
use Rattle.laws.proofs.Finds.{then-given}
use Rattle.laws.proofs.Refusals.{meaning-given}
use Rattle.laws.proofs.Promises.{length-table}

-- ---- what is laid down

front-over : (bs buffer : List ℕ) (n : ℕ) → length bs ≡ n → n ≤ length buffer → Front n bs buffer (over buffer 0 bs)
front-over bs buffer n l r =
    let e : over buffer 0 bs ≡ bs ++ drop n buffer = over-fits buffer 0 bs (omega arith) ∙ rw (zero-add, l) in
    record { long = l; room = r; first = rw (e, take_at bs (drop n buffer) n l); past = rw (e, drop_at bs (drop n buffer) n l); same = length_over buffer 0 bs }

leaves : (a : Answer ℕ) (bs buffer : List ℕ) → ((n : ℕ) → a ≡ given n → (length bs ≡ n) × (n ≤ length buffer)) → Leaves a bs buffer (written a bs buffer)
unfolding written
leaves (refused n p) bs buffer h = refl
leaves (given n) bs buffer h = let (l, r) = h n refl in front-over bs buffer n l r

-- ---- the length that is given

fitting-room : (number room n k : ℕ) → fitting number room n ≡ given k → (n ≡ k) × (k ≤ room)
fitting-room number room n k e = by (ltb room n) refl e
  where
    by : (x : Bool) → ltb room n ≡ x → pick x (refused number n) (given n) ≡ given k → (n ≡ k) × (k ≤ room)
    by true q e = absurd (let z : ◌≡◌ {A = ℕ} 0 1 = cc in omega arith)
    by false q e = let z : n ≡ k = cc in (z, omega (arith, ltb-false room n q))

meaning-identity : (r : List ℕ) (m : Meaning) → meaning r ≡ given m → length m.head.identity ≡ 26
meaning-identity r m e =
    let s = (meaning-given r m).0 e in
    let l : 28 ≤ length r = s.head.1 in
    rw s.identity (length_part r 2 26 (omega arith))

-- ---- the two calls

pub build-leaves : (r buffer : List ℕ) → Leaves (build r (length buffer)) (table r) buffer (built r buffer)
unfolding built build table
build-leaves r buffer =
    leaves (build r (length buffer)) (table r) buffer λ n e.
    let (m, q, f) = then-given (meaning r) (λ m. fitting 9 (length buffer) (length_of m)) e in
    let (l, room) = fitting-room 9 (length buffer) (length_of m) n f in
    (rw q (length-table m (meaning-identity r m q) ∙ l), room)

pub out-leaves : (b buffer : List ℕ) → Leaves (read_out b (length buffer)) (recipe b) buffer (out_written b buffer)
unfolding out_written read_out recipe
out-leaves b buffer =
    leaves (read_out b (length buffer)) (recipe b) buffer λ n e.
    let (m, q, f) = then-given (meaning_of b) (λ m. fitting 31 (length buffer) (length (recipe_of m))) e in
    let (l, room) = fitting-room 31 (length buffer) (length (recipe_of m)) n f in
    (rw q l, room)
