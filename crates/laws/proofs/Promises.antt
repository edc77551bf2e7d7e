-- Demand 2 for every recipe and every table, in terms of the calls alone: from the round trips on what recipes and tables mean.
use mathlib.Core.Path.{◌≡◌, ◌∙◌}
use Prim.Native.Nat.{ℕ, ◌+◌, ◌%◌}
use mathlib.Core.List.{List, ◌++◌}
use mathlib.Core.Bool.{Bool, true, false}
use lib.ListN.{length, length-append}
use lib.Dec.{ltb}
use Rattle.format.specs.Bytes.{pick, Bytes, sum, refused, given}
use Rattle.format.specs.Table.{front}
use Rattle.format.specs.Recipe.{Meaning, meaning}
use Rattle.format.specs.Build.{records, header, check_of, summed, table_from, length_of, fitting, build, table}
use Rattle.format.specs.Normal.{recipe_of, normal}
use Rattle.format.specs.Out.{meaning_of, read_out, recipe}
use Rattle.laws.specs.Demand2.{Built, Rebuilt}
use Rattle.laws.proofs.Finds.{then-given}
use Rattle.laws.proofs.Heads.{sum-zero, length-header, length-records}
use Rattle.laws.proofs.Builds.{meaning-good, table-means}
use Rattle.laws.proofs.Trips.{normal-means, second-trip}

fitting-given : (number room n k : ℕ) → fitting number room n ≡ given k → n ≡ k
fitting-given number room n k e = by (ltb room n) e
  where
    by : (x : Bool) → pick x (refused number n) (given n) ≡ given k → n ≡ k
    by true e = cc
    by false e = cc

sum-table : (m : Meaning) → sum (table_from m) % 256 ≡ 0
unfolding table_from summed
sum-table m = sum-zero m.head (length m.nodes) (front m.head.table + length (records m.head.table m.nodes)) (records m.head.table m.nodes)

pub length-table : (m : Meaning) → length m.head.identity ≡ 26 → length (table_from m) ≡ length_of m
unfolding table_from summed
length-table m h26 =
    let h = m.head in
    let k = length m.nodes in
    let rs = records h.table m.nodes in
    let n = front h.table + length rs in
    rw (length-append, length-header h k n (check_of (sum (header h k n 0 ++ rs))) h26, length-records)

pub built : (r : List ℕ) (k n : ℕ) → Bytes r → build r k ≡ given n → Built r n
unfolding build table normal recipe read_out
built r k n b e =
    let (m, q, f) = then-given (meaning r) (λ m. fitting 9 k (length_of m)) e in
    let t : meaning_of (table_from m) ≡ given m = table-means r m b q in
    let s : meaning (recipe_of m) ≡ given m = normal-means r m b q in
    let l : length (table_from m) ≡ n = length-table m (meaning-good r m b q).identity ∙ fitting-given 9 k (length_of m) n f in
    record { long = rw q l; summed = rw q (sum-table m); out = rw (q, t); room = λ j. rw (q, t); again = λ j. rw (q, s); same = rw (q, s); settled = rw (q, s) }

pub rebuilt : (b : List ℕ) (k n : ℕ) → Bytes b → read_out b k ≡ given n → Rebuilt b
unfolding build table normal recipe read_out
rebuilt b k n h e =
    let (m, q, f) = then-given (meaning_of b) (λ m. fitting 31 k (length (recipe_of m))) e in
    let R = second-trip b m h q in
    record { same = rw (q, R.means) R.table; room = λ j. rw (q, R.means, R.length); settled = rw (q, R.means) }
