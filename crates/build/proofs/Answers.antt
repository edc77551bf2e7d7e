-- The answers of a call: from what the check says to what the format says, of the number and of the buffer.
use mathlib.Core.Path.{◌≡◌, refl, ap}
use Prim.Native.Nat.{ℕ, ◌+◌, ◌≤◌, ◌<◌}
use mathlib.Core.List.{List}
use native.Mathlib.Omega.{arith}
use lib.ListN.{length}
use borrow.Author.Tests.{lt-ltb, le-ltb}
use Rattle.format.specs.Bytes.{over, Answer, refused, given}
use Rattle.format.specs.Table.{Table, front}
use Rattle.format.specs.Node.{sizes}
use Rattle.format.specs.Recipe.{Meaning, meaning}
use Rattle.format.specs.Build.{length_of, build, table, written, built}
use Rattle.recipe.specs.Answers.{outlined}
use Rattle.build.specs.Held.{Builds}

-- a good check: the recipe means a table of this kind and length
means-it : (a : Answer Meaning) (t : Table) (n : ℕ) → given (t, n) ≡ outlined a → (m : Meaning) × (a ≡ given m) × (m.head.table ≡ t) × (length_of m ≡ n)
means-it (refused k p) t n e = absurd (let z : ◌≡◌ {A = ℕ} 0 1 = cc in omega arith)
means-it (given m) t n e = let z : ◌≡◌ {A = Table × ℕ} (m.head.table, length_of m) (t, n) = cc in (m, refl, ap (λ (x : Table × ℕ). x.0) z, ap (λ (x : Table × ℕ). x.1) z)

-- a refusal of the check is the recipe's own
refused-it : (a : Answer Meaning) (k p : ℕ) → refused k p ≡ outlined a → a ≡ refused k p
refused-it (refused l q) k p e = cc
refused-it (given m) k p e = absurd (let z : ◌≡◌ {A = ℕ} 0 1 = cc in omega arith)

module _ (r out : List ℕ) where
  pub is-refused : (k p : ℕ) → refused k p ≡ outlined (meaning r) → (refused k p ≡ build r (length out)) × (out ≡ built r out)
  unfolding build built written
  is-refused k p e = let f = refused-it (meaning r) k p e in (rw f, rw f)

  pub no_room_lem : (t : Table) (n : ℕ) → given (t, n) ≡ outlined (meaning r) → length out < n → (refused 9 n ≡ build r (length out)) × (out ≡ built r out)
  unfolding build built written
  no_room_lem t n e l =
      let (m, f, g, h) = means-it (meaning r) t n e in
      (rw (f, h, lt-ltb (length out) n l), rw (f, h, lt-ltb (length out) n l))

  pub has_room : (t : Table) (n : ℕ) → given (t, n) ≡ outlined (meaning r) → n ≤ length out → Builds r t (length out)
  has_room t n e l =
      let (m, f, g, h) = means-it (meaning r) t n e in
      let k : front m.head.table + sizes m.nodes ≤ length out = omega arith in
      record { meant = m; means = f; for = g; room = rw g at k }

  pub is-built : (t : Table) (n : ℕ) → given (t, n) ≡ outlined (meaning r) → n ≤ length out → (given n ≡ build r (length out)) × (over out 0 (table r) ≡ built r out)
  unfolding build built written
  is-built t n e l =
      let (m, f, g, h) = means-it (meaning r) t n e in
      (rw (f, h, le-ltb (length out) n l), rw (f, h, le-ltb (length out) n l))
