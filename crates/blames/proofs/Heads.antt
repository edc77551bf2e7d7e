-- The words of a place, case by case in the order of the tests: no head, past the end, in the head, behind a head with a table or without.
use mathlib.Core.Path.{◌≡◌}
use Prim.Native.Nat.{ℕ, ◌≤◌, ◌<◌}
use mathlib.Core.List.{List, []}
use mathlib.Core.Option.{none, some}
use borrow.Author.Tests.{ne_eqb, le-leb, lt-leb, lt-ltb, le-ltb}
use lib.ListN.{length, drop}
use Rattle.format.specs.Bytes.{value, part}
use Rattle.format.specs.Table.{Table}
use Rattle.format.specs.Recipe.{cut, table_of}
use Rattle.laws.proofs.Bytes.{value-byte}
use Rattle.blames.specs.Words.{holder, head_words, record_words, field_words}

module _ (r : List ℕ) (place : ℕ) where
  pub no-head : (value (part r 0 1) ≡ 1 → ⊥) → field_words r place ≡ []
  unfolding field_words
  no-head e = rw (value-byte r 0, ne_eqb _ _ e)

  module _ (e : value (part r 0 1) ≡ 1) where
    pub past_end : length r ≤ place → field_words r place ≡ []
    unfolding field_words
    past_end l = rw (value-byte r 0, e, le-leb _ _ l)

    module _ (l : place < length r) where
      pub inside : place < 28 → field_words r place ≡ head_words place
      unfolding field_words
      inside h = rw (value-byte r 0, e, lt-leb _ _ l, lt-ltb _ _ h)

      module _ (h : 28 ≤ place) where
        pub behind : (t : Table) → table_of (value (part r 1 1)) ≡ some t → field_words r place ≡ record_words place (holder place (cut t 0 28 (drop 28 r)))
        unfolding field_words
        behind t z = rw (value-byte r 0, e, lt-leb _ _ l, le-ltb _ _ h, value-byte r 1, z)

        pub no_table : table_of (value (part r 1 1)) ≡ none → field_words r place ≡ []
        unfolding field_words holder record_words
        no_table z = rw (value-byte r 0, e, lt-leb _ _ l, le-ltb _ _ h, value-byte r 1, z)
