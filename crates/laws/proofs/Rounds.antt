-- One call behind the other: what the first leaves at the front of its buffer is what the second is lent, and of that the round trips speak.
use mathlib.Core.Path.{◌≡◌}
use Prim.Native.Nat.{ℕ, ◌≤◌, ◌<◌}
use mathlib.Core.List.{List}
use lib.ListN.{length}
use borrow.Author.Tests.{le-ltb, lt-ltb}
use Rattle.format.specs.Bytes.{Bytes, over, refused, given, and_then}
use Rattle.format.specs.Build.{fitting, build, table, written, built}
use Rattle.format.specs.Normal.{recipe_of, normal}
use Rattle.format.specs.Read.{length_in, own, judge_head, walked}
use Rattle.format.specs.Out.{every, out_of, meaning_of, read_out, recipe, out_written}
use Rattle.laws.specs.Demand2.{ThereAndBack, BackAndThere}
use Rattle.laws.specs.Buffers.{Front}
use Rattle.laws.proofs.Finds.{then-given}
use Rattle.laws.proofs.Trips.{judged, own-whole}
use Rattle.laws.proofs.Promises as Promises
use Rattle.laws.proofs.Buffers.{build-leaves, out-leaves}

-- ---- a length that fits, and one that does not

module _ (number n : ℕ) (bs buffer : List ℕ) where
  with-room : n ≤ length buffer → (fitting number (length buffer) n ≡ given n) × (written (fitting number (length buffer) n) bs buffer ≡ over buffer 0 bs)
  unfolding written
  with-room l = let e = le-ltb (length buffer) n l in (rw e, rw e)

  without : length buffer < n → (fitting number (length buffer) n ≡ refused number n) × (written (fitting number (length buffer) n) bs buffer ≡ buffer)
  unfolding written
  without l = let e = lt-ltb (length buffer) n l in (rw e, rw e)

-- ---- building, then reading out

pub there_and_back : (r out buffer : List ℕ) (n : ℕ) → Bytes r → build r (length out) ≡ given n → ThereAndBack r out buffer n
unfolding out_written
there_and_back r out buffer n b e =
    let B = Promises.built r (length out) n b e in
    let F : Front n (table r) out (built r out) = rw e at (build-leaves r out) in
    let k = length (normal r) in
    record {
      lent = F.first;
      room = λ l. rw (F.first, B.room (length buffer), B.out) (with-room 31 k (normal r) buffer l);
      no_room = λ l. rw (F.first, B.room (length buffer), B.out) (without 31 k (normal r) buffer l);
    }

-- ---- reading out, then building

-- a table that reads out has all bytes that its length covers
own-long : (b : List ℕ) (k n : ℕ) → read_out b k ≡ given n → length (own b) ≡ length_in b
unfolding read_out meaning_of
own-long b k n e =
    let (m, q, f) = then-given (meaning_of b) (λ m. fitting 31 k (length (recipe_of m))) e in
    let (t, j, g) = then-given (judge_head b) (λ t. and_then (walked t b every) (out_of t b)) q in
    own-whole (judged b t j)

pub back-and-there : (b out buffer : List ℕ) (n : ℕ) → Bytes b → read_out b (length buffer) ≡ given n → BackAndThere b out buffer n
unfolding built
back-and-there b out buffer n h e =
    let R = Promises.rebuilt b (length buffer) n h e in
    let F : Front n (recipe b) buffer (out_written b buffer) = rw e at (out-leaves b buffer) in
    let l = own-long b (length buffer) n e in
    let k = length_in b in
    record {
      lent = F.first;
      room = λ i. rw (F.first, R.room (length out), R.same, l) (with-room 9 k (own b) out (rw l at i));
      no_room = λ i. rw (F.first, R.room (length out), R.same, l) (without 9 k (own b) out (rw l at i));
      long = l;
    }
