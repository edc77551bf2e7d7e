-- Reading out by places is reading out: of a table that is accepted with every row known, the walk's answer and bytes are the format's.
use mathlib.Core.Path.{◌≡◌, refl, sym}
use Prim.Native.Nat.{ℕ, ◌+◌, ◌≤◌}
use mathlib.Core.List.{List, [], ◌++◌}
use mathlib.Core.Bool.{Bool, true, false}
use mathlib.Core.Option.{Option, none, some, map}
use native.Mathlib.Omega.{arith}
use lib.ListN.{length, length-append}
use lib.Dec.{eqb}
use Rattle.format.specs.Bytes.{pick, Answer, refused, given, and_then, of_given, unless_found, at, part}
use Rattle.format.specs.Layout.{as_is}
use Rattle.format.specs.Table.{Table, front, limit, revision}
use Rattle.format.specs.Row.{row_of}
use Rattle.format.specs.Node.{Node}
use Rattle.format.specs.Recipe.{means}
use Rattle.format.specs.Normal.{calls_of, head_call, recipe_of}
use Rattle.format.specs.Read.{signed, own, type_in, Frames, ended, bad_frame, framed_at, Seen, judge_head, walked, accept}
use Rattle.format.specs.Build.{fitting, written}
use Rattle.format.specs.Out.{every, nodes_from, old, head_in, out_of, meaning_of, read_out, recipe, out_written}
use Rattle.laws.proofs.Bytes.{length_part}
use Rattle.laws.proofs.Finds.{then-given}
use Rattle.laws.proofs.Trips.{judged, own-whole}
use Rattle.header.proofs.Laws.{front_long}
use Rattle.frames.specs.Frames.{frames_of}
use Rattle.read.proofs.Listing.{signed-as}
use Rattle.readout.specs.Places.{is_row, unless_unknown, first_old, calls_at, measured, recipe_as, out_as}
use Rattle.readout.proofs.Ordinals.{agrees_start}
use Rattle.readout.proofs.Outs.{out-all, old-told}

module _ (t : Table) (rev : ℕ) where
  unless-map : {A B : Type 0} (f : A → B) (a : A) (fs : Frames) → unless_unknown t rev (f a) fs ≡ and_then (unless_unknown t rev a fs) (λ x. given (f x))
  unfolding unless_unknown
  unless-map f a ended = refl
  unless-map f a (bad_frame p) = refl
  unless-map {A} {B} f a (framed_at p bs rest) = by (is_row (row_of t rev (type_in t bs) bs)) (unless-map f a rest)
    where
      by : (x : Bool) → unless_unknown t rev (f a) rest ≡ and_then (unless_unknown t rev a rest) (λ x. given (f x))
          → pick x (unless_unknown t rev (f a) rest) (refused 29 p) ≡ and_then (pick x (unless_unknown t rev a rest) (refused 29 p)) (λ x. given (f x))
      by true ih = ih
      by false ih = refl

  unless-given : {A : Type 0} (a b : A) (fs : Frames) → given b ≡ unless_unknown t rev a fs → a ≡ b
  unfolding unless_unknown
  unless-given a b ended e = cc
  unless-given a b (bad_frame p) e = cc
  unless-given {A} a b (framed_at p bs rest) e = by (is_row (row_of t rev (type_in t bs) bs)) (unless-given a b rest) e
    where
      by : (x : Bool) → (given b ≡ unless_unknown t rev a rest → a ≡ b) → given b ≡ pick x (unless_unknown t rev a rest) (refused 29 p) → a ≡ b
      by true ih e = ih e
      by false ih e = absurd (let z : ◌≡◌ {A = ℕ} 0 1 = cc in omega arith)

-- the calls of the nodes, or refusal 29
abbrev calls_if : Answer (List Node) → Answer (List ℕ)
calls_if a = and_then a (λ ms. given (calls_of ms))

module _ (b : List ℕ) (t : Table) (ss : List Seen) (h : judge_head b ≡ given t) (w : walked t b every ≡ given ss) where
  nodes-told : calls_if (nodes_from [] [] ss) ≡ unless_unknown t (at b 8) (calls_at t (at b 8) (own b)) (frames_of t (own b))
  unfolding walked calls_at calls_of
  nodes-told = out-all t (at b 8) (own b) (length (own b)) (front t) [] [] ss (omega arith) (agrees_start t (own b)) w

  identity-long : length (part b 10 26) ≡ 26
  identity-long =
      let J = judged b t h in
      length_part b 10 26 (omega (arith, J.long, J.lent, front_long t))

  old-place : map (λ s. s.place) (old ss) ≡ first_old t (at b 8) (frames_of t (own b))
  unfolding walked
  old-place = old-told t (at b 8) [] (frames_of t (own b)) ss w

  measured-is : measured t (at b 8) (own b) ≡ and_then (and_then (calls_if (nodes_from [] [] ss)) (λ cs. given (28 + length cs))) (λ n. unless_found 32 as_is (map (λ s. s.place) (old ss)) (given n))
  unfolding measured
  measured-is = rw (unless-map t (at b 8) (λ cs. 28 + length cs) (calls_at t (at b 8) (own b)) (frames_of t (own b)), nodes-told, old-place)

  -- what is answered of what the nodes mean; O: the first record of a retired row
  answer : (x : Bool) (room : ℕ) (O : Option Seen) (N : Answer (List Node))
      → and_then (pick x (and_then N (λ ns. unless_found 32 (λ s. s.place) O (given (means (head_in t b) ns)))) (refused 30 8)) (λ m. fitting 31 room (length (recipe_of m)))
      ≡ pick x (and_then (and_then (and_then (calls_if N) (λ cs. given (28 + length cs))) (λ n. unless_found 32 as_is (map (λ s. s.place) O) (given n))) (fitting 31 room)) (refused 30 8)
  unfolding recipe_of
  answer false room O N = refl
  answer true room O (refused n p) = refl
  answer true room (some s) (given ns) = refl
  answer true room none (given ns) =
      let i = identity-long in
      let l = length-append (part b 10 26) (calls_of ns) in
      let e : length (head_call (head_in t b) ++ calls_of ns) ≡ 28 + length (calls_of ns) = omega arith in
      rw e

  pub answered : (room : ℕ) → read_out b room ≡ out_as t b room
  unfolding read_out meaning_of out_of out_as
  answered room = rw (h, w, measured-is) (answer (eqb (at b 8) (revision t)) room (old ss) (nodes_from [] [] ss))

  bytes : (x : Bool) (room : ℕ) (buffer : List ℕ) (O : Option Seen) (N : Answer (List Node)) → calls_if N ≡ unless_unknown t (at b 8) (calls_at t (at b 8) (own b)) (frames_of t (own b))
      → written (and_then (pick x (and_then N (λ ns. unless_found 32 (λ s. s.place) O (given (means (head_in t b) ns)))) (refused 30 8)) (λ m. fitting 31 room (length (recipe_of m))))
      (of_given recipe_of (pick x (and_then N (λ ns. unless_found 32 (λ s. s.place) O (given (means (head_in t b) ns)))) (refused 30 8))) buffer
      ≡ written (and_then (pick x (and_then N (λ ns. unless_found 32 (λ s. s.place) O (given (means (head_in t b) ns)))) (refused 30 8)) (λ m. fitting 31 room (length (recipe_of m)))) (recipe_as t b) buffer
  unfolding recipe_of recipe_as written
  bytes false room buffer O N e = refl
  bytes true room buffer O (refused n p) e = refl
  bytes true room buffer (some s) (given ns) e = refl
  bytes true room buffer none (given ns) e = rw (unless-given t (at b 8) (calls_at t (at b 8) (own b)) (calls_of ns) (frames_of t (own b)) e)

  pub wrote : (buffer : List ℕ) → out_written b buffer ≡ written (out_as t b (length buffer)) (recipe_as t b) buffer
  unfolding out_written read_out recipe meaning_of out_of
  wrote buffer = rw (← answered (length buffer), h, w) (bytes (eqb (at b 8) (revision t)) (length buffer) buffer (old ss) (nodes_from [] [] ss) nodes-told)

-- ---- refusals 20 to 27

-- a table that is refused is refused by reading out, and nothing is written
pub refused-first : (b : List ℕ) (n p : ℕ) → and_then (judge_head b) (λ t. walked t b every) ≡ refused n p → ((room : ℕ) → read_out b room ≡ refused n p) × ((buffer : List ℕ) → out_written b buffer ≡ buffer)
unfolding read_out meaning_of out_written written
refused-first b n p e = (out, λ buffer. rw (out (length buffer)))
  where
    by : (j : Answer Table) → and_then j (λ t. walked t b every) ≡ refused n p → and_then j (λ t. and_then (walked t b every) (out_of t b)) ≡ refused n p
    by (refused m q) e = cc
    by (given t) e = rw e

    out : (room : ℕ) → read_out b room ≡ refused n p
    out room = rw (by (judge_head b) e)

-- ---- what a judgement says

pub judged-sizes : (b : List ℕ) (t : Table) → judge_head b ≡ given t → (36 ≤ length b) × (length (own b) ≤ limit)
judged-sizes b t h =
    let J = judged b t h in
    (omega (arith, J.long, J.lent, front_long t), omega (arith, own-whole J, J.short))

accepted-then : (b : List ℕ) (k : ℕ) → given k ≡ and_then (accept b every) (λ ss. given (length ss))
    → (t : Table) × (signed b ≡ some t) × (judge_head b ≡ given t) × (ss : List Seen) × (walked t b every ≡ given ss)
unfolding accept
accepted-then b k e =
    let (ss, a, z) = then-given (and_then (judge_head b) (λ t. walked t b every)) (λ ss. given (length ss)) (sym e) in
    let (t, h, w) = then-given (judge_head b) (λ t. walked t b every) a in
    (t, signed-as b every t h, h, ss, w)

-- a table that is accepted is the one that it is signed as
pub accepted-as : (b : List ℕ) (k : ℕ) (t : Table) → given k ≡ and_then (accept b every) (λ ss. given (length ss)) → some t ≡ signed b
    → (judge_head b ≡ given t) × (ss : List Seen) × (walked t b every ≡ given ss)
accepted-as b k t e i =
    let (u, s, h, ss, w) = accepted-then b k e in
    let z : u ≡ t = cc in
    (rw z at h, ss, rw z at w)

-- and it is signed
pub accepted-signed : (b : List ℕ) (k : ℕ) → given k ≡ and_then (accept b every) (λ ss. given (length ss)) → none ≡ signed b → ⊥
accepted-signed b k e i =
    let s = (accepted-then b k e).1 in
    let z : ◌≡◌ {A = ℕ} 0 1 = cc in
    omega arith

pub refused-then : (b : List ℕ) (n p : ℕ) → refused n p ≡ and_then (accept b every) (λ ss. given (length ss)) → and_then (judge_head b) (λ t. walked t b every) ≡ refused n p
unfolding accept
refused-then b n p e = by (and_then (judge_head b) (λ t. walked t b every)) e
  where
    by : (a : Answer (List Seen)) → refused n p ≡ and_then a (λ ss. given (length ss)) → a ≡ refused n p
    by (refused m q) e = cc
    by (given ss) e = absurd (let z : ◌≡◌ {A = ℕ} 0 1 = cc in omega arith)
