-- One call of the code behind the other, by what a caller learns of each: build, then reading out what was built; reading out, then building what was read out; and build twice, of recipes that nothing tells apart.
use mathlib.Core.Path.{◌≡◌, refl, sym, ap, ◌∙◌}
use Prim.Native.Nat.{ℕ, ◌≤◌}
use lib.ListN.{length, take}
use Rattle.format.specs.Bytes.{Bytes, given, over}
use Rattle.format.specs.Build.{build, built}
use Rattle.format.specs.Normal.{normal}
use Rattle.format.specs.Read.{own}
use Rattle.format.specs.Out.{read_out, out_written}
use Rattle.laws.specs.AnyOrder.{Same}
use Rattle.laws.proofs.Rounds.{there_and_back, back-and-there}
use Rattle.std.specs.Prelude.{Ok}
use Rattle.build.specs.Answers as built-as
use Rattle.build.proofs.Unique.{one-built}
use Rattle.build.proofs.build.Reads as build-reads
use Rattle.readout.specs.Answers as out-as
use Rattle.readout.proofs.Unique.{one_out}
use Rattle.readout.proofs.read_out.Reads as out_reads

-- build was lent a recipe and out, answered n, and reading out is lent the first n bytes of out and a buffer with room for the normal form
pub built-then-read : (k : _) (a : _) (x : _) (p : _) (n : ℕ) → build-reads.Learnt k a x p → x ≡ Ok n → Bytes a.0.now
    → (l : _) (b : _) (y : _) (q : _) → out_reads.Learnt l b y q → b.0.now ≡ take n p.1.0.now
    → length (normal a.0.now) ≤ length b.1.0.now
    → (y ≡ Ok (length (normal a.0.now))) × (q.1.0.now ≡ over b.1.0.now 0 (normal a.0.now))
built-then-read k a x p n c is bytes l b y q d lent room =
    let e : build a.0.now (length a.1.0.now) ≡ given n = sym c.0 ∙ ap built-as.shown is in
    let f : b.0.now ≡ take n (built a.0.now a.1.0.now) = lent ∙ ap (take n) c.1 in
    let (answer, after) = (there_and_back a.0.now a.1.0.now b.1.0.now n bytes e).room room in
    (one_out y (Ok (length (normal a.0.now))) _ (d.0 ∙ ap (λ bs. read_out bs (length b.1.0.now)) f ∙ answer) refl, d.1 ∙ ap (λ bs. out_written bs b.1.0.now) f ∙ after)

-- reading out was lent a table and a buffer, answered n, and build is lent the first n bytes of the buffer and out with room for the table
pub read-then-built : (k : _) (a : _) (x : _) (p : _) (n : ℕ) → out_reads.Learnt k a x p → x ≡ Ok n → Bytes a.0.now
    → (l : _) (b : _) (y : _) (q : _) → build-reads.Learnt l b y q → b.0.now ≡ take n p.1.0.now
    → length (own a.0.now) ≤ length b.1.0.now
    → (y ≡ Ok (length (own a.0.now))) × (q.1.0.now ≡ over b.1.0.now 0 (own a.0.now))
read-then-built k a x p n c is bytes l b y q d lent room =
    let e : read_out a.0.now (length a.1.0.now) ≡ given n = sym c.0 ∙ ap out-as.shown is in
    let f : b.0.now ≡ take n (out_written a.0.now a.1.0.now) = lent ∙ ap (take n) c.1 in
    let (answer, after) = (back-and-there a.0.now b.1.0.now a.1.0.now n bytes e).room room in
    (one-built y (Ok (length (own a.0.now))) _ (d.0 ∙ ap (λ bs. build bs (length b.1.0.now)) f ∙ answer) refl, d.1 ∙ ap (λ bs. built bs b.1.0.now) f ∙ after)

-- build was lent two recipes that nothing tells apart, as settings in another order (laws' AnyOrder), and buffers that held the same
pub built_alike : (k : _) (a : _) (x : _) (p : _) → build-reads.Learnt k a x p → (l : _) (b : _) (y : _) (q : _) → build-reads.Learnt l b y q
    → Same a.0.now b.0.now → b.1.0.now ≡ a.1.0.now → (y ≡ x) × (q.1.0.now ≡ p.1.0.now)
built_alike k a x p c l b y q d alike lent =
    let answer : build b.0.now (length b.1.0.now) ≡ build a.0.now (length a.1.0.now) = ap (λ out. build b.0.now (length out)) lent ∙ alike.answer (length a.1.0.now) in
    let after : built b.0.now b.1.0.now ≡ built a.0.now a.1.0.now = ap (built b.0.now) lent ∙ alike.written a.1.0.now in
    (one-built y x _ (d.0 ∙ answer) c.0, d.1 ∙ (after ∙ sym c.1))
