-- What a call leaves in the buffer behind its own bytes is what it was filled with: by the laws of buffers.
use mathlib.Core.Path.{◌≡◌, refl, ◌∙◌}
use Prim.Native.Nat.{ℕ, zero, suc}
use mathlib.Core.List.{List}
use mathlib.Core.Bool.{true}
use lib.ListN.{length, drop, replicate, length-replicate}
use Rattle.format.specs.Bytes.{Answer, refused, given}
use Rattle.format.specs.Build.{build, table}
use Rattle.format.specs.Out.{read_out, recipe}
use Rattle.laws.specs.Buffers.{Leaves}
use Rattle.laws.proofs.Buffers.{build-leaves, out-leaves}
use Rattle.talk.specs.Hex.{all_are}
use Rattle.answers.specs.Lines.{fill, success, told, carried_out}
use Rattle.answers.specs.Kept.{kept_of, Kept}

all-filled : (k : ℕ) → all_are fill (replicate k fill) ≡ true
unfolding all_are
all-filled zero = refl
all-filled (suc k) = all-filled k

past-filled : (n k : ℕ) → all_are fill (drop n (replicate k fill)) ≡ true
unfolding all_are
past-filled zero k = all-filled k
past-filled (suc n) zero = refl
past-filled (suc n) (suc k) = past-filled n k

leaves_kept : (a : Answer ℕ) (bs after : List ℕ) (k : ℕ) → Leaves a bs (replicate k fill) after → told a after ≡ kept_of a bs
unfolding told success kept_of
leaves_kept (refused n p) bs after k e = rw (e, all-filled k)
leaves_kept (given n) bs after k f = rw (f.first, f.past, past-filled n k)

pub kept : Kept
unfolding carried_out
kept =
    record {
      build = λ r room. leaves_kept (build r (length (replicate room fill))) (table r) _ room (build-leaves r (replicate room fill)) ∙ rw length-replicate;
      out = λ b room. leaves_kept (read_out b (length (replicate room fill))) (recipe b) _ room (out-leaves b (replicate room fill)) ∙ rw length-replicate;
    }
