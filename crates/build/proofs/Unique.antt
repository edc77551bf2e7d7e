-- Two outcomes of `build` that meet its contract are equal: what an answer stands for names the answer, and the buffer afterwards is given.
use mathlib.Core.Path.{◌≡◌, refl}
use Prim.Native.Nat.{ℕ}
use mathlib.Core.List.{List}
use lib.Dec.{eqb}
use Rattle.std.specs.Prelude.{Result, Ok, Err}
use Rattle.format.specs.Bytes.{pick, Answer, refused, given}
use Rattle.laws.specs.Unique.{Fixes}
use Rattle.laws.proofs.Sole.{sole, sole-meant, sole-pair}
use Rattle.recipe.specs.declared.Refusal.{Refusal}
use Rattle.recipe.specs.declared.Refusal.TheVariants.{NoHead, BadKind, Retired, Cut, Misplaced, BadField, Forward, WrongKind, FullNode, TooLong, Incomplete}
use Rattle.recipe.proofs.Unique.{refusal_of}
use Rattle.build.specs.declared.BuildError.{BuildError}
use Rattle.build.specs.declared.BuildError.TheVariants.{NoRoom, Refused}
use Rattle.build.specs.Answers.{shown}
use Rattle.build.proofs.BuildErrorFromRefused.from.Reads as BuildError-from
use Rattle.build.proofs.BuildError.number.Reads as BuildError-number
use Rattle.build.proofs.BuildError.place.Reads as BuildError-place
use Rattle.build.proofs.build.Reads as build

abbrev built_of : Answer ℕ → Result ℕ BuildError
built_of (given n) = Ok n
built_of (refused k p) = Err (pick (eqb k 9) (NoRoom p) (Refused (record { refusal = refusal_of k; at = p })))

built-back : (a : Result ℕ BuildError) → built_of (shown a) ≡ a
built-back (Ok n) = refl
built-back (Err (NoRoom n)) = refl
built-back (Err (Refused r)) = by r.refusal r.at
  where
    by : (f : Refusal) (p : ℕ) → built_of (shown (Err (Refused (record { refusal = f; at = p })))) ≡ Err (Refused (record { refusal = f; at = p }))
    by NoHead p = refl
    by BadKind p = refl
    by Retired p = refl
    by Cut p = refl
    by Misplaced p = refl
    by BadField p = refl
    by Forward p = refl
    by WrongKind p = refl
    by FullNode p = refl
    by TooLong p = refl
    by Incomplete p = refl

-- `build`
pub one-built : (a b : Result ℕ BuildError) (n : Answer ℕ) → shown a ≡ n → shown b ≡ n → a ≡ b
one-built = sole-meant shown built_of built-back

-- ---- the contracts

-- for each public function: what its contract fixes of the result `x` and of the parameters afterwards, `p`
pub record Unique : Type 0 where
  BuildError-from : Fixes BuildError-from.Learnt (λ k x p. x)
  BuildError-number : Fixes BuildError-number.Learnt (λ k x p. x)
  BuildError-place : Fixes BuildError-place.Learnt (λ k x p. x)
  build : Fixes {S = Result ℕ BuildError × List ℕ} build.Learnt (λ k x p. (x, p.1.0.now))

pub unique : Unique
unique =
    record {
      BuildError-from = λ k a x y p q. sole;
      BuildError-number = λ k a x y p q. sole;
      BuildError-place = λ k a x y p q. sole;
      build = λ k a x y p q l m. sole-pair (one-built x y _ l.0 m.0) (sole l.1 m.1);
    }
