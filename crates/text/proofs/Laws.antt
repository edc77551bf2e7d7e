-- Laying one text behind another lays both joined: by the laws of `over`, and where the first reaches past the end the second is left out.
use mathlib.Core.Path.{◌≡◌, refl, ap, ◌∙◌}
use Prim.Native.Nat.{ℕ, ◌+◌, ◌≤◌, min}
use mathlib.Core.List.{List, ◌++◌}
use mathlib.Core.Bool.{Bool, true, false}
use native.Mathlib.Omega.{arith}
use borrow.Author.Tests.{leb-true, leb-false}
use lib.Dec.{leb}
use lib.ListN.{length, take, length-append}
use lib.Seq.{take-append_seam}
use Rattle.format.specs.Bytes.{over}
use Rattle.laws.proofs.Bytes.{length_over, over-over, over-past, over-cut, over-fits}
use Rattle.laws.proofs.Sole.{sole-pair}
use Rattle.text.specs.Text.{laid}

module _ (out : List ℕ) (n : ℕ) (s : List ℕ) {m : ℕ} {x : List ℕ} (e : ◌≡◌ {A = ℕ × List ℕ} (m, x) (laid out n s)) where
  filled : m ≡ min (length out) (n + length s)
  unfolding laid
  filled = ap (λ (p : ℕ × List ℕ). p.0) e

  buffer : x ≡ over out n s
  unfolding laid
  buffer = ap (λ (p : ℕ × List ℕ). p.1) e

  behind : (t : List ℕ) → over x m t ≡ over out n (s ++ t)
  behind t = by (leb (n + length s) (length out)) refl
    where
      by : (b : Bool) → leb (n + length s) (length out) ≡ b → over x m t ≡ over out n (s ++ t)
      by true l =
          let h = leb-true (n + length s) (length out) l in
          let w : m ≡ n + length s = omega (arith, filled) in
          rw (buffer, w, over-over)
      by false l =
          let h = leb-false (n + length s) (length out) l in
          let w : length (over out n s) ≤ m = rw length_over (omega (arith, filled)) in
          rw (buffer, over-past (over out n s) m t w, over-cut out n s t (omega arith))

  -- what is laid behind is laid with it
  pub laid-behind : (t : List ℕ) → laid x m t ≡ laid out n (s ++ t)
  unfolding laid
  laid-behind t = sole-pair (rw (buffer, length_over, length-append) (omega (arith, filled))) (behind t)

-- two calls, one behind the other
pub laid_next : (out : List ℕ) (n : ℕ) (s t : List ℕ) {m k : ℕ} {x y : List ℕ}
    → ◌≡◌ {A = ℕ × List ℕ} (m, x) (laid out n s) → ◌≡◌ {A = ℕ × List ℕ} (k, y) (laid x m t) → ◌≡◌ {A = ℕ × List ℕ} (k, y) (laid out n (s ++ t))
laid_next out n s t e f = f ∙ laid-behind out n s e t

-- where all of it fits, it stands at the front
pub laid-whole : (out s : List ℕ) {m : ℕ} {x : List ℕ} → ◌≡◌ {A = ℕ × List ℕ} (m, x) (laid out 0 s) → length s ≤ length out → take m x ≡ s
laid-whole out s {m} e h =
    let n : m ≡ length s = omega (arith, filled out 0 s e) in
    rw (n, buffer out 0 s e, over-fits out 0 s (omega arith)) (take-append_seam s _)
