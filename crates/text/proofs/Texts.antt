-- A text with one string behind it and then another is the text with both joined behind it: by the laws of `over`, and where the first reaches past the end the second is left out.
use mathlib.Core.Path.{◌≡◌, refl, sym, ap, ◌∙◌}
use Prim.Native.Nat.{ℕ, ◌+◌, ◌-◌, ◌≤◌, min}
use mathlib.Core.List.{List, [], ◌++◌}
use mathlib.Core.Bool.{Bool, true, false}
use native.Mathlib.Omega.{arith}
use borrow.Author.Tests.{leb-true, leb-false}
use lib.Dec.{leb}
use lib.ListN.{length, length-append}
use Rattle.format.specs.Bytes.{over}
use Rattle.laws.proofs.Bytes.{length_over, over-over, over-past, over-cut, over_none}
use Rattle.text.specs.declared.Text.{Text}
use base.Fml.{GName}
use borrow.Rule.Slice.Relend.{set_name}
use Rattle.std.specs.Borrow.{MutBor}
use Rattle.laws.proofs.Sole.{sole-pair}
use Rattle.text.specs.Text.{laid, behind, with}

pub with_as : (t : Text) (s : List ℕ) (n : ℕ) (x : List ℕ) → n ≡ t.n + min (length s) (length t.out.now - t.n) → x ≡ over t.out.now t.n s → record { out = record t.out { now = x }; n = n } ≡ with t s
unfolding with
with_as t s n x e f = λ i. record { out = record t.out { now = f i }; n = e i }

pub with_none : (t : Text) → with t [] ≡ t
with_none t = sym (with_as t [] t.n t.out.now (omega arith) (sym (over_none t.out.now t.n [] (omega arith))))

-- what stands behind is with it
pub with_with : (t : Text) (r s : List ℕ) → with (with t r) s ≡ with t (r ++ s)
unfolding with
with_with t r s = with_as t (r ++ s) _ _ (rw (length_over, length-append) (omega arith)) (by (leb (t.n + length r) (length t.out.now)) refl)
  where
    by : (b : Bool) → leb (t.n + length r) (length t.out.now) ≡ b → over (over t.out.now t.n r) (t.n + min (length r) (length t.out.now - t.n)) s ≡ over t.out.now t.n (r ++ s)
    by true l =
        let h = leb-true (t.n + length r) (length t.out.now) l in
        let w : t.n + min (length r) (length t.out.now - t.n) ≡ t.n + length r = omega arith in
        rw (w, over-over)
    by false l =
        let h = leb-false (t.n + length r) (length t.out.now) l in
        let w : length (over t.out.now t.n r) ≤ t.n + min (length r) (length t.out.now - t.n) = rw length_over (omega arith) in
        rw (over-past (over t.out.now t.n r) _ s w, over-cut t.out.now t.n r s (omega arith))

-- two calls, one behind the other
pub next : (t : Text) (r s : List ℕ) {u v : Text} → u ≡ with t r → v ≡ with u s → v ≡ with t (r ++ s)
next t r s e f = f ∙ rw e (with_with t r s)

-- a turn of a loop, and its end
pub turn : (t : Text) (r s : List ℕ) {u : Text} {all : List ℕ} → u ≡ with t r → all ≡ r ++ s → with u s ≡ with t all
turn t r s e a = rw (e, a) (with_with t r s)

pub end : (t : Text) {s : List ℕ} → s ≡ [] → with t s ≡ t
end t e = rw e (with_none t)

-- what a text with s behind it is, as a buffer and how far it is filled
pub laid-with : (out : MutBor (List ℕ)) (n : ℕ) (s : List ℕ) {t : Text} → t ≡ with (behind out n) s → ◌≡◌ {A = ℕ × List ℕ} (t.n, t.out.now) (laid out.now n s)
unfolding with laid
laid-with out n s {t} e = rw e (sole-pair (omega arith) (by (leb n (length out.now)) refl))
  where
    by : (b : Bool) → leb n (length out.now) ≡ b → over out.now (min n (length out.now)) s ≡ over out.now n s
    by true l =
        let h = leb-true n (length out.now) l in
        let w : min n (length out.now) ≡ n = omega arith in
        rw w
    by false l =
        let h = leb-false n (length out.now) l in
        rw (over-past out.now (min n (length out.now)) s (omega arith), over-past out.now n s (omega arith))

-- the same of the buffer that was lent, where the text gives it back
pub laid_back : (g : GName) (out : MutBor (List ℕ)) (n : ℕ) (s : List ℕ) {b t : Text} {x : List ℕ}
    → b ≡ behind (set_name g out) n → t ≡ with b s → (g ≡ t.out.ghost_name → x ≡ t.out.now) → ◌≡◌ {A = ℕ × List ℕ} (t.n, x) (laid out.now n s)
unfolding with
laid_back g out n s {t = t} d e f =
    let k : t ≡ with (behind (set_name g out) n) s = e ∙ rw d in
    rw (f (ap (λ (u : Text). u.out.ghost_name) (sym k))) (laid-with (set_name g out) n s k)
