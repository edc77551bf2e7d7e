-- The running sum: what a change takes away and adds makes of the sum before the sum after. On lists by appending, then on plain numbers.
use mathlib.Core.Path.{◌≡◌, refl, sym, ap, ◌∙◌}
use Prim.Native.Nat.{ℕ, ◌+◌, ◌/◌, ◌%◌, ◌≤◌, ◌<◌}
use mathlib.Core.List.{List, ◌++◌}
use native.Mathlib.Omega.{arith}
use native.Mathlib.Nat.{zero-add, add-zero, mod-eq_of_lt}
use lib.ListN.{length, take, drop, length-append}
use lib.Seq.{take_at, drop_at, length-take-le}
use Rattle.format.specs.Bytes.{at, le, part, over, sum}
use Rattle.format.specs.Table.{Head}
use Rattle.format.specs.Build.{header, check_of}
use Rattle.laws.proofs.Bytes.{drop-turn, over-fits, sum-append}
use Rattle.laws.proofs.Over.{part-within}
use Rattle.laws.proofs.Checks.{derived, check-sum}

-- what was laid over a buffer
pub part-over : (bs : List ℕ) (p : ℕ) (cs : List ℕ) → p + length cs ≤ length bs → part (over bs p cs) p (length cs) ≡ cs
unfolding part
part-over bs p cs h =
    rw (over-fits bs p cs h, drop_at (take p bs) (cs ++ drop (p + length cs) bs) p (length-take-le p bs (omega arith)), take_at cs (drop (p + length cs) bs) (length cs) refl)

-- a part as it is lent
pub window-part : (xs : List ℕ) (a k n : ℕ) → k ≡ n → take k (drop a xs) ≡ part xs a n
unfolding part
window-part xs a k n e = rw e

-- a part of what was laid over a buffer
pub part-laid : (xs ps qs rs : List ℕ) → length (ps ++ (qs ++ rs)) ≤ length xs → part (over xs 0 (ps ++ (qs ++ rs))) (length ps) (length qs) ≡ qs
unfolding part
part-laid xs ps qs rs h =
    let n : length (ps ++ (qs ++ rs)) ≡ length ps + (length qs + length rs) = rw (length-append, length-append) in
    let z = part-within xs (ps ++ (qs ++ rs)) 0 (length ps) (length qs) (omega arith) (omega arith) in
    rw zero-add at z ∙ rw (drop_at ps (qs ++ rs) (length ps) refl, take_at qs rs (length qs) refl)

-- the sum of a front of another length
pub sum-front : (h : Head) (len : ℕ) (rs : List ℕ) → sum (header h 0 len 0 ++ rs) ≡ sum (header h 0 0 0) + sum (le 4 len) + sum rs
unfolding header sum le
sum-front h len rs = simp sum-append (omega arith)

-- ---- plain numbers

shift : (a b x : ℕ) → a ≡ b % 256 → (a + x) % 256 ≡ (b + x) % 256
shift a b x e = omega arith

shift₂ : (a b x y : ℕ) → a ≡ b % 256 → (a + x + y) % 256 ≡ (b + x + y) % 256
shift₂ a b x y e = omega arith

shift₃ : (a b x y z : ℕ) → a ≡ b % 256 → (a + x + y + z) % 256 ≡ (b + x + y + z) % 256
shift₃ a b x y z e = omega arith

-- three numbers added one by one
pub sum-three : (v a l m p q r : ℕ) → p ≡ (v + a) % 256 → q ≡ (p + l) % 256 → r ≡ (q + m) % 256 → r ≡ (v + a + l + m) % 256
sum-three v a l m p q r e g h = h ∙ shift q (p + l) m g ∙ shift₂ p (v + a) l m e

exchange : (v x y z : ℕ) → (x + y) % 256 ≡ z → (v + x + y) % 256 ≡ (v + z) % 256
exchange v x y z e = omega arith

-- what goes and comes again, by the law of the checksum
shut : (x l : ℕ) → x % 256 ≡ (x + check_of l + l) % 256
shut x l = rw (exchange x (check_of l) l 0 (check-sum l), add-zero)

-- of no bytes there is nothing to add, and nothing to take away
none_of : (out : List ℕ) (f n : ℕ) → n ≡ 0 → sum (part out f n) ≡ 0
unfolding part sum
none_of out f n z = rw z

still-mod : (v : ℕ) → v < 256 → v ≡ (v + check_of 0) % 256
still-mod v l = sym (mod-eq_of_lt l) ∙ shut v 0 ∙ rw (add-zero (v + check_of 0))

pub sum_same : (v : ℕ) (out : List ℕ) (f n : ℕ) → n ≡ 0 → v < 256 → v ≡ (v + check_of (sum (part out f n))) % 256
sum_same v out f n z l = rw (none_of out f n z) (still-mod v l)

-- nothing comes at the end: the length is the old one
pub sum-still : (v a : ℕ) (out : List ℕ) (e n : ℕ) → n ≡ 0 → (v + a) % 256 ≡ (v + a + sum (part out e n) + check_of (sum (le 4 e)) + sum (le 4 (e + n))) % 256
unfolding part sum
sum-still v a out e n z = rw (z, add-zero, add-zero) (shut (v + a) (sum (le 4 e)))

-- a change adds up: where nothing changes, where bytes change and come, where none comes
module _ (v : ℕ) (out : List ℕ) (f len e more : ℕ) where
  pub made_after : (n r : ℕ) → len ≡ 0 → more ≡ n → r ≡ (v + sum (part out e n) + check_of (sum (le 4 e)) + sum (le 4 (e + n))) % 256
      → r ≡ (v + sum (part out f len) + sum (part out e more) + check_of (sum (le 4 e)) + sum (le 4 (e + more))) % 256
  made_after n r l m h = h ∙ rw (none_of out f len l, m, add-zero)

  pub grown-after : (k n p r : ℕ) → len ≡ k → more ≡ n → p ≡ (v + sum (part out f k)) % 256 → r ≡ (p + sum (part out e n) + check_of (sum (le 4 e)) + sum (le 4 (e + n))) % 256
      → r ≡ (v + sum (part out f len) + sum (part out e more) + check_of (sum (le 4 e)) + sum (le 4 (e + more))) % 256
  grown-after k n p r l m g h = rw (l, m) (h ∙ shift₃ p (v + sum (part out f k)) (sum (part out e n)) (check_of (sum (le 4 e))) (sum (le 4 (e + n))) g)

  pub set_after : (k r : ℕ) → len ≡ k → more ≡ 0 → r ≡ (v + sum (part out f k)) % 256
      → r ≡ (v + sum (part out f len) + sum (part out e more) + check_of (sum (le 4 e)) + sum (le 4 (e + more))) % 256
  set_after k r l m h = rw l (h ∙ sum-still v (sum (part out f k)) out e more m)

together : (a x y z w : ℕ) → (a + x + y + z + w) % 256 ≡ (a + (x + y + z + w)) % 256
together a x y z w = ap (λ (n : ℕ). n % 256) (omega arith)

-- old bytes b and old length l go, new bytes c, more bytes d and the new length m come
balance : (k l s b c d m z bb ll : ℕ) → z + b ≡ s + c + d → (bb + b) % 256 ≡ 0 → (ll + l) % 256 ≡ 0
    → (k + l + s + bb + (c + d + ll + m)) % 256 ≡ (k + m + z) % 256
balance k l s b c d m z bb ll e f g = omega arith

pub sum-moves : (k l s b c d m z v w u : ℕ) → v ≡ (k + l + s) % 256 → w ≡ (v + check_of b) % 256 → u ≡ (w + c + d + check_of l + m) % 256 → z + b ≡ s + c + d
    → u ≡ (k + m + z) % 256
sum-moves k l s b c d m z v w u ev ew eu e =
    let bb = check_of b in
    let ll = check_of l in
    let x : w ≡ (k + l + s + bb) % 256 = ew ∙ shift v (k + l + s) bb ev in
    eu ∙ together w c d ll m ∙ shift w (k + l + s + bb) (c + d + ll + m) x ∙ balance k l s b c d m z bb ll e (check-sum b) (check-sum l)

-- ---- two bytes

sum-two : (bs : List ℕ) (p : ℕ) → p + 2 ≤ length bs → sum (part bs p 2) ≡ at bs p + at bs (p + 1)
unfolding part sum
sum-two bs p h = rw (drop-turn bs p (omega arith), drop-turn bs (p + 1) (omega arith), add-zero)

sum-of-zeros : (a b x y : ℕ) → (x + a) % 256 ≡ 0 → (y + b) % 256 ≡ 0 → ((x + y) % 256 + (a + b)) % 256 ≡ 0
sum-of-zeros a b x y e f = omega arith

less : (a b : ℕ) → (check_of a + check_of b) % 256 ≡ check_of (a + b)
less a b = (derived ((check_of a + check_of b) % 256) (a + b) (omega arith)).0 (sum-of-zeros a b (check_of a) (check_of b) (check-sum a) (check-sum b))

-- two numbers go one by one
gone : (v a b p q : ℕ) → p ≡ (v + check_of a) % 256 → q ≡ (p + check_of b) % 256 → q ≡ (v + check_of (a + b)) % 256
gone v a b p q e f = f ∙ shift p (v + check_of a) (check_of b) e ∙ exchange v (check_of a) (check_of b) (check_of (a + b)) (less a b)

came : (v l h q x y : ℕ) → q ≡ v % 256 → x ≡ (q + l) % 256 → y ≡ (x + h) % 256 → y ≡ (v + (l + (h + 0))) % 256
came v l h q x y e f g = omega arith

-- the bytes of a number come in the place of two that go
pub sum-replaced : (bs : List ℕ) (p n v a b x y : ℕ) → p + 2 ≤ length bs → n < 65536
    → a ≡ (v + check_of (at bs p)) % 256 → b ≡ (a + check_of (at bs (p + 1))) % 256 → x ≡ (b + n % 256) % 256 → y ≡ (x + n / 256 % 256) % 256
    → y ≡ (v + check_of (sum (part bs p 2)) + sum (le 2 n)) % 256
unfolding le sum
sum-replaced bs p n v a b x y h small ea eb ex ey =
    let e : n / 256 % 256 ≡ n / 256 = omega arith in
    rw (sum-two bs p h, e) (came (v + check_of (at bs p + at bs (p + 1))) (n % 256) (n / 256) b x y (gone v (at bs p) (at bs (p + 1)) a b ea eb) ex (rw e at ey))
