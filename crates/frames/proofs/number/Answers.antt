-- The answers that the search does not find.
use mathlib.Core.Path.{◌≡◌, refl, sym, ap, ◌∙◌}
use Prim.Native.Nat.{ℕ, zero, suc, ◌+◌, ◌<◌}
use native.Mathlib.Omega.{arith}
use native.Mathlib.Numerals.{add-one}
use mathlib.Core.List.{List}
use Rattle.std.specs.Prelude.{Some}
use Rattle.format.specs.Table.{Table}
use Rattle.header.specs.Header.{meant}
use Rattle.field.specs.Place.{place_or_none}
use Rattle.frames.specs.Frames.{ahead, numbered}
use Rattle.frames.proofs.Places.{least-two, room_for, numbered-bare, numbered-past, numbered-here, numbered-short, numbered-on}
use Rattle.frames.proofs.number.Goals as goal

-- the loop begins with the number behind those that the mark counts
from-here : (t : Table) (c : List ℕ) (v n p : ℕ) {x : ℕ} → numbered (n + 1) v (ahead t c p) ≡ x → numbered (suc n) v (ahead t c p) ≡ x
from-here t c v n p h = ap (λ (j : ℕ). numbered j v (ahead t c p)) (sym (add-one n)) ∙ h

some-number : (k : ℕ) {n : ℕ} → k ≡ n → 0 < k → Some k ≡ place_or_none n
some-number zero e h = absurd (omega arith)
some-number (suc k) e h = rw (← e)

pub returns-then-not-framed : goal.returns-then-not-framed
returns-then-not-framed c =
    let a = c.args in
    let f = rw c.rest.ensures at (sym c.framed.ensures ∙ c.if-not-framed.true) in
    ap place_or_none (sym (numbered-bare (meant a.t) a.c.now a.v (suc a.from.nodes) a.from.place f))

pub loop-p-init : goal.loop-p-init
loop-p-init c = (omega arith, omega arith, omega arith, refl)

pub size_at-n-requires : goal.size_at-n-requires
size_at-n-requires c =
    let a = c.args in
    let f = rw c.rest.ensures at (sym c.framed.ensures ∙ c.if-not-framed.false) in
    let m = room_for (meant a.t) a.c.now a.v f in
    omega arith

pub returns-then-n-min : goal.returns-then-n-min
returns-then-n-min c =
    let a = c.args in
    let f = rw c.rest.ensures at (sym c.framed.ensures ∙ c.if-not-framed.false) in
    let m = room_for (meant a.t) a.c.now a.v f in
    let s = rw (c.size_at-n.ensures, c.least-min.ensures) at c.if-n-min.true in
    ap place_or_none (sym (from-here (meant a.t) a.c.now a.v a.from.nodes a.from.place c.loop-p.invariant.3 ∙ numbered-short (meant a.t) a.c.now a.v c.loop-p.k c.loop-p.p (omega (arith, least-two (meant a.t))) s))

pub overflow_add-p : goal.overflow_add-p
overflow_add-p c =
    let a = c.args in
    let f = rw c.rest.ensures at (sym c.framed.ensures ∙ c.if-not-framed.false) in
    let m = room_for (meant a.t) a.c.now a.v f in
    omega arith

pub overflow_add-k-in-loop-p : goal.overflow_add-k-in-loop-p
overflow_add-k-in-loop-p c =
    let a = c.args in
    let f = rw c.rest.ensures at (sym c.framed.ensures ∙ c.if-not-framed.false) in
    let m = room_for (meant a.t) a.c.now a.v f in
    omega arith

pub loop-p-smaller : goal.loop-p-smaller
loop-p-smaller c =
    omega (arith, least-two (meant c.args.t))

pub loop-p-preserved : goal.loop-p-preserved
loop-p-preserved c =
    let a = c.args in
    let f = rw c.rest.ensures at (sym c.framed.ensures ∙ c.if-not-framed.false) in
    let m = room_for (meant a.t) a.c.now a.v f in
    (omega arith, c.loop-p.invariant.1, omega (arith, least-two (meant a.t)), c.loop-p.invariant.3 ∙ numbered-on (meant a.t) a.c.now a.v c.loop-p.k c.loop-p.p _ (omega arith) c.loop-p-test.true c.size_at-n.ensures (omega arith) ∙ rw add-one)

pub returns-then-v-p : goal.returns-then-v-p
returns-then-v-p c =
    let a = c.args in
    ap place_or_none (sym (from-here (meant a.t) a.c.now a.v a.from.nodes a.from.place c.loop-p.invariant.3 ∙ numbered-past (meant a.t) a.c.now a.v c.loop-p.k c.loop-p.p c.if-v-p.true))

pub returns : goal.returns
returns c =
    let a = c.args in
    let f = rw c.rest.ensures at (sym c.framed.ensures ∙ c.if-not-framed.false) in
    let e : c.loop-p.p ≡ a.v = omega arith in
    some-number _ (sym (from-here (meant a.t) a.c.now a.v a.from.nodes a.from.place c.loop-p.invariant.3 ∙ rw e (numbered-here (meant a.t) a.c.now a.v c.loop-p.k f))) c.loop-p.invariant.0
