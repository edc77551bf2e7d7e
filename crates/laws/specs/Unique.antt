-- What it is for a contract to determine an outcome: whatever two outcomes meet it are the same in all that is seen of them.
use Rattle.std.specs.Prelude.{◌≡◌}

-- C is a contract as its caller learns it: of lifetimes k, arguments a, result x and parameters afterwards p, in their order. Two outcomes
-- of one call that meet C show the same; `seen` is what there is to see, the result and what every `&mut` parameter then holds (`.now`).
abbrev pub Fixes : {K : Type 0} {A R E : K → Type 0} {S : Type 0} → ((k : K) → A k → R k → E k → Type 0) → ((k : K) → R k → E k → S) → Type 0
Fixes C seen = (k : _) (a : _) (x y : _) (p q : _) → C k a x p → C k a y q → seen k x p ≡ seen k y q
