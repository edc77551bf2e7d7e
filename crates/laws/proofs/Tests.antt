-- Tests joined: by cases on the first.
use mathlib.Core.Path.{◌≡◌, refl}
use mathlib.Core.Bool.{Bool, true, false}
use Rattle.format.specs.Bytes.{both}

pub both-assoc : (a b c : Bool) → both (both a b) c ≡ both a (both b c)
both-assoc true b c = refl
both-assoc false b c = refl

pub both_right : (b : Bool) → both b true ≡ b
both_right true = refl
both_right false = refl

pub both_false : (b : Bool) → both b false ≡ false
both_false true = refl
both_false false = refl
