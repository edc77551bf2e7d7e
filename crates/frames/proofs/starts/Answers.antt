-- `starts` meets its contract: the record that has a number is there, and its type decides.
use mathlib.Core.Path.{◌≡◌, refl, sym, ◌∙◌}
use Prim.Native.Nat.{ℕ, zero, suc}
use mathlib.Core.Bool.{Bool, false}
use lib.Dec.{eqb}
use lib.ListN.{drop}
use borrow.Author.Tests.{ne_eqb}
use Rattle.std.specs.Prelude.{is_some}
use Rattle.format.specs.Bytes.{pick}
use Rattle.format.specs.Read.{type_in}
use Rattle.header.specs.Header.{meant}
use Rattle.field.specs.Place.{place_or_none}
use Rattle.frames.specs.Frames.{number_from}
use Rattle.frames.proofs.Places.{named-numbered}
use Rattle.frames.proofs.starts.Goals as goal

by-place : (n : ℕ) (b : Bool) → pick (eqb n 0) false b ≡ pick (is_some (place_or_none n)) b false
by-place zero b = refl
by-place (suc n) b = rw (ne_eqb (suc n) 0 (λ z. cc))

pub returns-then-is_some : goal.returns-then-is_some
returns-then-is_some c =
    let a = c.args in
    sym (named-numbered (meant a.t) a.c.now a.v a.ty a.from.nodes a.from.place ∙ by-place (number_from (meant a.t) a.c.now a.v a.from) (eqb (type_in (meant a.t) (drop a.v a.c.now)) a.ty) ∙ rw (← c.number.ensures, ← c.is_some.ensures, c.if-is_some.true, c.type_in.ensures, c.rest.ensures))

pub returns-else-is_some : goal.returns-else-is_some
returns-else-is_some c =
    let a = c.args in
    sym (named-numbered (meant a.t) a.c.now a.v a.ty a.from.nodes a.from.place ∙ by-place (number_from (meant a.t) a.c.now a.v a.from) (eqb (type_in (meant a.t) (drop a.v a.c.now)) a.ty) ∙ rw (← c.number.ensures, ← c.is_some.ensures, c.if-is_some.false))
