-- `put_recipe` meets its contract: by the room; head and calls lie one behind the other.
use mathlib.Core.Path.{refl}
use borrow.Author.Tests.{lt-ltb, le-ltb}
use Rattle.format.specs.Build.{written}
use Rattle.header.specs.Header.{meant}
use Rattle.laws.proofs.Bytes.{value-byte}
use Rattle.readout.proofs.Recipes.{recipe-laid}
use Rattle.readout.proofs.put_recipe.Goals as goal

pub returns-then-out-n : goal.returns-then-out-n
unfolding written
returns-then-out-n c = rw (lt-ltb _ _ c.if-out-n.true) record { result_value = refl; out_after = refl }

pub put_calls-requires : goal.put_calls-requires
put_calls-requires c = rw c.own.ensures c.requires.1

pub returns : goal.returns
unfolding written
returns c =
    let b = c.args.table.now in
    let r = rw (c.revision_in.ensures, ← value-byte b 8, c.own.ensures) at c.put_calls.ensures in
    rw (le-ltb _ _ c.if-out-n.false) record { result_value = refl; out_after = recipe-laid (meant c.args.t) b _ _ _ c.requires.0 c.put_body.ensures r }
