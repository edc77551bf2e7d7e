-- `put_header` meets its contract: the header of the head's fields, and behind it the rest of the front.
use native.Mathlib.Omega.{arith}
use Rattle.laws.proofs.Bytes.{bytes_of}
use Rattle.build.proofs.Headers.{front-laid}
use Rattle.build.proofs.put_header.Goals as goal

pub returns : goal.returns
returns c =
    let a = c.args in
    let bytes = bytes_of a.recipe.now (λ i. omega (arith, c.type_inv.recipe i)) in
    front-laid a.table _ a.recipe.now _ a.out.now _ _ c.requires bytes c.rest.ensures c.from_body.ensures c.put.ensures (c.put_front.ensures 0)
