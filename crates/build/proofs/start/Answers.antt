-- `start` meets its contract: the front is the table without records, and the sum is that of its bytes.
use mathlib.Core.Path.{refl}
use native.Mathlib.Omega.{arith}
use Rattle.header.specs.Header.{meant}
use Rattle.laws.proofs.Bytes.{bytes_of}
use Rattle.build.proofs.Whole.{from-head}
use Rattle.build.proofs.Steps.{started}
use Rattle.build.proofs.start.Goals as goal

pub put_header-requires : goal.put_header-requires
put_header-requires c = (from-head c.args.recipe.now c.requires.meant c.requires.means).0

pub returns : goal.returns
returns c =
    let a = c.args in
    let header = c.put_header in
    let front = c.front-end in
    let default = c.default in
    let bytes = bytes_of a.recipe.now (λ i. omega (arith, c.type_inv.recipe i)) in
    (refl, λ m e. started a.out.now a.recipe.now (meant a.table) m _ header.new.out _ default.result.value front.result bytes c.requires e header.ensures refl front.ensures front.ensures refl refl default.ensures front.ensures c.part.ensures c.append-sum.ensures)
