-- `write` meets its contract: from the front over all records to the length and the checksum.
use native.Mathlib.Omega.{arith}
use Rattle.header.specs.Header.{meant}
use Rattle.build.proofs.Steps.{ended}
use Rattle.build.proofs.write.Goals as goal

pub put_all-last-requires : goal.put_all-last-requires
put_all-last-requires c =
    record { start = c.args.out.now; meant = c.requires.meant; holds = c.start-first.ensures.1 c.requires.meant c.requires.means }

pub overflow_cast-last : goal.overflow_cast-last
overflow_cast-last c =
    let (ms, h) = c.put_all-last.ensures.1 c.args.out.now c.requires.meant (c.start-first.ensures.1 c.requires.meant c.requires.means) in
    omega (arith, h.ends, h.short)

pub returns : goal.returns
returns c =
    let a = c.args in
    let m = c.requires.meant in
    let put = c.put_all-last in
    let (ms, h) = put.ensures.1 a.out.now m (c.start-first.ensures.1 m c.requires.means) in
    ended a.out.now a.recipe.now (meant a.outline.table) m put.result put.new.out ms c.set_length.new.out c.set_checksum.new.out c.value-sum.result h put.ensures.0 c.requires.means c.set_length.ensures c.value-sum.ensures c.set_checksum.ensures
