-- `TableHeader::put` meets its contract: four pieces laid one behind the other; past the end none.
use Rattle.std.proofs.Common.{◌≡◌, length, sym, ◌∙◌, append_assoc, arith, length-append, rules}
use Rattle.laws.proofs.Bytes.{length-le, over-next, over-past}
use Rattle.header.specs.Header.{header_bytes}
use Rattle.header.proofs.TableHeader.put.Goals as goal

pub returns-then-out-at : goal.returns-then-out-at
returns-then-out-at c = sym (over-past _ _ _ c.if-out-at.true)

pub returns : goal.returns
unfolding header_bytes
returns c =
    let l : length c.args.self.signature ≡ 4 = search rules in
    let two = over-next _ _ _ _ _ _ _ c.copy.ensures c.put.ensures (omega arith) in
    let three = over-next _ _ _ _ _ _ _ two c.copy-2.ensures (rw (length-append, length-le) (omega arith)) in
    let four = over-next _ _ _ _ _ _ _ three c.put_identity.ensures (rw (length-append, length-append, length-le) (omega arith)) in
    four ∙ simp append_assoc
