-- `TableHeader::put_identity` meets its contract: five fields laid one behind the other.
use Rattle.std.proofs.Common.{◌≡◌, length, ◌∙◌, append_assoc, arith, length-append, rules}
use Rattle.laws.proofs.Bytes.{length-le, over-next}
use Rattle.header.specs.Header.{identity}
use Rattle.header.proofs.TableHeader.put_identity.Goals as goal

pub returns : goal.returns
unfolding identity
returns c =
    let l : length c.args.self.oem_id ≡ 6 = search rules in
    let m : length c.args.self.oem_table_id ≡ 8 = search rules in
    let n : length c.args.self.creator_id ≡ 4 = search rules in
    let two = over-next _ _ _ _ _ _ _ c.copy.ensures c.copy-2.ensures (omega arith) in
    let three = over-next _ _ _ _ _ _ _ two c.put.ensures (rw length-append (omega arith)) in
    let four = over-next _ _ _ _ _ _ _ three c.copy-3.ensures (rw (length-append, length-append, length-le) (omega arith)) in
    let five = over-next _ _ _ _ _ _ _ four c.copy-4.ensures (rw (length-append, length-append, length-append, length-le) (omega arith)) in
    five ∙ simp append_assoc
