-- `TableHeader::put_body` meets its contract: kind, table and identity are laid one behind the other.
use Rattle.std.proofs.Common.{◌≡◌, ◌-◌, [], ◌∷◌, refl, ◌∙◌, length, drop, length-drop}
use Rattle.format.specs.Bytes.{le, part}
use Rattle.format.specs.Table.{code}
use Rattle.laws.proofs.Bytes.{over-next}
use Rattle.header.specs.Header.{meant}
use Rattle.header.proofs.Laws.{code-byte, taken-padded}
use Rattle.header.proofs.TableHeader.put_body.Goals as goal

pub returns : goal.returns
unfolding le part
returns c =
    let a = c.args in
    let out = c.args.out.now in
    let t = meant a.table in
    let two = over-next out 0 (1 ∷ []) _ 1 (code t ∷ []) _ c.put.ensures (c.put-2.ensures ∙ rw (c.code.ensures, code-byte t)) refl in
    let there = drop 10 a.bytes.now in
    let l : length there ≡ length a.bytes.now - 10 = length-drop 10 a.bytes.now in
    let e : part c.padded-identity.result 0 c.saturating_sub-there.result ≡ part a.bytes.now 10 26 = rw (c.padded-identity.ensures, c.saturating_sub-there.ensures, ← l) (taken-padded 26 there) in
    over-next out 0 (1 ∷ code t ∷ []) _ 2 (part a.bytes.now 10 26) _ two (c.copy.ensures ∙ rw (c.part.ensures, e)) refl
