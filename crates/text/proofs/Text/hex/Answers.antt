-- The answers that the search does not find.
use Rattle.std.proofs.Common.{rules, sym, ◌∙◌}
use Rattle.text.proofs.Texts.{next, turn, end}
use Rattle.text.proofs.Digits.{hexed-none, hexed-some, pairs-turn, pairs_end}
use Rattle.text.proofs.Text.hex.Goals as goal

pub returns-then-is_empty : goal.returns-then-is_empty
returns-then-is_empty c =
    c.byte.ensures ∙ rw (hexed-none c.args.s.now (search rules))

pub loop-b-preserved : goal.loop-b-preserved
loop-b-preserved c =
    let l = c.loop-b in
    turn _ _ _ (next _ _ _ c.byte-in-loop-b.ensures c.byte-in-loop-b-2.ensures) (rw (c.glyph.ensures, c.glyph-in-loop-b.ensures) (pairs-turn c.args.s.now l.b-index c.loop-b-test.true)) ∙ l.invariant

pub returns : goal.returns
returns c =
    let l = c.loop-b in
    let s = c.args.s.now in
    rw (hexed-some s (search rules)) (sym (end l.self (pairs_end s l.b-index c.loop-b-test.false)) ∙ l.invariant)
