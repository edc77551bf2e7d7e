-- `judge_as` meets its contract: the tests of a header in order, each passed one told to the next.
use native.Mathlib.Omega.{arith}
use Rattle.frames.proofs.Heads.{head-short, head-long}
use Rattle.frames.proofs.judge_as.Goals as goal

pub returns-then-n-front : goal.returns-then-n-front
returns-then-n-front c =
    rw (head-short _ _ _ _ c.length_in-n.ensures c.front.ensures c.then-n-front.either)

pub returns-then-not-right : goal.returns-then-not-right
returns-then-not-right c =
    rw (head-long _ _ _ _ c.length_in-n.ensures c.front.ensures c.if-n-front.false c.if-table-n.false (omega arith), ← c.right.ensures, c.if-not-right.true)

pub returns-then-not-tail_stands : goal.returns-then-not-tail_stands
returns-then-not-tail_stands c =
    let t = c.tail_stands in
    rw (head-long _ _ _ _ c.length_in-n.ensures c.front.ensures c.if-n-front.false c.if-table-n.false (omega arith), ← c.right.ensures, c.if-not-right.false, ← t.ensures, c.if-not-tail_stands.true)

pub returns : goal.returns
returns c =
    let t = c.tail_stands in
    rw (head-long _ _ _ _ c.length_in-n.ensures c.front.ensures c.if-n-front.false c.if-table-n.false (omega arith), ← c.right.ensures, c.if-not-right.false, ← t.ensures, c.if-not-tail_stands.false)
