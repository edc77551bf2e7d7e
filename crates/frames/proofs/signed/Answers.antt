-- `signed` meets its contract: the first four bytes against each signature.
use Rattle.frames.proofs.Heads.{starts-same}
use Rattle.frames.proofs.signed.Goals as goal

pub returns-then-starts_with : goal.returns-then-starts_with
returns-then-starts_with c =
    rw (← starts-same _ _, ← c.starts_with.ensures.value, c.if-starts_with.true)

pub returns-then-starts_with-2 : goal.returns-then-starts_with-2
returns-then-starts_with-2 c =
    let i = c.starts_with.ensures.value in
    let j = c.starts_with-else-starts_with.ensures.value in
    rw (← starts-same _ _, ← i, c.if-starts_with.false, ← starts-same _ _, ← j, c.if-starts_with-2.true)

pub returns-then-starts_with-3 : goal.returns-then-starts_with-3
returns-then-starts_with-3 c =
    let i = c.starts_with.ensures.value in
    let j = c.starts_with-else-starts_with.ensures.value in
    let k = c.starts_with-else-starts_with-2.ensures.value in
    rw (← starts-same _ _, ← i, c.if-starts_with.false, ← starts-same _ _, ← j, c.if-starts_with-2.false, ← starts-same _ _, ← k, c.if-starts_with-3.true)

pub returns-then-starts_with-4 : goal.returns-then-starts_with-4
returns-then-starts_with-4 c =
    let i = c.starts_with.ensures.value in
    let j = c.starts_with-else-starts_with.ensures.value in
    let k = c.starts_with-else-starts_with-2.ensures.value in
    let l = c.starts_with-else-starts_with-3.ensures.value in
    rw (← starts-same _ _, ← i, c.if-starts_with.false, ← starts-same _ _, ← j, c.if-starts_with-2.false, ← starts-same _ _, ← k, c.if-starts_with-3.false, ← starts-same _ _, ← l, c.if-starts_with-4.true)

pub returns-else-starts_with-4 : goal.returns-else-starts_with-4
returns-else-starts_with-4 c =
    let i = c.starts_with.ensures.value in
    let j = c.starts_with-else-starts_with.ensures.value in
    let k = c.starts_with-else-starts_with-2.ensures.value in
    let l = c.starts_with-else-starts_with-3.ensures.value in
    rw (← starts-same _ _, ← i, c.if-starts_with.false, ← starts-same _ _, ← j, c.if-starts_with-2.false, ← starts-same _ _, ← k, c.if-starts_with-3.false, ← starts-same _ _, ← l, c.if-starts_with-4.false)
