-- `judge` meets its contract: the frame, the record by itself, its references, one after the other.
use mathlib.Core.Path.{◌≡◌, refl, sym, ap, ◌∙◌}
use mathlib.Core.Bool.{true}
use native.Mathlib.Omega.{arith}
use lib.ListN.{length, drop}
use Rattle.format.specs.Read.{framed}
use Rattle.header.specs.Header.{meant}
use Rattle.frames.proofs.Places.{room}
use Rattle.read.specs.Places.{judged_at}
use Rattle.read.proofs.Refs.{known_of}
use Rattle.read.proofs.Walks.{judged-by}
use Rattle.read.proofs.Pass.judge.Goals as goal

pub returns-then-not-framed : goal.returns-then-not-framed
unfolding judged_at
returns-then-not-framed g c =
    rw (← c.rest-s.ensures, ← c.framed.ensures, c.if-not-framed.true)

pub returns-then-not-sound : goal.returns-then-not-sound
returns-then-not-sound g c =
    let a = c.args.self.now in
    let j = judged-by (meant a.t) a.c.now a.revision a.mask c.args.p _ _ _ _ _ _ _ c.rest-s.ensures c.record_in-body.ensures c.row_of.ensures c.known-row.ensures c.framed.ensures c.sound.ensures refl in
    sym (j ∙ rw (c.if-not-framed.false, c.if-not-sound.true))

pub refs_stand-requires : goal.refs_stand-requires
refs_stand-requires g c =
    let s = c.args.self.now in
    (omega (arith, c.requires.few), (c.requires.few, (c.requires.passed, known_of (meant s.t) s.revision _ s.mask _ _ _ c.row_of.ensures c.known-row.ensures)))

pub returns-then-not-refs_stand : goal.returns-then-not-refs_stand
returns-then-not-refs_stand g c =
    let a = c.args.self.now in
    let j = judged-by (meant a.t) a.c.now a.revision a.mask c.args.p _ _ _ _ _ _ _ c.rest-s.ensures c.record_in-body.ensures c.row_of.ensures c.known-row.ensures c.framed.ensures c.sound.ensures c.refs_stand.ensures in
    sym (j ∙ rw (c.if-not-framed.false, c.if-not-sound.false, c.if-not-refs_stand.true))

pub overflow_add-result : goal.overflow_add-result
overflow_add-result g c =
    let a = c.args.self.now in
    let y : framed (meant a.t) (drop c.args.p a.c.now) ≡ true = rw (← c.rest-s.ensures, ← c.framed.ensures) (c.if-not-framed.false) in
    omega (arith, ap length (rw c.rest-s.ensures at c.record_in-body.ensures), (room (meant a.t) a.c.now c.args.p y).1)

pub returns : goal.returns
returns g c =
    let a = c.args.self.now in
    let j = judged-by (meant a.t) a.c.now a.revision a.mask c.args.p _ _ _ _ _ _ _ c.rest-s.ensures c.record_in-body.ensures c.row_of.ensures c.known-row.ensures c.framed.ensures c.sound.ensures c.refs_stand.ensures in
    sym (j ∙ rw (c.if-not-framed.false, c.if-not-sound.false, c.if-not-refs_stand.false))
