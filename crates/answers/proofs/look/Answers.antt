-- `look` meets its contract: the line of what `read` answers; the part at the place that it answered is the record's.
use Rattle.answers.specs.Lines.{seen}
use Rattle.read.specs.Answers.{row_in, fields_in, shown}
use Rattle.read.proofs.Once.{part-there}
use Rattle.talk.specs.Hex.{all_are}
use mathlib.Core.Path.{sym, ap, ◌∙◌}
use Rattle.answers.proofs.look.Goals as goal

pub returns-in-Ok : goal.returns-in-Ok
unfolding seen
returns-in-Ok c =
    let r = c.in-Ok.reading in
    let s = r.«record» in
    let a = c.args in
    let e = sym (ap shown c.in-Ok.is) ∙ c.read.ensures in
    let part = c.part_at-part.ensures ∙ part-there a.table.now a.mask a.k r.count s.ty s.place s.length (row_in s.node) (fields_in s.node) e in
    rw (← e, ← part) c.show.ensures

pub returns-in-Err : goal.returns-in-Err
unfolding seen all_are
returns-in-Err c =
    rw (← (sym (ap shown c.in-Err.is) ∙ c.read.ensures), ← c.number.ensures, ← c.place.ensures) c.refused.ensures
