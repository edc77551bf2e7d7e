-- `acpi_read` meets its contract: number and place are those of what `read` answers, and the numbers those of the record at its place.
use mathlib.Core.Path.{sym, ap, ◌∙◌}
use Rattle.read.specs.Answers.{shown}
use Rattle.build.specs.Answers.{number_in, place_of}
use Rattle.acpi.specs.Calls.{count_in, answered}
use Rattle.acpi.proofs.Records.{read_at}
use Rattle.acpi.proofs.acpi_read.Goals as goal

pub returns-in-Ok : goal.returns-in-Ok
unfolding answered
returns-in-Ok c =
    let a = c.args in
    let r = c.in-Ok.reading in
    let is = sym (ap shown c.in-Ok.is) ∙ c.read.ensures in
    let e = ap count_in is in
    record { value = ap number_in e; place_after = ap place_of e; answer_after = read_at a.table.now a.mask a.n r.count r.«record» a.answer.now _ is c.acpi_record_at.ensures }

pub returns-in-Err : goal.returns-in-Err
unfolding answered
returns-in-Err c =
    let is = sym (ap shown c.in-Err.is) ∙ c.read.ensures in
    let e = ap count_in is in
    record { value = c.number.ensures ∙ ap number_in e; place_after = c.place.ensures ∙ ap place_of e; answer_after = rw (← is) }
