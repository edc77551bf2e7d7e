-- `acpi_accept` meets its contract: number and place are those of what `accept` answers.
use mathlib.Core.Path.{sym, ap, ◌∙◌}
use Rattle.read.specs.Answers.{accepted_as}
use Rattle.build.specs.Answers.{number_in, place_of}
use Rattle.acpi.proofs.acpi_accept.Goals as goal

pub returns-in-Ok : goal.returns-in-Ok
returns-in-Ok c =
    let is = sym (ap accepted_as c.in-Ok.is) ∙ c.accept.ensures in
    record { value = ap number_in is; place_after = ap place_of is }

pub returns-in-Err : goal.returns-in-Err
returns-in-Err c =
    let is = sym (ap accepted_as c.in-Err.is) ∙ c.accept.ensures in
    record { value = c.number.ensures ∙ ap number_in is; place_after = c.place.ensures ∙ ap place_of is }
