-- `acpi_read_out` meets its contract: number and place are those of what `read_out` answers.
use mathlib.Core.Path.{sym, ap, ◌∙◌}
use Rattle.build.specs.Answers.{number_in, place_of}
use Rattle.readout.specs.Answers.{shown}
use Rattle.acpi.proofs.acpi_read_out.Goals as goal

pub returns-in-Ok : goal.returns-in-Ok
returns-in-Ok c =
    let is = sym (ap shown c.in-Ok.is) ∙ c.read_out.ensures.result_value in
    record { value = ap number_in is; place_after = ap place_of is; out_after = c.read_out.ensures.out_after }

pub returns-in-Err : goal.returns-in-Err
returns-in-Err c =
    let is = sym (ap shown c.in-Err.is) ∙ c.read_out.ensures.result_value in
    record { value = c.number.ensures ∙ ap number_in is; place_after = c.place.ensures ∙ ap place_of is; out_after = c.read_out.ensures.out_after }
