-- `acpi_build` meets its contract: number and place are those of what `build` answers.
use mathlib.Core.Path.{sym, ap, ◌∙◌}
use Rattle.build.specs.Answers.{shown, number_in, place_of}
use Rattle.acpi.proofs.acpi_build.Goals as goal

pub returns-in-Ok : goal.returns-in-Ok
returns-in-Ok c =
    let is = sym (ap shown c.in-Ok.is) ∙ c.build.ensures.result_value in
    record { value = ap number_in is; place_after = ap place_of is; out_after = c.build.ensures.out_after }

pub returns-in-Err : goal.returns-in-Err
returns-in-Err c =
    let is = sym (ap shown c.in-Err.is) ∙ c.build.ensures.result_value in
    record { value = c.number.ensures ∙ ap number_in is; place_after = c.place.ensures ∙ ap place_of is; out_after = c.build.ensures.out_after }
