-- `acpi_check` meets its contract: number and place are those of what `check` answers.
use mathlib.Core.Path.{sym, ap, ◌∙◌}
use Rattle.recipe.specs.Answers.{shown}
use Rattle.build.specs.Answers.{number_in, place_of}
use Rattle.acpi.proofs.Answers.{is-checked}
use Rattle.acpi.proofs.acpi_check.Goals as goal

pub returns-in-Ok : goal.returns-in-Ok
returns-in-Ok c =
    let is = is-checked c.args.recipe.now (sym (ap shown c.in-Ok.is) ∙ c.check.ensures) in
    record { value = ap number_in is; place_after = ap place_of is }

pub returns-in-Err : goal.returns-in-Err
returns-in-Err c =
    let is = is-checked c.args.recipe.now (sym (ap shown c.in-Err.is) ∙ c.check.ensures) in
    record { value = c.number.ensures ∙ ap number_in is; place_after = ap place_of is }
