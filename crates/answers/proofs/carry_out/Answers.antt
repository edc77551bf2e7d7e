-- `carry_out` meets its contract: the line of what the call answers is that of the call on a filled buffer.
use mathlib.Core.Path.{ap, sym, ◌∙◌}
use Rattle.build.specs.Answers as making
use Rattle.readout.specs.Answers as reading
use Rattle.text.specs.Text.{with}
use Rattle.answers.proofs.Laws.{builds, builds_not, reads-out, reads-out_not}
use Rattle.answers.proofs.carry_out.Goals as goal

pub returns-in-Ok : goal.returns-in-Ok
returns-in-Ok c =
    let a = c.args in
    let is = sym (ap making.shown c.in-Ok.is) ∙ c.build.ensures.result_value in
    rw c.in-Build.is (c.succeeded.ensures ∙ ap (with a.text.now) (builds a.bytes.now a.out.now _ _ c.fill.ensures _ is c.build.ensures.out_after))

pub returns-in-Err : goal.returns-in-Err
returns-in-Err c =
    let a = c.args in
    let is = sym (ap making.shown c.in-Err.is) ∙ c.build.ensures.result_value in
    rw c.in-Build.is
    (c.refused.ensures ∙ rw (c.number.ensures, c.place.ensures) (ap (with a.text.now) (builds_not a.bytes.now a.out.now _ _ c.fill.ensures c.in-Err.e is c.build.ensures.out_after)))

pub returns-in-Ok-read_out : goal.returns-in-Ok-read_out
returns-in-Ok-read_out c =
    let a = c.args in
    let is = sym (ap reading.shown c.in-Ok-read_out.is) ∙ c.read_out.ensures.result_value in
    rw c.in-Out.is (c.succeeded-in-Ok-read_out.ensures ∙ ap (with a.text.now) (reads-out a.bytes.now a.out.now _ _ c.fill.ensures _ is c.read_out.ensures.out_after))

pub returns-in-Err-read_out : goal.returns-in-Err-read_out
returns-in-Err-read_out c =
    let a = c.args in
    let is = sym (ap reading.shown c.in-Err-read_out.is) ∙ c.read_out.ensures.result_value in
    rw c.in-Out.is
    (c.refused-in-Err-read_out.ensures
    ∙ rw (c.number-in-Err-read_out.ensures, c.place-in-Err-read_out.ensures) (ap (with a.text.now) (reads-out_not a.bytes.now a.out.now _ _ c.fill.ensures c.in-Err-read_out.e is c.read_out.ensures.out_after)))
