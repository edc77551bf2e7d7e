-- `build` meets its contract: what the check refuses is refused, and what has no room; the rest is written.
use Rattle.std.proofs.Common.{◌∙◌}
use Rattle.std.proofs.lemmas.Result.{err_from_is_err_and}
use Rattle.header.specs.Header.{meant}
use Rattle.recipe.specs.Answers.{number}
use Rattle.build.proofs.Answers.{is-refused, no_room_lem, has_room, is-built}
use Rattle.build.proofs.build.Goals as goal

pub returns-in_err-outline : goal.returns-in_err-outline
returns-in_err-outline c =
    let a = c.args in
    let r = c.in_err-outline.field-0.0 in
    let (error, e, f) = err_from_is_err_and c.from_residual.result c.from_residual.ensures.1 in
    let (n, o) = is-refused a.recipe.now a.out.now (number r.refusal) r.at c.in_err-outline.ensures in
    record { result_value = rw (e, f) n; out_after = o }

pub returns-then-out-outline : goal.returns-then-out-outline
returns-then-out-outline c =
    let a = c.args in
    let s = c.in_ok-outline in
    let (n, o) = no_room_lem a.recipe.now a.out.now (meant s.outline.table) s.outline.len s.ensures c.if-out-outline.true in
    record { result_value = n; out_after = o }

pub write-requires : goal.write-requires
write-requires c =
    let a = c.args in
    let s = c.in_ok-outline in
    has_room a.recipe.now a.out.now (meant s.outline.table) s.outline.len s.ensures c.if-out-outline.false

pub returns : goal.returns
returns c =
    let a = c.args in
    let s = c.in_ok-outline in
    let (n, o) = is-built a.recipe.now a.out.now (meant s.outline.table) s.outline.len s.ensures c.if-out-outline.false in
    record { result_value = n; out_after = c.write.ensures ∙ o }
