-- The answers that the search does not find.
use mathlib.Core.Path.{◌≡◌, refl, sym, ap, ◌∙◌}
use native.Mathlib.Omega.{arith}
use Rattle.std.specs.Prelude.{Result, Ok, Err}
use Rattle.std.specs.Result.{result_ok}
use Rattle.format.specs.Bytes.{pick}
use Rattle.format.specs.Form.{byte}
use Rattle.format.specs.Kind.{no_kind}
use Rattle.recipe.specs.declared.Kind.{Kind}
use Rattle.recipe.specs.declared.Unnamed.{Unnamed}
use Rattle.recipe.specs.declared.Unnamed.TheVariants as is
use Rattle.recipe.specs.Kinds.{meant_kind, named, coming, is_retired}
use Rattle.recipe.specs.Answers.{number, unnamed, outlined}
use Rattle.recipe.proofs.Numbers.{body-short}
use Rattle.recipe.proofs.Walks.{length-noted, starts-so, ends, incomplete, bad_kind_lem, cut_off_lem, stops, stops_at, within, goes, clear}
use Rattle.recipe.proofs.walk.Goals as goal

-- what comes is the kind that is named
comes : (n : Result Kind Unnamed) → coming (result_ok n) ≡ named n
comes (Ok k) = refl
comes (Err u) = refl

-- the refusal of a byte that names no kind has the format's number
numbered : (u : Unnamed) → number (unnamed u) ≡ pick (is_retired (Err u)) 12 2
numbered is.Retired = refl
numbered is.Nothing = refl

pub loop-at-init : goal.loop-at-init
loop-at-init c = rw (c.new-st.ensures byte) (starts-so _ _ _ c.requires, refl)

-- the newest node lacks an entry
pub returns-then-lacks : goal.returns-then-lacks
returns-then-lacks c =
    let f = rw (c.ok.ensures.value, comes c.kind_of-named.result, c.kind_of-named.ensures.result_value) at (sym c.lacks.ensures ∙ c.if-lacks.true) in
    rw c.at.ensures (sym (ap outlined (incomplete _ _ _ _ _ _ c.loop-at.invariant.0 c.loop-at-test.true f)))

pub returns-in-Err : goal.returns-in-Err
unfolding no_kind
returns-in-Err c =
    let n = c.kind_of-named.result in
    let e = sym c.kind_of-named.ensures.result_value ∙ ap named c.in-Err.is in
    let f = rw (c.ok.ensures.value, comes n, c.kind_of-named.ensures.result_value, e) at (sym c.lacks.ensures ∙ c.if-lacks.false) in
    let r = sym (ap is_retired c.in-Err.is) ∙ c.kind_of-named.ensures.result_value_2 in
    rw (c.at-in-Err.ensures, c.from.ensures, numbered, r) (sym (ap outlined (bad_kind_lem _ _ _ _ _ _ c.loop-at.invariant.0 c.loop-at-test.true e f)))

pub overflow_add-end-in-loop-at : goal.overflow_add-end-in-loop-at
overflow_add-end-in-loop-at c = omega (arith, body-short (meant_kind c.in-Ok.kind))

pub returns-then-bytes-n : goal.returns-then-bytes-n
returns-then-bytes-n c =
    let e = sym c.kind_of-named.ensures.result_value ∙ ap named c.in-Ok.is in
    let f = rw (c.ok.ensures.value, comes c.kind_of-named.result, c.kind_of-named.ensures.result_value, e) at (sym c.lacks.ensures ∙ c.if-lacks.false) in
    rw c.at-then-bytes-n.ensures (sym (ap outlined (cut_off_lem _ _ _ _ _ _ c.loop-at.invariant.0 c.loop-at-test.true _ e f (rw (c.rest-bytes.ensures, c.body_len-n.ensures) at c.if-bytes-n.true))))

pub judge-requires : goal.judge-requires
judge-requires c =
    rw (← c.body_len-n.ensures) c.if-bytes-n.false

pub note_type-requires : goal.note_type-requires
note_type-requires c q =
    let e = sym c.kind_of-named.ensures.result_value ∙ ap named c.in-Ok.is in
    let f = rw (c.ok.ensures.value, comes c.kind_of-named.result, c.kind_of-named.ensures.result_value, e) at (sym c.lacks.ensures ∙ c.if-lacks.false) in
    clear _ _ _ _ _ _ c.loop-at.invariant.0 c.loop-at-test.true _ e f q

pub loop-at-smaller : goal.loop-at-smaller
loop-at-smaller c =
    omega (arith, c.past_cells-at.ensures.0, c.loop-at-test.true)

pub loop-at-preserved : goal.loop-at-preserved
loop-at-preserved c =
    let e = sym c.kind_of-named.ensures.result_value ∙ ap named c.in-Ok.is in
    let f = rw (c.ok.ensures.value, comes c.kind_of-named.result, c.kind_of-named.ensures.result_value, e) at (sym c.lacks.ensures ∙ c.if-lacks.false) in
    let d = rw c.rest-bytes.ensures at c.judge.ensures in
    let s = goes _ _ _ _ _ _ c.loop-at.invariant.0 c.loop-at-test.true _ e f (rw (c.rest-bytes.ensures, c.body_len-n.ensures) at c.if-bytes-n.false) _ d _ c.in-Ok-judge.is in
    rw (c.note_type.ensures, c.newer-made.ensures)
    (c.past_cells-at.ensures.1 _ _ _ (rw c.body_len-n.ensures s), length-noted (meant_kind c.in-Ok.kind) c.loop-at.st.nodes c.loop-at.types ∙ c.loop-at.invariant.1)

-- what is judged of the record at a place
pub returns-in-Err-Record : goal.returns-in-Err-Record
returns-in-Err-Record c =
    let e = sym c.kind_of-named.ensures.result_value ∙ ap named c.in-Ok.is in
    let f = rw (c.ok.ensures.value, comes c.kind_of-named.result, c.kind_of-named.ensures.result_value, e) at (sym c.lacks.ensures ∙ c.if-lacks.false) in
    let d = rw c.rest-bytes.ensures at c.judge.ensures in
    rw (c.at-in-Err-Record.ensures, c.in-Err-Record.field-0-is) (sym (ap outlined (stops _ _ _ _ _ _ c.loop-at.invariant.0 c.loop-at-test.true _ e f (rw (c.rest-bytes.ensures, c.body_len-n.ensures) at c.if-bytes-n.false) _ d _ (c.in-Err-Record.is ∙ ap Err c.in-Err-Record.field-0-is))))

pub overflow_add-at-in-Err-Field : goal.overflow_add-at-in-Err-Field
overflow_add-at-in-Err-Field c =
    let e = sym c.kind_of-named.ensures.result_value ∙ ap named c.in-Ok.is in
    let f = rw (c.ok.ensures.value, comes c.kind_of-named.result, c.kind_of-named.ensures.result_value, e) at (sym c.lacks.ensures ∙ c.if-lacks.false) in
    let d = rw c.rest-bytes.ensures at c.judge.ensures in
    let l = within _ _ _ _ _ _ c.loop-at.invariant.0 c.loop-at-test.true _ e f (rw (c.rest-bytes.ensures, c.body_len-n.ensures) at c.if-bytes-n.false) _ d _ (c.in-Err-Field.is ∙ ap Err c.in-Err-Field.field-0-is) in
    omega (arith, l, body-short (meant_kind c.in-Ok.kind), c.body_len-n.ensures)

pub returns-in-Err-Field : goal.returns-in-Err-Field
returns-in-Err-Field c =
    let e = sym c.kind_of-named.ensures.result_value ∙ ap named c.in-Ok.is in
    let f = rw (c.ok.ensures.value, comes c.kind_of-named.result, c.kind_of-named.ensures.result_value, e) at (sym c.lacks.ensures ∙ c.if-lacks.false) in
    let d = rw c.rest-bytes.ensures at c.judge.ensures in
    rw (c.at-in-Err-Field.ensures, c.in-Err-Field.field-0-is) (sym (ap outlined (stops_at _ _ _ _ _ _ c.loop-at.invariant.0 c.loop-at-test.true _ e f (rw (c.rest-bytes.ensures, c.body_len-n.ensures) at c.if-bytes-n.false) _ d _ (c.in-Err-Field.is ∙ ap Err c.in-Err-Field.field-0-is))))

pub returns : goal.returns
returns c =
    c.ended.ensures ∙ sym (ends _ _ _ _ _ _ c.loop-at.invariant.0 c.loop-at-test.false)
