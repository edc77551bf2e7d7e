-- `values` meets its contract: the fields stand at the front of the array.
use Rattle.answers.proofs.Laws.{take-over, few}
use Rattle.laws.proofs.Bytes.{length_over}
use Rattle.read.specs.Answers.{fields_in}
use lib.ListN.{length, replicate}
use lib.Seq.{length-take-le}
use mathlib.Core.Path.{sym, ap}
use native.Mathlib.Omega.{arith}
use Rattle.answers.proofs.values.Goals as goal

pub slice_bounds-vs-end : goal.slice_bounds-vs-end
slice_bounds-vs-end c =
    omega (arith, few c.args.node, simp length_over at (ap length c.put_fields.ensures))

pub slice_bounds-list-end : goal.slice_bounds-list-end
slice_bounds-list-end c =
    sym (length-take-le c.fields_count-k.result _ (omega (arith, few c.args.node, simp length_over at (ap length c.put_fields.ensures))))

pub returns : goal.returns
returns c =
    let x = c.args.node in
    rw (← take-over (replicate 8 0) (fields_in x) c.fields_count-k.result (sym c.fields_count-k.ensures) (omega (arith, few x)), ← c.put_fields.ensures) c.list.ensures
