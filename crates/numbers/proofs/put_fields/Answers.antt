-- `put_fields` meets its contract: each row's fields are those of its node, and an unknown record has none.
use mathlib.Core.Path.{sym}
use mathlib.Core.List.{[]}
use native.Mathlib.Omega.{arith}
use Rattle.laws.proofs.Bytes.{over_none}
use Rattle.numbers.proofs.put_fields.Goals as goal

pub returns-in_default : goal.returns-in_default
returns-in_default c = rw c.in_default.is (sym (over_none c.args.answer.now c.args.at [] (omega arith)))
