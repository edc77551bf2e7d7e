-- `CxlHostBridge::registers` meets its contract: each version has the registers of its number.
use mathlib.Core.Path.{sym, ◌∙◌}
use borrow.Author.Tests.{eq-eqb, ne_eqb}
use Rattle.format.specs.Form.{registers}
use Rattle.cedt.proofs.CxlHostBridge.registers.Goals as goal

pub returns-then-self-from : goal.returns-then-self-from
unfolding registers
returns-then-self-from c =
    rw (c.len.ensures, eq-eqb _ 0 (c.if-self-from.true ∙ c.from.ensures))

pub returns : goal.returns
unfolding registers
returns c =
    rw (c.len-2.ensures, ne_eqb _ 0 (λ e. c.if-self-from.false (e ∙ sym c.from.ensures)))
