-- `Whole::tenth` meets its contract: of ten times 256 a tenth is 256, so what high leaves over goes to low, whose tenth is a byte again.
use Rattle.std.proofs.Common.{◌≡◌, ◌/◌, ◌%◌, arith}
use Rattle.field.specs.Whole.{number_of}
use Rattle.field.proofs.Whole.tenth.Goals as goal

pub returns : goal.returns
returns c =
    let w = c.args.self in
    let h : w.high / 10 ≡ number_of w / 10 / 256 = omega (arith, c.units.ensures) in
    let r : c.units.result / 10 ≡ number_of w / 10 % 256 = omega (arith, c.units.ensures) in
    rw (h, r)
