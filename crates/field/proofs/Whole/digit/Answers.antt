-- `Whole::digit` meets its contract: what is left out is a multiple of ten.
use Rattle.std.proofs.Common.{◌≡◌, ℕ, ◌+◌, ◌*◌, ◌/◌, ◌%◌, arith}
use Rattle.field.specs.Whole.{number_of}
use Rattle.field.proofs.Whole.digit.Goals as goal

tens : (n m k : ℕ) → n ≡ m + 10 * k → m % 10 ≡ n % 10
tens n m k e = omega arith

pub returns : goal.returns
returns c =
    let w = c.args.self in
    tens (number_of w) c.units.result (256 * (w.high / 10)) (omega (arith, c.units.ensures))
