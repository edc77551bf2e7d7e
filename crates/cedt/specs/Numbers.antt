-- The numbers that the enums stand for.
use Rattle.std.specs.Prelude.{ℕ}
use Rattle.cedt.specs.declared.CxlVersion.{CxlVersion}
use Rattle.cedt.specs.declared.CxlVersion.TheVariants as version
use Rattle.cedt.specs.declared.InterleaveArithmetic.{InterleaveArithmetic}
use Rattle.cedt.specs.declared.InterleaveArithmetic.TheVariants as arithmetic
use Rattle.cedt.specs.declared.InterleaveGranularity.{InterleaveGranularity}
use Rattle.cedt.specs.declared.InterleaveGranularity.TheVariants as granularity
use Rattle.cedt.specs.declared.InterleaveWays.{InterleaveWays}
use Rattle.cedt.specs.declared.InterleaveWays.TheVariants as way

-- CXL 1.1 and CXL 2
abbrev pub version_number : CxlVersion → ℕ
version_number version.Cxl1_1 = 0
version_number version.Cxl2 = 1

-- how an address finds its target
abbrev pub arithmetic_number : InterleaveArithmetic → ℕ
arithmetic_number arithmetic.Modulo = 0
arithmetic_number arithmetic.ModuloXor = 1

-- 256 times 2 to this many bytes
abbrev pub granularity_number : InterleaveGranularity → ℕ
granularity_number granularity.Granularity256b = 0
granularity_number granularity.Granularity512b = 1
granularity_number granularity.Granularity1kb = 2
granularity_number granularity.Granularity2kb = 3
granularity_number granularity.Granularity4kb = 4
granularity_number granularity.Granularity8kb = 5
granularity_number granularity.Granularity16kb = 6

-- the codes of the ways, which are not their numbers
abbrev pub ways_number : InterleaveWays → ℕ
ways_number way.Ways1 = 0
ways_number way.Ways2 = 1
ways_number way.Ways4 = 2
ways_number way.Ways8 = 3
ways_number way.Ways16 = 4
ways_number way.Ways3 = 8
ways_number way.Ways6 = 9
ways_number way.Ways12 = 10
