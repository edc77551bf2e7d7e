-- `refs_stand` meets its contract: a PPTT's references are judged, and a row of another table has none.
use mathlib.Core.Path.{◌≡◌, refl, ap}
use native.Mathlib.Omega.{arith}
use Rattle.format.specs.Table.{pptt, code}
use Rattle.header.specs.declared.Table.{Table}
use Rattle.header.specs.declared.Table.TheVariants.{Pptt, Srat, Hmat, Cedt}
use Rattle.header.specs.Header.{meant}
use Rattle.read.proofs.Refs.{other-refs}
use Rattle.read.proofs.Pass.refs_stand.Goals as goal

-- the others are no PPTT
other-table : (t : Table) → (t ≡ Pptt → ⊥) → meant t ≡ pptt → ⊥
other-table Pptt z e = z refl
other-table Srat z e = let n = ap code e in omega arith
other-table Hmat z e = let n = ap code e in omega arith
other-table Cedt z e = let n = ap code e in omega arith

pub invariant_of-earlier : goal.invariant_of-earlier
invariant_of-earlier g c = record { few = c.requires.few; passed = rw c.in-Pptt.is at c.requires.passed }

pub returns-in-Pptt : goal.returns-in-Pptt
returns-in-Pptt g c = rw c.in-Pptt.is c.refs_good.ensures

pub returns-in_default : goal.returns-in_default
returns-in_default g c = other-refs _ (meant c.args.self.now.t) _ _ (other-table _ c.in_default.not-Pptt) c.requires.of_table
