-- `acpi_record_at` meets its contract: the record and the part at the place, as numbers.
use mathlib.Core.Path.{◌≡◌, ap}
use native.Mathlib.Omega.{arith}
use lib.ListN.{length}
use Rattle.read.specs.Places.{seen_at}
use Rattle.read.proofs.Listing.{shown-next, body-room}
use Rattle.read.proofs.Once.{seen-place}
use Rattle.acpi.proofs.Records.{part_low, at_place}
use Rattle.acpi.proofs.acpi_record_at.Goals as goal

pub overflow_sub-record : goal.overflow_sub-record
overflow_sub-record c =
    let a = c.args in
    let s = seen_at a.table.now a.mask a.place in
    let l : c.record_at-record.result.length ≡ length s.body = let e = c.record_at-record.ensures 0 in cc in
    omega (arith, l, ap length c.part_at-part.ensures, part_low s.row s.body)

pub overflow_add-record : goal.overflow_add-record
overflow_add-record c =
    let a = c.args in
    let s = seen_at a.table.now a.mask a.place in
    let p : c.record_at-record.result.place ≡ s.place = let e = c.record_at-record.ensures 0 in cc in
    omega (arith, p, seen-place a.table.now a.mask a.place, shown-next a.table.now a.mask a.place c.record_at-record.result (c.record_at-record.ensures 0), body-room a.table.now a.place)

pub returns : goal.returns
returns c =
    let a = c.args in
    at_place a.table.now a.mask a.place c.record_at-record.result _ a.answer.now _ (c.record_at-record.ensures 0) c.part_at-part.ensures c.put_record.ensures
