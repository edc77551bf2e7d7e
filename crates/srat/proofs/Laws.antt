-- The form of an initiator by its handle, its fixed values and ranges, and what a reading call shows of a node.
use mathlib.Core.Path.{◌≡◌, refl}
use Prim.Native.Nat.{ℕ, ◌/◌, ◌%◌, ◌<◌}
use mathlib.Core.List.{List, [], ◌∷◌}
use mathlib.Core.Bool.{Bool, true, false}
use native.Mathlib.Omega.{arith}
use lib.Dec.{eqb, leb}
use borrow.Author.Tests.{le-leb}
use Rattle.format.specs.Bytes.{pick, both, all, at, value, part}
use Rattle.format.specs.Layout.{as_is, fixed_ok}
use Rattle.format.specs.Form.{acpi, pci, rintc, old_rintc, layout, ranges}
use Rattle.format.specs.Kind.{body}
use Rattle.format.specs.Field.{first_bad, bad_field}
use Rattle.format.specs.Row.{initiators, form_in}
use Rattle.format.specs.Read.{sound, shown}
use Rattle.laws.proofs.Tests.{both_right}
use Rattle.laws.proofs.Bytes.{value-byte}
use Rattle.laws.proofs.Offsets.{fields-at}
use Rattle.laws.proofs.Fields.{fixed-now}
use Rattle.std.specs.Prelude.{Some}
use Rattle.field.specs.Place.{place_or_none}
use Rattle.srat.specs.declared.Handle.{Handle}
use Rattle.srat.specs.declared.Handle.TheVariants.{Acpi, Pci}
use Rattle.srat.specs.declared.MemoryAffinity.{MemoryAffinity}
use Rattle.srat.specs.declared.GenericInitiator.{GenericInitiator}
use Rattle.srat.specs.declared.RintcAffinity.{RintcAffinity}
use Rattle.srat.specs.declared.OldRintcAffinity.{OldRintcAffinity}
use Rattle.srat.specs.Srat.{handle_fixed, rintc_fixed, handle_bad, flags_place, handle_form, handle_type, memory_node, initiator_node, rintc_node, old_rintc_node, memory_shown, initiator_shown, rintc_shown, old_rintc_shown}

-- the number in the byte of the handle says the form of an initiator
pub initiator-form : (bs : List ℕ) → form_in initiators bs ≡ pick (eqb (value (part bs 3 1)) 0) acpi pci
unfolding form_in
initiator-form bs = rw (value-byte bs 3)

-- an initiator's zeros and fixed values, those of the handle in one test
pub initiator-fixed : (bs : List ℕ)
    → fixed_ok (layout (form_in initiators bs)) bs
    ≡ all (eqb (value (part bs 0 1)) 5 ∷ eqb (value (part bs 1 1)) 32 ∷ eqb (value (part bs 2 1)) 0 ∷ handle_fixed bs ∷ eqb (value (part bs 28 4)) 0 ∷ [])
unfolding layout handle_fixed
initiator-fixed bs = rw (initiator-form bs) (by (eqb (value (part bs 3 1)) 0) (eqb (value (part bs 3 1)) 1) refl refl)
  where
    by : (a b : Bool) → eqb (value (part bs 3 1)) 0 ≡ a → eqb (value (part bs 3 1)) 1 ≡ b
        → fixed_ok (layout (pick a acpi pci)) bs
        ≡ all (eqb (value (part bs 0 1)) 5 ∷ eqb (value (part bs 1 1)) 32 ∷ eqb (value (part bs 2 1)) 0 ∷ handle_fixed bs ∷ eqb (value (part bs 28 4)) 0 ∷ [])
    by true b e f = rw (fixed-now, e, both_right)
    by false true e f = rw (fixed-now, e, f, both_right)
    by false false e f = rw (fixed-now, e, f)

-- flags are what is left to test of an initiator's ranges: device and function share a byte, so that neither can be outside its own
pub initiator-sound : (bs : List ℕ) → at bs 11 < 256
    → sound (form_in initiators bs) bs ≡ both (fixed_ok (layout (form_in initiators bs)) bs) (leb (value (part bs 24 4)) 3)
unfolding sound layout ranges
initiator-sound bs h = rw (initiator-form bs) (by (eqb (value (part bs 3 1)) 0))
  where
    l : value (part bs 11 1) < 256
    l = rw (value-byte bs 11) at h

    by : (b : Bool) → sound (pick b acpi pci) bs ≡ both (fixed_ok (layout (pick b acpi pci)) bs) (leb (value (part bs 24 4)) 3)
    by true = rw (fields-at as_is (layout acpi) bs 0)
    by false =
        rw (fields-at as_is (layout pci) bs 0, le-leb (value (part bs 11 1) / 8) 31 (omega (arith, l)), le-leb (value (part bs 11 1) % 8) 7 (omega (arith, l)))

-- the ranges of an initiator: those of its handle first, then the flags, whose place goes by the handle
pub initiator-bad : (i : GenericInitiator)
    → bad_field (initiator_node i) ≡ pick (eqb (handle_bad i.handle) 0) (pick (leb i.flags 3) 0 (flags_place i.handle)) (handle_bad i.handle)
unfolding bad_field first_bad body ranges
initiator-bad i = by i.handle refl
  where
    by : (h : Handle) → i.handle ≡ h
        → bad_field (initiator_node i) ≡ pick (eqb (handle_bad i.handle) 0) (pick (leb i.flags 3) 0 (flags_place i.handle)) (handle_bad i.handle)
    by (Acpi hid uid) e = rw e
    by (Pci segment bus device function) e = rw e (both_ways (leb device 31) (leb function 7))
      where
        both_ways : (a b : Bool)
            → ◌≡◌ {A = ℕ} (pick a (pick b (pick (leb i.flags 3) 0 10) 9) 8) (pick (eqb (pick a (pick b 0 9) 8) 0) (pick (leb i.flags 3) 0 10) (pick a (pick b 0 9) 8))
        both_ways true true = refl
        both_ways true false = refl
        both_ways false b = refl

-- the flags have a place behind either handle
pub flags-placed : (h : Handle) → place_or_none (flags_place h) ≡ Some (flags_place h)
flags-placed (Acpi hid uid) = refl
flags-placed (Pci segment bus device function) = refl

pub rintc-fixed : (bs : List ℕ) → fixed_ok (layout rintc) bs ≡ rintc_fixed 20 bs
unfolding layout
rintc-fixed bs = rw (fixed-now, both_right (eqb (value (part bs 2 2)) 0))

-- without its domain, the flags alone have a range
pub old-rintc-sound : (bs : List ℕ) → sound old_rintc bs ≡ both (rintc_fixed 16 bs) (leb (value (part bs 8 4)) 1)
unfolding sound layout ranges
old-rintc-sound bs = rw (fixed-now, fields-at as_is (layout old_rintc) bs 0, both_right (eqb (value (part bs 2 2)) 0))

pub memory-shown : (m : MemoryAffinity) → memory_shown m ≡ shown (memory_node m).form (memory_node m).values
unfolding shown
memory-shown m = refl

handle-shown : (h : Handle) (vs : List ℕ) → handle_type h ∷ vs ≡ shown (handle_form h) vs
unfolding shown
handle-shown (Acpi hid uid) vs = refl
handle-shown (Pci segment bus device function) vs = refl

pub initiator-shown : (i : GenericInitiator) → initiator_shown i ≡ shown (initiator_node i).form (initiator_node i).values
initiator-shown i = handle-shown i.handle (initiator_node i).values

pub rintc-shown : (r : RintcAffinity) → rintc_shown r ≡ shown (rintc_node r).form (rintc_node r).values
unfolding shown
rintc-shown r = refl

pub old-rintc-shown : (r : OldRintcAffinity) → old_rintc_shown r ≡ shown (old_rintc_node r).form (old_rintc_node r).values
unfolding shown
old-rintc-shown r = refl
