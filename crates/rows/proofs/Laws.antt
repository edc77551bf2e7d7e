-- Rows without ranges are sound where their fixed values are; and neither handle has a list, by cases on the handle.
use mathlib.Core.Path.{◌≡◌, refl, sym}
use Prim.Native.Nat.{ℕ}
use mathlib.Core.List.{List, []}
use mathlib.Core.Bool.{Bool, true, false}
use mathlib.Core.Option.{some}
use lib.Dec.{eqb}
use Rattle.format.specs.Bytes.{pick, at}
use Rattle.format.specs.Layout.{fixed_ok}
use Rattle.format.specs.Form.{domain, acpi, pci, layout, ranges}
use Rattle.format.specs.Row.{processors, initiators, form_in}
use Rattle.format.specs.Read.{sound, list_in, part_of}
use Rattle.laws.proofs.Tests.{both_right}

pub processor_fixed : (bs : List ℕ) → fixed_ok (layout (form_in processors bs)) bs ≡ sound (form_in processors bs) bs
unfolding sound form_in ranges
processor_fixed bs = sym (both_right (fixed_ok (layout (form_in processors bs)) bs))

pub domain_fixed : (bs : List ℕ) → fixed_ok (layout domain) bs ≡ sound domain bs
unfolding sound ranges
domain_fixed bs = sym (both_right (fixed_ok (layout domain) bs))

pub no_handle_list : (bs : List ℕ) → [] ≡ part_of (some initiators) bs
unfolding part_of form_in list_in
no_handle_list bs = by (eqb (at bs 3) 0)
  where
    by : (b : Bool) → [] ≡ list_in (pick b acpi pci) bs
    by true = refl
    by false = refl
