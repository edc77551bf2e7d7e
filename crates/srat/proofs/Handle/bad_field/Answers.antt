-- `Handle::bad_field` meets its contract: of a PCI device, device and function have ranges.
use borrow.Author.Tests.{le-leb, lt-leb}
use Rattle.format.specs.Kind.{body}
use Rattle.format.specs.Field.{first_bad}
use Rattle.srat.proofs.Handle.bad_field.Goals as goal

pub returns-in_default : goal.returns-in_default
returns-in_default c = rw c.in_default.is

pub returns-then-device-gt-MAX_DEVICE : goal.returns-then-device-gt-MAX_DEVICE
unfolding first_bad body
returns-then-device-gt-MAX_DEVICE c = rw (c.in-Pci.is, lt-leb _ 31 c.if-device-gt-MAX_DEVICE.true)

pub returns-then-function-gt-MAX_FUNCTION : goal.returns-then-function-gt-MAX_FUNCTION
unfolding first_bad body
returns-then-function-gt-MAX_FUNCTION c =
    rw (c.in-Pci.is, le-leb _ 31 c.if-device-gt-MAX_DEVICE.false, lt-leb _ 7 c.if-function-gt-MAX_FUNCTION.true)

pub returns : goal.returns
unfolding first_bad body
returns c =
    rw (c.in-Pci.is, le-leb _ 31 c.if-device-gt-MAX_DEVICE.false, le-leb _ 7 c.if-function-gt-MAX_FUNCTION.false)
