-- `put_record` meets its contract: six numbers, and the fields behind them.
use Rattle.acpi.proofs.Records.{record-laid}
use Rattle.acpi.proofs.put_record.Goals as goal

pub returns : goal.returns
returns c =
    record-laid _ _ _ _ _ _ _ _ _ _ _ c.row_number.ensures c.copy.ensures c.put_fields.ensures
