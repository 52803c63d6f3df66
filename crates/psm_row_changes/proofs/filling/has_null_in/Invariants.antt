use Rattle.std.proofs.Common.{◌≡◌, take, false}
use Rattle.psm_table.specs.Key.{values_at}
use Rattle.psm_table.specs.Unique.{has_null}
use Rattle.psm_row_changes.proofs.filling.has_null_in.Given as goal

abbrev pub invariant-loop-column : goal.invariant-loop-column
invariant-loop-column l = has_null (values_at (take l.column-index l.columns) l.row) ≡ false
