use Rattle.std.proofs.Common.{◌≡◌, take}
use Rattle.psm_table.specs.Key.{values_at}
use Rattle.psm_row_changes.proofs.lookups.values_in.Given as goal

abbrev pub invariant-loop-column : goal.invariant-loop-column
invariant-loop-column l = l.values.items ≡ values_at (take l.column-index l.columns) l.row
