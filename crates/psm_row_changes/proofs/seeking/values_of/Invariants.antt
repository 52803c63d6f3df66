use Rattle.std.proofs.Common.{◌≡◌, take}
use Rattle.std.specs.Prelude.{map}
use Rattle.psm_table.specs.Key.{values_at}
use Rattle.psm_row_changes.proofs.seeking.values_of.Given as goal

abbrev pub invariant-loop-row : goal.invariant-loop-row
invariant-loop-row l = l.values.items ≡ map (values_at l.columns) (take l.row-index l.rows)
